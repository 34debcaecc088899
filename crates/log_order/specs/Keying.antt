-- The keys of objects.
use Rattle.std.specs.Prelude.{ℕ}
use Rattle.pool_law.specs.declared.note.Object.{Object}
use Rattle.pool_law.specs.declared.note.Object.TheVariants.{Arena, Cache, Bin, Mail, Root}

-- the key of an object
abbrev pub object_key : Object → ℕ × ℕ × ℕ
object_key (Arena number) = (0, number, 0)
object_key (Cache lane class) = (1, lane, class)
object_key (Bin lane) = (2, lane, 0)
object_key (Mail from to) = (3, from, to)
object_key (Root place) = (4, place, 0)
