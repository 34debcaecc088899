-- Where an object's word and home stand.
use Rattle.std.specs.Prelude.{ℕ, ◌+◌, ◌*◌, ◌<◌}
use Rattle.pool_law.specs.declared.run.Shape.{Shape}
use Rattle.pool_law.specs.declared.note.Object.{Object}
use Rattle.pool_law.specs.declared.note.Object.TheVariants.{Arena, Cache, Bin, Mail, Root}
use Rattle.pool_law.specs.Limits.{cached_classes}

-- how many homes a lane has for its caches and its bin
abbrev pub lane_homes : ℕ
lane_homes = cached_classes + 1

-- the object is one of this shape that has a word and a home: each but the mails
abbrev pub IsObjectOf : Shape → Object → Type 0
IsObjectOf s (Arena a) = a < s.arenas
IsObjectOf s (Cache lane class) = (lane < s.lanes) × (class < cached_classes)
IsObjectOf s (Bin lane) = lane < s.lanes
IsObjectOf s (Mail from to) = ⊥
IsObjectOf s (Root place) = place < s.lanes * s.handles

-- how many objects with a home there are
abbrev pub objects_of : Shape → ℕ
objects_of s = s.arenas + s.lanes * lane_homes + s.lanes * s.handles

-- arenas, then caches by lane and class, then bins, then root places; a mail stands past them all
abbrev pub home_of : Shape → Object → ℕ
home_of s (Arena a) = a
home_of s (Cache lane class) = s.arenas + lane * cached_classes + class
home_of s (Bin lane) = s.arenas + s.lanes * cached_classes + lane
home_of s (Root place) = s.arenas + s.lanes * lane_homes + place
home_of s (Mail from to) = objects_of s
