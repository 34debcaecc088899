-- What a value is told of the object at which it stands.
use Rattle.std.specs.Prelude.{ℕ, List, [], ◌∷◌}
use Rattle.pool_law.specs.declared.run.Shape.{Shape}
use Rattle.pool_law.specs.declared.note.Object.{Object}
use Rattle.pool_law.specs.declared.note.Object.TheVariants.{Arena, Cache, Bin, Mail, Root}

-- the kind of the object, its numbers, and the measures of the shape that it has; no value stands at
-- a mail
abbrev pub measures_of : Shape → Object → List ℕ
measures_of s (Arena a) = 0 ∷ a ∷ s.order ∷ s.page ∷ s.chunks ∷ []
measures_of s (Cache lane class) = 1 ∷ lane ∷ class ∷ []
measures_of s (Bin lane) = 2 ∷ lane ∷ s.handles ∷ []
measures_of s (Mail from to) = []
measures_of s (Root place) = 4 ∷ place ∷ s.handles ∷ s.lanes ∷ s.order ∷ s.page ∷ []
