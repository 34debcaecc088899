-- The grounds of a pool of two arenas with two chunks each.
use Rattle.std.specs.Prelude.{ℕ, [], ◌∷◌}
use Rattle.ground.specs.Ground.{Origin, Segment}
use Rattle.ground.specs.Grounds.{Grounds}

-- a ground by its number
abbrev pub ground_numbered : ℕ → Origin
ground_numbered n = record { name = n; block = n; first = 0; size = 65536 }

-- the grounds by arena and chunk
abbrev pub grounds : Grounds
grounds =
    (ground_numbered 0 ∷ ground_numbered 1 ∷ [])
    ∷ (ground_numbered 2 ∷ ground_numbered 3 ∷ [])
    ∷ []

-- three bytes of a ground
abbrev pub piece : ℕ → ℕ → Segment
piece n start =
    record { origin = ground_numbered n; start = start; bytes = 1 ∷ 2 ∷ 3 ∷ [] }
