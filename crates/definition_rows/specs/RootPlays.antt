-- Plays on the root place with the number 7, where a root of four bytes is born first.
use Rattle.std.specs.Prelude.{ℕ, List, ◌∷◌, Option, option_map, option_and_then}
use Rattle.pool_law.specs.declared.note.Did.{Did}
use Rattle.pool_law.specs.Roots.{RootPlace}
use Rattle.pool_law.specs.Histories.{place_after}
use Rattle.definition_rows.specs.Notes.{root, least_region}

-- the place after the birth and these notes
abbrev pub after_birth : List Did → Option RootPlace
after_birth ds = place_after 7 (Did.Birth (root 7 1 4) (least_region 1) ∷ ds)

-- the bytes of the root that is present
abbrev pub present_bytes : Option RootPlace → Option (List ℕ)
present_bytes place =
    option_map (λ p. p.bytes) (option_and_then (λ s. s.present) place)
