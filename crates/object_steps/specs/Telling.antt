-- What the history of a root place tells of its notes.
use Rattle.std.specs.Prelude.{ℕ, List, [], ◌∷◌, Option, option_map, unwrap_or}
use Rattle.pool_law.specs.declared.note.Did.{Did}
use Rattle.pool_law.specs.Roots.{Present, RootPlace, place_step}
use Rattle.pool_law.specs.Logs.{root_for, region_for}
use Rattle.object_steps.specs.declared.told.PlaceTold.{PlaceTold}

-- what is told of a note, by what is present as it comes
abbrev pub told_by : Did → Option Present → PlaceTold
told_by did p = record { root = root_for did p; region = region_for did p }

-- what is told of each of these notes from this state on, as far as they may stand
abbrev pub told_of_each : ℕ → RootPlace → List Did → List PlaceTold
told_of_each place s [] = []
told_of_each place s (d ∷ ds) =
    told_by d s.present
    ∷ unwrap_or (option_map (λ t. told_of_each place t ds) (place_step place s d)) []
