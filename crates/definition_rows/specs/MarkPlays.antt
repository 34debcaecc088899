-- Touches of one root by two lanes.
use Rattle.std.specs.Prelude.{[], ◌∷◌}
use Rattle.pool_law.specs.declared.note.Did.{Did}
use Rattle.pool_law.specs.declared.note.Object.{Object}
use Rattle.pool_law.specs.Logs.{History}

-- lanes 0, 1 and 0 touch the root, and nothing is noted elsewhere
abbrev pub touches : Object → History
touches (Object.Root place) = (0, Did.Touch) ∷ (1, Did.Touch) ∷ (0, Did.Touch) ∷ []
touches _ = []
