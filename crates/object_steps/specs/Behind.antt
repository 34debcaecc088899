-- What lies behind references.
use Rattle.std.specs.Prelude.{List, map}
use denote.Ref.{Bor}
use Rattle.pool_law.specs.declared.note.Did.{Did}

-- what was done, one after another
abbrev pub dids_behind : List (Bor Did) → List Did
dids_behind dids = map (λ d. d.now) dids
