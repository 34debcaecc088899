-- A history as the program merges it.
use Rattle.std.specs.Prelude.{List, map}
use Rattle.pool_law.specs.Logs.{History}
use Rattle.run_check.specs.declared.merging.Done.{Done}

-- what was done, and by which lane
abbrev pub dones_in : List Done → History
dones_in dones = map (λ d. (d.lane, d.did.now)) dones
