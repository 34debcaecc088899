-- How the law reads on behind an answer, and with other names.
use Rattle.std.specs.Prelude.{ℕ}
use Rattle.pool_law.specs.Readers.{Reader, ◌>>◌, give}
use Rattle.pool_law.specs.LaneLaw.{sweep_period}
use Rattle.pool_law.specs.LaneStates.{LaneState}
use Rattle.pool_law.specs.Lanes.{Answer}
use Rattle.pool_law.specs.Names.{Names}
use Rattle.pool_law.specs.Patterns.{sweep_if_due}

-- an answer, and behind it the sweep that may be due
abbrev pub swept : ℕ → Answer → Reader Answer
swept lane a = sweep_if_due sweep_period lane >> give a

-- the lane with other names
abbrev pub renamed : LaneState → Names → LaneState
renamed s names = record s { names = names }
