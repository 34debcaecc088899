use Rattle.std.proofs.Common.{sym}
use Rattle.lane_reader.proofs.lane.Lane.candidate.Goals as goal

pub returns-in-Compose-clause-is : goal.returns-in-Compose-clause-is
returns-in-Compose-clause-is c s is =
    rw (c.in-Compose.is, sym c.items.ensures) (c.composite_from.ensures.is s is)

pub returns-in-Add-clause-is : goal.returns-in-Add-clause-is
returns-in-Add-clause-is c s is = rw c.in-Add.is (c.composite_with.ensures.is s is)
