use Rattle.std.proofs.Common.{arith}
use Rattle.lane_stages.proofs.CrossSteps.{cross_left}
use Rattle.lane_stages.proofs.crossing.cross.Goals as goal

pub set_next-requires-clause-room : goal.set_next-requires-clause-room
set_next-requires-clause-room c = let a = c.requires.room in let b = cross_left c.args.stage in omega (arith, a, b)

pub get_next-requires-clause-room : goal.get_next-requires-clause-room
get_next-requires-clause-room c = let a = c.requires.room in let b = cross_left c.args.stage in omega (arith, a, b)
