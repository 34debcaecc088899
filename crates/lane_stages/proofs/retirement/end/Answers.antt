use Rattle.std.proofs.Common.{◌+◌, ◌≤◌, length, subst, arith}
use Rattle.std.specs.Prelude.{vec_capacity}
use Rattle.lane_stages.specs.declared.retirement.Ending.{Ending}
use Rattle.lane_stages.specs.Endings.{left_of}
use Rattle.lane_stages.proofs.EndSteps.{end_left}
use Rattle.lane_stages.proofs.retirement.end.Goals as goal

pub retire-requires-clause-room : goal.retire-requires-clause-room
retire-requires-clause-room c =
    let log = c.args.log.now in let room = subst
    (λ (s : Ending). length log.items + (left_of s).notes ≤ vec_capacity log) c.in-Root.is c.requires.room in
    omega (arith, room)

pub put_away-requires-clause-room : goal.put_away-requires-clause-room
put_away-requires-clause-room c = let a = c.requires.room in let b = end_left c.args.stage in omega (arith, a, b)

pub give_back-requires-clause-room : goal.give_back-requires-clause-room
give_back-requires-clause-room c = let a = c.requires.room in let b = end_left c.args.stage in omega (arith, a, b)

pub go_home-requires-clause-room : goal.go_home-requires-clause-room
go_home-requires-clause-room c = let a = c.requires.room in let b = end_left c.args.stage in omega (arith, a, b)
