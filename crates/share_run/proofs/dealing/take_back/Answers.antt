use Rattle.std.proofs.Common.{ap, arith}
use Rattle.share_run.specs.Reading.{spent_in}
use Rattle.share_run.proofs.DealLaws.{joined_chief, joined_spent}
use Rattle.share_run.proofs.dealing.take_back.Goals as goal

pub returns-in-Some-clause-chief : goal.returns-in-Some-clause-chief
returns-in-Some-clause-chief c =
    joined_chief c.args.board.now c.args.composites c.args.chief.now c.in-Some.seat c.join.new.seat c.requires.chief
    c.join.ensures.own c.join.ensures.joined

pub returns-in-Some-clause-spent : goal.returns-in-Some-clause-spent
returns-in-Some-clause-spent c =
    let a = joined_spent c.args.chief.now c.in-Some.seat c.join.new.seat c.join.ensures.joined in
    let b = ap spent_in c.in-Some.ensures.value in omega (arith, a, b)
