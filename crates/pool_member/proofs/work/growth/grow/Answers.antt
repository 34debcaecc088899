use Rattle.std.proofs.Common.{Some}
use Rattle.seat_work.specs.Regrowths.{grown, reply_of}
use Rattle.seat_work.proofs.Later.{later_but}
use Rattle.seat_work.proofs.Regrowing.{if_told_on}
use Rattle.pool_member.proofs.AloneLater.{grows_on}
use Rattle.pool_member.proofs.Settling.{keeps_settled, settled_does}
use Rattle.pool_member.proofs.Asked.{grown_on}
use Rattle.pool_member.proofs.work.growth.grow.Goals as goal

pub returns-clause-does : goal.returns-clause-does
returns-clause-does g c =
    settled_does c.args.pool.now c.args.member.now c.settle.new.member c.grow_settled.new.member 6
    (grown c.grow_settled.result) (Some c.args.root) c.settle.ensures.settles c.grow_settled.ensures.does

pub returns-clause-told : goal.returns-clause-told
returns-clause-told g c =
    let pool = c.args.pool.now in let old = c.args.member.now.seat in let mid = c.settle.new.member.seat in
    if_told_on pool c.args.root old mid c.grow_settled.new.member.seat c.grow_settled.result
    (later_but pool c.args.root old mid c.settle.ensures.settles.later) c.grow_settled.ensures.told

pub returns-clause-alone : goal.returns-clause-alone
returns-clause-alone g c =
    let pool = c.args.pool.now in let old = c.args.member.now in let mid = c.settle.new.member in
    grows_on c.args.root old mid c.grow_settled.new.member (keeps_settled pool old mid c.settle.ensures.settles)
    c.grow_settled.ensures.alone

pub returns-clause-notes : goal.returns-clause-notes
returns-clause-notes g c =
    let a = c.args in let call = c.grow_settled in
    grown_on a.pool.now a.root a.size a.member.now c.settle.new.member call.new.member c.settle.ensures.settles
    c.settle.ensures.settled (reply_of call.result) call.ensures.notes
