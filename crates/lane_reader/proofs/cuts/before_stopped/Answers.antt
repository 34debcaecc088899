use Rattle.std.proofs.Common.{◌≡◌, sym, arith, ◌∙◌, true, false}
use Rattle.pool_law.specs.declared.run.Reply.{Reply}
use Rattle.lane_reader.specs.Replying.{same_reply}
use Rattle.lane_reader.proofs.RunLemmas.{reply-stop, reply-next, reply-past}
use Rattle.lane_reader.proofs.cuts.before_stopped.Goals as goal

pub returns-then-says-clause-stop : goal.returns-then-says-clause-stop
returns-then-says-clause-stop c =
    let r = c.index-replies-i.result in
    let same : same_reply Reply.Stopped r ≡ true =
    sym c.says.ensures ∙ c.if-says.true in
    let here = reply-stop c.args.replies.now c.loop-i.i r c.loop-i-test.true c.index-replies-i.is same in
    omega (arith, c.loop-i.invariant, here)

pub loop-i-preserved : goal.loop-i-preserved
loop-i-preserved c =
    let r = c.index-replies-i.result in
    let other : same_reply Reply.Stopped r ≡ false =
    sym c.says.ensures ∙ c.if-says.false in
    let later = reply-next c.args.replies.now c.loop-i.i r c.loop-i-test.true c.index-replies-i.is other in
    omega (arith, c.loop-i.invariant, later)

pub returns-clause-stop : goal.returns-clause-stop
returns-clause-stop c =
    omega (arith, c.loop-i.invariant, c.loop-i.auto, reply-past c.args.replies.now c.loop-i.i c.loop-i-test.false)
