use Rattle.std.proofs.Common.{◌≡◌, sym, ap, arith, ◌∙◌, true, false}
use Rattle.pool_law.specs.declared.run.Reply.{Reply}
use Rattle.pool_law.specs.declared.run.Answered.{Answered}
use Rattle.lane_reader.specs.Replying.{same_reply}
use Rattle.lane_reader.proofs.RunLemmas.{stop-at, stop-next, stop-past}
use Rattle.lane_reader.proofs.runs.before_stop.Goals as goal

pub returns-then-says-clause-stop : goal.returns-then-says-clause-stop
returns-then-says-clause-stop c =
    let r = c.index-replies-i.result in
    let same : same_reply Reply.Stopped r.reply ≡ true =
    ap (λ (a : Answered). same_reply Reply.Stopped a.reply) c.index-replies-i.is ∙ sym c.says.ensures
    ∙ c.if-says.true in
    let here = stop-at c.args.replies.now c.loop-i.i r c.loop-i-test.true c.index-replies-i.is same in
    omega (arith, c.loop-i.invariant, here)

pub loop-i-preserved : goal.loop-i-preserved
loop-i-preserved c =
    let r = c.index-replies-i.result in
    let other : same_reply Reply.Stopped r.reply ≡ false =
    ap (λ (a : Answered). same_reply Reply.Stopped a.reply) c.index-replies-i.is ∙ sym c.says.ensures
    ∙ c.if-says.false in
    let later = stop-next c.args.replies.now c.loop-i.i r c.loop-i-test.true c.index-replies-i.is other in
    omega (arith, c.loop-i.invariant, later)

pub returns-clause-stop : goal.returns-clause-stop
returns-clause-stop c =
    omega (arith, c.loop-i.invariant, c.loop-i.auto, stop-past c.args.replies.now c.loop-i.i c.loop-i-test.false)
