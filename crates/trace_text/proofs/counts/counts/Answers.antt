use Rattle.trace_text.proofs.StuckSteps.{bound_more, counts_more, one_longer}
use Rattle.trace_text.proofs.counts.counts.Goals as goal

pub loop-command-preserved : goal.loop-command-preserved
loop-command-preserved c =
    let more = counts_more _ _ _ _ _ _ _ _ _ c.loop-command-test.true c.command-item.is c.is_met.ensures
    c.one_if-total.ensures c.loop-command.invariant.size c.loop-command.invariant.now c.loop-command.invariant.each
    c.in_ok-push-2.ensures.items in
    record {
      size = one_longer _ _ _ _ c.loop-command.invariant.size c.in_ok-push-2.ensures.items;
      bound = bound_more _ _ _ _ c.loop-command.invariant.bound c.one_if-total.ensures;
      now = more.0;
      each = more.1;
    }
