use Rattle.trace_make.proofs.DrawSteps.{state_after-more, joined-more}
use Rattle.trace_make.proofs.trace.commands_of.Goals as goal

pub loop-number-preserved : goal.loop-number-preserved
loop-number-preserved c = record {
  commands = joined-more c.args.at.lanes c.args.at.lane c.loop-number.number c.args.draws.now _ _ _ _ _ _ _ _
      c.loop-number.invariant.drawn c.draw.ensures.state c.draw.ensures.value c.draw-in-loop-number.ensures.state
      c.draw-in-loop-number.ensures.value c.loop-number.invariant.commands c.in_ok-made.ensures
      c.in_ok-append.ensures.items;
  drawn = state_after-more c.loop-number.number c.args.draws.now _ _ _ c.loop-number.invariant.drawn
      c.draw.ensures.state c.draw-in-loop-number.ensures.state;
}
