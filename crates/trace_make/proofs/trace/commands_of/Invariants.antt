use Rattle.std.proofs.Common.{◌≡◌, ◌*◌}
use Rattle.trace_make.specs.Draws.{state_after}
use Rattle.trace_make.specs.Generated.{drawn_block, joined}
use Rattle.trace_make.proofs.trace.commands_of.Given as goal

abbrev pub invariant-loop-number : goal.invariant-loop-number
invariant-loop-number l = record {
  commands : l.commands.items ≡ joined (drawn_block l.at.lanes l.at.lane l.initial.draws) l.number;
  drawn : l.draws ≡ state_after (2 * l.number) l.initial.draws;
}
