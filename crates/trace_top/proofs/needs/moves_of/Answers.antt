use Rattle.std.proofs.Common.{sym, ◌∙◌}
use Rattle.trace_top.proofs.Sums.{moves_of_all}
use Rattle.trace_top.proofs.needs.moves_of.Goals as goal

pub returns-clause-moves : goal.returns-clause-moves
returns-clause-moves c = c.moves.ensures.count ∙ sym (moves_of_all c.args.commands.now)
