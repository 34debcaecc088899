use Rattle.std.proofs.Common.{sym, ◌∙◌}
use Rattle.trace_top.proofs.Sums.{sends_of_all}
use Rattle.trace_top.proofs.needs.sends_to.Goals as goal

pub returns : goal.returns
returns c = c.sends.ensures.count ∙ sym (sends_of_all c.args.to c.args.commands.now)
