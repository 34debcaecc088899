use Rattle.std.proofs.Common.{◌∙◌}
use Rattle.trace_text.proofs.Keys.{among}
use Rattle.trace_text.proofs.options.is_known.Goals as goal

pub returns : goal.returns
returns c = c.contains.ensures.value ∙ among c.args.key.now c.args.known.now
