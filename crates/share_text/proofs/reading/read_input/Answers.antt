use Rattle.share_text.proofs.InputFits.{read_so}
use Rattle.share_text.proofs.reading.read_input.Goals as goal

pub returns-in-Ok-input_from-clause-within : goal.returns-in-Ok-input_from-clause-within
returns-in-Ok-input_from-clause-within c = read_so _ _ c.in-Ok-input_from.ensures
