use Rattle.text_laws.proofs.DeterminedLaw.{determined}
use Rattle.text_laws.proofs.legal_runs_are_determined.Goals as goal

pub returns : goal.returns
returns c = record { derived = determined }
