use Rattle.run_laws.proofs.HeadlineLaw.{headline-holds}
use Rattle.run_laws.proofs.headline.Goals as goal

pub returns : goal.returns
returns c = record { headline = headline-holds }
