use Rattle.pool_law.proofs.HistoryLemmas.{history_of-is}
use Rattle.run_laws.proofs.one_history.Goals as goal

pub returns : goal.returns
returns c = record { one = history_of-is }
