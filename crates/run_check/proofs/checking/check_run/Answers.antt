use Rattle.run_check.proofs.BreachLemmas.{none-legal}
use Rattle.run_check.proofs.checking.check_run.Goals as goal

pub returns : goal.returns
returns c =
    none-legal c.args.run.now c.in_ok-found.found c.is_none.result c.is_none.ensures c.in_ok-found.ensures
