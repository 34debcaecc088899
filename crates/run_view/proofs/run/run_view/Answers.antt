use Rattle.run_view.proofs.OutcomeLaws.{are_named, of_source}
use Rattle.run_view.proofs.run.run_view.Goals as goal

pub returns-in-Ok : goal.returns-in-Ok
returns-in-Ok g c =
    of_source c.with_source.result.status _ _ _ (are_named _ _ c.in-Ok.ensures) c.with_source.ensures
