use Rattle.std.proofs.Common.{rules}
use Rattle.std.specs.Prelude.{Ok, Err}
use Rattle.run_view.proofs.OutcomeLaws.{of_found}
use Rattle.run_view.proofs.run.with_source.Goals as goal

pub returns-in-Ok : goal.returns-in-Ok
returns-in-Ok g c = of_found _ (Ok c.in-Ok.run') _ _ c.in-Ok.ensures c.with_run.ensures

pub returns-in-Err : goal.returns-in-Err
returns-in-Err g c = of_found _ (Err c.in-Err.why) _ _ c.in-Err.ensures (search rules)
