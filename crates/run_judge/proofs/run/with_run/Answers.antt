use Rattle.run_judge.proofs.OutcomeLaws.{of_played}
use Rattle.run_judge.proofs.run.with_run.Goals as goal

pub returns-in-Ok : goal.returns-in-Ok
returns-in-Ok g c =
    of_played c.with_played.result.status _ c.in-Ok.played _ c.in-Ok.ensures c.with_played.ensures
