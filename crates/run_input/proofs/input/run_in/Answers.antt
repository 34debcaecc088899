use Rattle.run_input.proofs.CaseLaws.{of_value}
use Rattle.run_input.proofs.input.run_in.Goals as goal

pub returns-in-Ok : goal.returns-in-Ok
returns-in-Ok c = of_value _ _ _ c.in-Ok.ensures c.run_of.ensures
