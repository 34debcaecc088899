use Rattle.std.proofs.Common.{sym}
use Rattle.run_input.proofs.CaseLaws.{of_case}
use Rattle.run_input.proofs.input.run_of.Goals as goal

pub returns-in-Some : goal.returns-in-Some
returns-in-Some c =
    of_case _ _ c.in-Ok.asked c.in-Some.text.now c.in-Ok.ensures.asked (sym c.in-Some.ensures) c.run_with.ensures
