use Rattle.run_check.proofs.busy.may_stand.Goals as goal

pub returns-then-may_come : goal.returns-then-may_come
returns-then-may_come c = (
  λ e. (c.may_come.ensures.0 c.if-may_come.true, c.mark_holds.ensures.0 e),
  λ both. c.mark_holds.ensures.1 both.1,
)
