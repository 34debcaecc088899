use Rattle.table_cases.proofs.rings.this_thread_steps_one_of_them.Goals as goal

-- the runner as it was made
pub step_beside-all-requires-clause-own : goal.step_beside-all-requires-clause-own
step_beside-all-requires-clause-own g c κs = (c.own_runner-own.result, c.own_runner-own.ensures)
