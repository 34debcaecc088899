use Rattle.std.proofs.Common.{length}
use Rattle.object_steps.proofs.PageRunLemmas.{Walked}
use Rattle.object_steps.proofs.page_runs.runs_at.Given as goal

abbrev pub invariant-loop-run : goal.invariant-loop-run
invariant-loop-run l = Walked l.page l.fn.runs.items l.left l.exact l.before.items l.behind.items

abbrev pub decreases-loop-run : goal.decreases-loop-run
decreases-loop-run l = length l.behind.items
