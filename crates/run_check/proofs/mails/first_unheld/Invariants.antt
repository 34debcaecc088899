use Rattle.std.proofs.Common.{ℕ, ◌<◌}
use Rattle.run_check.specs.Mailing.{Passes}
use Rattle.run_check.proofs.mails.first_unheld.Given as goal

abbrev pub invariant-loop-at : goal.invariant-loop-at
invariant-loop-at l = (k : ℕ) → k < l.at → Passes l.posts l.fetches k
