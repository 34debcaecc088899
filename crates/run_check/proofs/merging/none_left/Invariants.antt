use Rattle.std.proofs.Common.{◌≡◌, ℕ, ◌<◌, []}
use Rattle.run_check.specs.Gathering.{left_of}
use Rattle.run_check.proofs.merging.none_left.Given as goal

abbrev pub invariant-loop-notes : goal.invariant-loop-notes
invariant-loop-notes l = (k : ℕ) → k < l.notes-index → left_of l.left k ≡ []
