use Rattle.std.proofs.Common.{ℕ, ◌<◌, ◌≤◌}
use Rattle.std.specs.List.{All}
use Rattle.run_check.specs.Gathering.{left_of}
use Rattle.run_check.proofs.merging.least_left.Given as goal

abbrev pub invariant-loop-notes : goal.invariant-loop-notes
invariant-loop-notes l = record {
  most : l.least ≤ l.number;
  least : (lane : ℕ) → lane < l.notes-index → All (λ x. l.least ≤ x.0) (left_of l.left lane);
  there : l.least < l.number
      → ((lane : ℕ) → lane < l.notes-index → All (λ x. l.least < x.0) (left_of l.left lane)) → ⊥;
}
