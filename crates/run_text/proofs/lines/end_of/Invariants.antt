use Rattle.std.proofs.Common.{◌≡◌, ℕ, ◌<◌, ◌≤◌, [], get_or, map}
use Rattle.run_text.specs.Starting.{Begins}
use Rattle.run_text.proofs.lines.end_of.Given as goal

abbrev pub invariant-loop-at : goal.invariant-loop-at
invariant-loop-at l =
    (l.end ≡ l.at)
    × ((i : ℕ) → l.from ≤ i → i < l.at → Begins l.first (get_or (map (λ t. t.now) l.lines) i []))
