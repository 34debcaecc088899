use Rattle.std.proofs.Common.{◌≡◌, List, length, take}
use Rattle.pool_law.specs.declared.run.Answered.{Answered}
use Rattle.pool_law.specs.LaneLaw.{note_counts, replies_in}
use Rattle.run_text.specs.Derived.{AreFew}
use Rattle.run_text.proofs.logs.with_counts.Given as goal

abbrev pub invariant-loop-reply : goal.invariant-loop-reply
invariant-loop-reply l =
    (answered : List Answered) → replies_in answered ≡ l.fn.replies.items → note_counts answered ≡ l.counts
    → AreFew answered → l.answered.items ≡ take (length l.yielded) answered
