use Rattle.std.proofs.Common.{◌≡◌, List, length, map, take}
use Rattle.std.specs.List.{All}
use Rattle.pool_law.specs.declared.run.Answered.{Answered}
use Rattle.pool_law.specs.LaneLaw.{note_counts, replies_in}
use Rattle.run_check.specs.Cutting.{counts_in, lists_in}
use Rattle.run_text.specs.Derived.{AreFew}
use Rattle.run_text.proofs.logs.joined.Given as goal

abbrev pub invariant-loop-list : goal.invariant-loop-list
invariant-loop-list l =
    (answered : List (List Answered)) → map replies_in answered ≡ lists_in l.fn.replies.items
    → map note_counts answered ≡ counts_in l.counts → length answered ≡ length l.fn.logs.items → All AreFew answered
    → (map (λ log. log.replies) l.all.items ≡ take (length l.yielded) answered)
    × (map (λ log. log.notes) l.all.items ≡ map (λ log. log.notes) (take (length l.yielded) l.fn.logs.items))
