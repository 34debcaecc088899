use Rattle.std.proofs.Common.{◌≡◌, ℕ, ◌+◌, ◌<◌, ◌^◌, ◌++◌, List, length, map, take}
use Rattle.pool_law.specs.declared.run.Reply.{Reply}
use Rattle.pool_law.specs.Text.{Text}
use Rattle.run_text.specs.Answering.{FitReplies, reply_texts}
use Rattle.run_text.proofs.replies.lane_replies.Given as goal

abbrev pub invariant-loop-command : goal.invariant-loop-command
invariant-loop-command l =
    (lane : ℕ) (replies : List Reply) (front back : List Text) → lane < 2 ^ 64 → FitReplies l.commands replies
    → map (λ t. t.now) l.lines ≡ front ++ (reply_texts lane 0 l.commands replies ++ back) → length front ≡ l.from
    → (l.replies.items ≡ take l.command-index replies) × (l.at ≡ l.from + l.command-index)
