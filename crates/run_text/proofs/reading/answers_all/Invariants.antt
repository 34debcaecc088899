use Rattle.std.proofs.Common.{◌≡◌, length, map, take}
use Rattle.run_text.proofs.reading.answers_all.Given as goal

abbrev pub invariant-loop-at : goal.invariant-loop-at
invariant-loop-at l =
    map (λ log. length log.replies) (take l.at l.logs) ≡ map length (take l.at l.lanes)
