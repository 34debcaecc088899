use Rattle.std.proofs.Common.{◌≡◌, ◌+◌, ◌++◌, ◌∷◌, ◌-◌, ◌≤◌, [], List, codes, length, map, take}
use Rattle.std.specs.List.{All}
use Rattle.pool_law.specs.Text.{Text, spaced}
use Rattle.pool_law.specs.declared.report.Leak.{Leak}
use Rattle.run_text.specs.Ending.{FitsLeak, leaks_texts}
use Rattle.run_text.proofs.ends.leaks_of.Given as goal

abbrev pub invariant-loop : goal.invariant-loop
invariant-loop l =
    (front : List Text) (leaks : List Leak) (words : List Text)
    → map (λ t. t.now) l.lines ≡ front ++ (leaks_texts leaks ++ (spaced (codes "end" ∷ words) ∷ []))
    → length front ≡ l.from → All FitsLeak leaks
    → (l.leaks.items ≡ take (l.counter - l.from) leaks)
    × (l.counter - l.from ≤ length leaks)
    × (l.at ≡ l.from + length (leaks_texts (take (l.counter - l.from) leaks)))
