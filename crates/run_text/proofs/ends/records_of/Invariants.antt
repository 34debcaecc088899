use Rattle.std.proofs.Common.{◌≡◌, ◌+◌, ◌++◌, ◌-◌, List, length, map, take}
use Rattle.std.specs.List.{All}
use Rattle.pool_law.specs.Text.{Text}
use Rattle.pool_law.specs.declared.report.Access.{Access}
use Rattle.run_text.specs.Ending.{FitsAccess, access_text}
use Rattle.run_text.proofs.ends.records_of.Given as goal

abbrev pub invariant-loop-at : goal.invariant-loop-at
invariant-loop-at l =
    (front back : List Text) (xs : List Access) → map (λ t. t.now) l.lines ≡ front ++ (map access_text xs ++ back)
    → length front ≡ l.from → l.from + length xs ≡ l.to → All FitsAccess xs
    → l.records.items ≡ take (l.at - l.from) xs
