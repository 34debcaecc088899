-- Which roots of a list are counted, behind steps that count some more and some less.
use Rattle.std.proofs.Common.{◌≡◌, ℕ, ◌+◌, ◌<◌, ◌≤◌, List, [], ◌∷◌, ◌++◌, Bool, length, get_or, ap, ◌∙◌, arith}
use Rattle.std.specs.Prelude.{Result, Ok, Err}
use Rattle.std.specs.List.{swap_remove}
use Rattle.std.proofs.lemmas.List.Sums.{sum_by_push, sum_by-swap_remove}
use Rattle.pool_law.specs.declared.id.RootId.{RootId}
use Rattle.pool_table.specs.declared.views.SeatView.{SeatView}
use Rattle.pool_table.specs.Counts.{HasCount}
use Rattle.seat_work.specs.declared.allocation.AllocNo.{AllocNo}
use Rattle.seat_work.specs.Answers.{allocated, refused}
use Rattle.seat_work.specs.Changes.{Holds, Change, Changes, once_more, once_less, times, one_for}
use Rattle.seat_work.proofs.Counting.{one_self}

-- what is held before is held after
pub holds_on : (c : Change) (v w : SeatView) (before after : List RootId)
    → ((root : RootId) → times root after + times root c.gone ≤ times root before + times root c.got)
    → Changes c v w → Holds before v → Holds after w
holds_on c v w before after le did holds =
    λ root. (let a = le root in let b = did.counts root in let d = holds root in omega (arith, a, b, d))

-- an allocation takes no count away
pub holds_asked : (r : Result RootId AllocNo) (v w : SeatView) (roots : List RootId) → Changes (allocated r) v w
    → Holds roots v → Holds roots w
holds_asked (Ok root) v w roots did holds = holds_on (once_more root) v w roots roots (λ r. omega arith) did holds
holds_asked (Err why) v w roots did holds = holds_on (refused why) v w roots roots (λ r. omega arith) did holds

module _ (roots more : List RootId) (root : RootId) (is : more ≡ roots ++ root ∷ []) where
  times_push : (r : RootId) → times r more ≡ times r roots + one_for root r
  times_push r = ap (λ (rs : List RootId). times r rs) is ∙ sum_by_push (λ (q : RootId). one_for q r) roots root

  -- a root is put behind the others
  pub holds_push : (v w : SeatView) → Changes (once_more root) v w → Holds roots v → Holds more w
  holds_push v w did holds =
      holds_on (once_more root) v w roots more (λ r. (let a = times_push r in omega (arith, a))) did holds

  -- the last root is released
  pub holds_pop : (v w : SeatView) (last : Bool) → Changes (once_less root last) v w → Holds more v → Holds roots w
  holds_pop v w last did holds =
      holds_on (once_less root last) v w more roots (λ r. (let a = times_push r in omega (arith, a))) did holds

  -- and it is counted before
  pub last_counts : (v : SeatView) → Holds more v → HasCount root v
  last_counts v holds = let a = holds root in let b = times_push root in let c = one_self root in omega (arith, a, b, c)

-- a root is taken out of its place, which the last one gets
module _ (roots less : List RootId) (place : ℕ) (root : RootId) (lt : place < length roots)
    (value : root ≡ get_or roots place root) (is : less ≡ swap_remove roots place root) where
  times_less : (r : RootId) → times r less + one_for root r ≡ times r roots
  times_less r =
      (λ i. times r (is i) + one_for (value i) r) ∙ sum_by-swap_remove (λ (q : RootId). one_for q r) roots place root lt

  pub holds_less : (v w : SeatView) (last : Bool) → Changes (once_less root last) v w → Holds roots v → Holds less w
  holds_less v w last did holds =
      holds_on (once_less root last) v w roots less (λ r. (let a = times_less r in omega (arith, a))) did holds

  pub place_counts : (v : SeatView) → Holds roots v → HasCount root v
  place_counts v holds =
      let a = holds root in let b = times_less root in let c = one_self root in omega (arith, a, b, c)
