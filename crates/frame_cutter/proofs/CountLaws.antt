-- How often roots are in lists, and what a cutter counts behind one more and one less.
use Rattle.std.proofs.Common.{◌≡◌, ◌+◌, List, [], ◌∷◌, ◌++◌, Bool, arith, Some}
use Rattle.std.proofs.lemmas.List.Sums.{sum_by-append}
use Rattle.pool_law.specs.declared.id.RootId.{RootId}
use Rattle.pool_law.specs.declared.id.ViewData.{ViewData}
use Rattle.pool_table.specs.declared.views.SeatView.{SeatView}
use Rattle.pool_table.specs.Counts.{HasCount}
use Rattle.seat_work.specs.Changes.{once_less, once_more, one_for, times}
use Rattle.seat_work.specs.HandOvers.{posted}
use Rattle.seat_work.proofs.Counting.{times-cons, one_self}
use Rattle.frame_cutter.specs.Standing.{CountsJust}
use Rattle.frame_cutter.proofs.SeatLaws.{ChangesTo}

pub times-on : (q : RootId) (xs ys : List RootId) → times q (xs ++ ys) ≡ times q xs + times q ys
times-on q xs ys = sum_by-append (λ (r : RootId). one_for r q) xs ys

-- a root that is there is counted
pub counts_there : (v : SeatView) (root : RootId) (before after : List RootId)
    → CountsJust (before ++ root ∷ after) v → HasCount root v
counts_there v root before after just =
    let a = just root in let b = times-on root before (root ∷ after) in let c = times-cons root root after in
    let d = one_self root in
    omega (arith, a, b, c, d)

module _ (root : RootId) (roots : List RootId) where
  -- the first is let go
  pub less_first : (last : Bool) → ChangesTo (once_less root last) (root ∷ roots) roots
  less_first last q =
      let a = times-cons q root roots in let b = times-cons q root [] in omega (arith, a, b)

  -- one more is counted, as the last
  pub more_last : ChangesTo (once_more root) roots (roots ++ root ∷ [])
  more_last q = let a = times-on q roots (root ∷ []) in omega (arith, a)

-- the second goes with a parcel
pub second_posted : (first : RootId) (view : ViewData) (roots : List RootId)
    → ChangesTo (posted (record { view = Some view })) (first ∷ view.root ∷ roots) (first ∷ roots)
second_posted first view roots q =
    let a = times-cons q first (view.root ∷ roots) in let b = times-cons q view.root roots in
    let c = times-cons q first roots in let d = times-cons q view.root [] in
    omega (arith, a, b, c, d)
