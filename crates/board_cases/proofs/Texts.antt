-- The cores of the tests, and the boards of these.
use Rattle.std.proofs.Common.{◌≡◌, ℕ, zero, suc, ◌+◌, ◌*◌, ◌<◌, ◌≤◌, List, [], ◌∷◌, ◌++◌, length, get_or, refl, sym, ap, ◌∙◌, subst, arith}
use Rattle.std.specs.Prelude.{All, HoldsAt, IfSome, None, Some, Option, filter_map, slice_get}
use Rattle.std.proofs.lemmas.Option.{get_or_from_slice_get}
use mathlib.Core.Logic.{dite}
use native.Mathlib.Decide.{ℕ_discrete}
use Rattle.std.proofs.lemmas.List.Elements.{All-nil, All-cons, All-head, All-tail}
use Rattle.std.proofs.lemmas.List.Sums.{sum_by-cons}
use Rattle.pool_law.specs.declared.id.Part.{Part}
use Rattle.pool_law.specs.declared.id.RootId.{RootId}
use Rattle.pool_law.specs.Composites.{size_of}
use Rattle.pool_table.specs.declared.views.SeatView.{SeatView}
use Rattle.shared_pool.specs.declared.pool.SharedPool.{SharedPool}
use Rattle.shared_pool.specs.declared.seat.PoolSeat.{PoolSeat}
use Rattle.shared_pool.specs.SeatViews.{view_of}
use Rattle.shared_pool.specs.Seated.{AreDone, IsDone}
use Rattle.shared_pool.specs.Opening.{IsOpened}
use Rattle.pool_table.specs.declared.views.Layout.{Layout}
use Rattle.seat_work.specs.Changes.{Change, Changes, once_more, one_for, times}
use Rattle.seat_work.specs.Hands.{empty_hand}
use Rattle.seat_work.specs.Works.{Works}
use Rattle.seat_work.proofs.FirstSeats.{has_nothing, IsHeld-empty}
use Rattle.board_table.specs.declared.views.BoardView.{BoardView}
use Rattle.board_table.specs.Views.{first_view, more, stake_of}
use Rattle.shared_composite.specs.declared.board.Board.{Board}
use Rattle.shared_composite.specs.declared.board.BoardSeat.{BoardSeat}
use Rattle.shared_composite.specs.declared.cores.Core.{Core}
use Rattle.shared_composite.specs.Boards as boards
use Rattle.shared_composite.specs.Boards.{AreLeft, HasView, IsMadeOf, IsPoolOf, IsSeatOf, parts_in}
use Rattle.seat_work.proofs.Knowing.{knows_born}
use Rattle.shared_composite.specs.Cores.{CountsJust, IsCore, IsEmptied, IsFit, IsKnown, IsUnderway}
use Rattle.board_cases.specs.Texts.{IsText, Shows, part, text_in}
use Rattle.board_cases.proofs.BoardSeats.{home_core, knows}

-- ---- What a seat of the pool counts.

pub counts_more : (root : RootId) (roots : List RootId) (v w : SeatView) → Changes (once_more root) v w
    → CountsJust roots v → CountsJust (root ∷ roots) w
counts_more root roots v w changes counted r =
    let a = changes.counts r in let b = counted r in
    let one = sum_by-cons (λ (q : RootId). one_for q r) root [] in
    let more = sum_by-cons (λ (q : RootId). one_for q r) root roots in omega (arith, a, b, one, more)

pub counts_less : (c : Change) (root : RootId) (roots : List RootId) (v w : SeatView) → c.gone ≡ root ∷ [] → c.got ≡ []
    → Changes c v w → CountsJust (root ∷ roots) v → CountsJust roots w
counts_less c root roots v w gone got changes counted r =
    let a = changes.counts r in let b = counted r in let x = ap (λ (rs : List RootId). times r rs) gone in
    let y = ap (λ (rs : List RootId). times r rs) got in
    let one = sum_by-cons (λ (q : RootId). one_for q r) root [] in
    let more = sum_by-cons (λ (q : RootId). one_for q r) root roots in omega (arith, a, b, x, y, one, more)

-- ---- Cores.

pub fits : (pool : SharedPool) (seat : PoolSeat) (large small : RootId) (turns moves : ℕ) (parts : List Part)
    → Works pool empty_hand turns moves seat → CountsJust (large ∷ large ∷ small ∷ []) (view_of seat)
    → large.capacity ≡ 6 → 2 ≤ small.capacity → parts ≡ text_in large small → IsFit pool seat parts
fits pool seat large small turns moves parts works counted six two is =
    subst (IsFit pool seat) (sym is)
    (record {
      seat_is = works.seat;
      nothing = has_nothing (view_of seat) works.held;
      counted = counted;
      known =
          (let v = view_of seat in let a = knows_born v large in let b = knows_born v small in
          All-cons (IsKnown v) (part large 1 3) (part large 5 1 ∷ part small 0 2 ∷ []) (omega (arith, six, a))
          (All-cons (IsKnown v) (part large 5 1) (part small 0 2 ∷ []) (omega (arith, six, a))
          (All-cons (IsKnown v) (part small 0 2) [] (omega (arith, two, b)) (All-nil (IsKnown v)))));
    })

pub made_text : (pool : SharedPool) (seat : PoolSeat) (parts : List Part) (core : Core) (large small : RootId)
    → parts ≡ text_in large small → core.seat ≡ seat → core.parts ≡ parts → IsCore pool core
    → 9000 ≤ (view_of seat).turns → IsText pool core
made_text pool seat parts core large small is at of core_is turns =
    record {
      core_is = core_is;
      size = ap (λ (ps : List Part). size_of ps) (of ∙ is);
      turns = (let a = ap (λ (s : PoolSeat). (view_of s).turns) at in omega (arith, a, turns));
    }

-- ---- Boards.

first_text : (pool : SharedPool) (cores : List Core) → 0 < length cores → All (IsText pool) cores
    → (core : Core) × (slice_get cores 0 ≡ Some core) × IsText pool core
first_text pool [] some all = absurd (omega (arith, some))
first_text pool (c ∷ cs) some all = (c, refl, all 0 c (omega arith))

-- a list that was filled with two cores
pub two_texts : (pool : SharedPool) (none one two : List Core) (a b : Core) → none ≡ [] → one ≡ none ++ a ∷ []
    → two ≡ one ++ b ∷ [] → IsText pool a → IsText pool b
    → (0 < length two) × (length two ≤ 16) × All (IsText pool) two
two_texts pool none one two a b empty first second text more =
    let e : two ≡ a ∷ b ∷ [] = second ∙ ap (λ (cs : List Core). cs ++ b ∷ [])
    (first ∙ ap (λ (cs : List Core). cs ++ a ∷ []) empty) in
    let n : length two ≡ 2 = ap (λ (cs : List Core). length cs) e in (
      omega (arith, n),
      omega (arith, n),
      subst (All (IsText pool)) (sym e)
          (All-cons (IsText pool) a (b ∷ []) text (All-cons (IsText pool) b [] more (All-nil (IsText pool)))),
    )

pub shows : (board : Board) (pool : SharedPool) (turns : ℕ) (cores : List Core) → IsMadeOf board pool turns cores
    → 0 < length cores → All (IsText pool) cores → Shows pool board
shows board pool turns cores made some all =
    let first = first_text pool cores some all in
    record {
      pool_is = made.pool_is;
      size = ap (λ (o : Option Core). size_of (parts_in o)) (made.cores_are 0 ∙ first.1) ∙ first.2.size;
    }

module _ (board : Board) (seat : BoardSeat) (n moves turns : ℕ) (some : 0 < n) (own : IsSeatOf board seat)
    (has : HasView seat (first_view n moves turns)) where
  first : boards.view_of seat ≡ first_view n moves turns
  first = knows seat (first_view n moves turns) has

-- ---- The close.

-- what a board was closed with
left_here : (P : Core → Type 0) (places : List (Option Core)) → All (λ place. IfSome place P) places
    → All P (filter_map (λ place. place) places)
left_here P [] all = All-nil P
left_here P (None ∷ ys) all = left_here P ys (All-tail (λ place. IfSome place P) None ys all)
left_here P (Some c ∷ ys) all =
    All-cons P c (filter_map (λ place. place) ys) (All-head (λ place. IfSome place P) (Some c) ys all)
    (left_here P ys (All-tail (λ place. IfSome place P) (Some c) ys all))

pub left_cores : (board : Board) (pool : SharedPool) (v : BoardView) (cores : List Core) → IsPoolOf board pool
    → AreLeft board v cores → All (IsUnderway pool) cores
left_cores board pool v cores is left =
    subst (All (IsUnderway pool)) (sym left.are) (left_here (IsUnderway pool) left.places each)
  where
    Fine : Option Core → Type 0
    Fine place = IfSome place (IsUnderway pool)

    at : (k : ℕ) (d place : Option Core) → slice_get left.places k ≡ Some place → IfSome place (IsUnderway pool)
        → IfSome (get_or left.places k d) (IsUnderway pool)
    at k d place there fine =
        subst (λ (o : Option Core). IfSome o (IsUnderway pool))
        (sym (get_or_from_slice_get left.places k place d there)) fine

    each : All (λ place. IfSome place (IsUnderway pool)) left.places
    each k d lt =
        let below : k < board.table.composites = (let many = left.stand.many in omega (arith, lt, many)) in
        let n : ℕ = (stake_of k v).taken in
        dite (ℕ_discrete n 0)
        (λ none. let h = left.stand.left k below none in at k d (Some h.0) h.1 (home_core board pool k h.0 is h.2))
        (λ some. at k d None (left.stand.taken k below (let goal : 0 < n = omega (arith, some) in goal)) tt)

-- the seat of a lane that is over
pub both_over : (pool : SharedPool) (a b : PoolSeat) → pool.table.layout.shape.lanes ≡ 2 → IsEmptied pool a
    → IsEmptied pool b → (view_of a).own.number ≡ Some 0 → (view_of b).own.number ≡ Some 1
    → AreDone pool (a ∷ b ∷ [])
both_over pool a b two x y first second =
    record { many = sym two; each = λ lane below. at lane (omega (arith, below, two)) }
  where
    at : (lane : ℕ) → lane < 2 → HoldsAt (IsDone pool lane) (a ∷ b ∷ []) lane
    at zero below = λ d. record { seat = x.seat_is; number = first; nothing = x.nothing }
    at (suc zero) below = λ d. record { seat = y.seat_is; number = second; nothing = y.nothing }
    at (suc (suc n)) below = absurd (omega (arith, below))

-- and one that was opened
pub opened_emptied : (pool : SharedPool) (l : Layout) (lane : ℕ) (s : PoolSeat) → IsOpened l pool lane s
    → IsEmptied pool s
opened_emptied pool l lane s opened =
    record {
      seat_is = opened.seat;
      nothing = has_nothing (view_of s) (IsHeld-empty (view_of s) opened.notes opened.seat.alone);
      counted = λ root. nothing_counted (view_of s) opened.notes opened.seat.alone root;
    }
  where
    nothing_counted : (v : SeatView) → v.own.notes ≡ [] → v.others ≡ [] → CountsJust [] v
    nothing_counted v own alone =
        subst (CountsJust [])
        (λ i. record v { own = record { number = v.own.number; notes = sym own i }; others = sym alone i })
        (λ root. omega arith)
