-- The seats of a board from call to call.
use Rattle.std.proofs.Common.{◌≡◌, ℕ, ◌+◌, ◌-◌, ◌<◌, ◌≤◌, sym, ap, ◌∙◌, subst, arith}
use Rattle.std.specs.Prelude.{Option, IfSome, ◌⊎◌}
use Rattle.std.proofs.Common.{inl, inr}
use Rattle.atomic_table.specs.Table.{Me}
use Rattle.shared_pool.specs.declared.pool.SharedPool.{SharedPool}
use Rattle.board_table.specs.declared.views.BoardView.{BoardView}
use Rattle.board_table.specs.declared.counts.EndMark.{EndMark}
use Rattle.board_table.specs.declared.counts.Let.TheVariants.{Kept, Ended}
use Rattle.board_table.specs.Seats.{Counts, HasMark}
use Rattle.board_table.specs.Views.{retained, hand_left, handed, joined, done, took, spent}
use Rattle.shared_composite.specs.declared.board.Board.{Board}
use Rattle.shared_composite.specs.declared.board.BoardSeat.{BoardSeat}
use Rattle.shared_composite.specs.declared.cores.Core.{Core}
use Rattle.shared_composite.specs.declared.home.Home.{Home}
use Rattle.shared_composite.specs.Boards.{IsSeatOf, IsPoolOf, IsAtHome, IsReleasedOn, HasView, origin_of, view_of}
use Rattle.shared_composite.specs.Cores.{IsUnderway}
use Rattle.shared_composite.proofs.BoardCalls.{of_pool}
use Rattle.shared_composite.proofs.CoreLaws.{underway}
use Rattle.board_cases.specs.Seats.{Can, Stays, used}
use Rattle.board_cases.proofs.Views.{Has, counts_of, retained_has, released_has, ended_has, ended_marked, left_has, done_has, took_spent, handed_has, joined_has}

-- what a seat knows
pub knows : (s : BoardSeat) (v : BoardView) → HasView s v → view_of s ≡ v
knows s v has = ap (λ (m : Me (Option Home) BoardView). m.0) has

at_view : (s : BoardSeat) (v : BoardView) (counts moves turns all : ℕ) → HasView s v → Has counts moves turns all v
    → Has counts moves turns all (view_of s)
at_view s v counts moves turns all has it = subst (Has counts moves turns all) (sym (knows s v has)) it

-- ---- A count is handed on.

module _ (board : Board) (turns : ℕ) (s m : BoardSeat) (can : Can board 1 turns s)
    (more : HasView m (retained 0 (view_of s))) where
  abbrev kept_more : Has (counts_of (view_of s) + 1) ((view_of s).moves - 1) (view_of s).turns (used s) (view_of m)
  kept_more = at_view m _ _ _ _ _ more (retained_has (view_of s) can.counts)

  pub counts_more : Counts 0 (view_of m)
  counts_more = let a = kept_more.counts_are in omega (arith, a)

  pub turns_more : turns ≤ (view_of m).turns
  turns_more = let a = kept_more.turns_are in let b = can.turns_left in omega (arith, a, b)

  module _ (n r : BoardSeat) (left : HasView n (hand_left 0 turns (view_of m)))
      (given : HasView r (handed 0 turns (view_of m))) where
    abbrev less : Has (counts_of (view_of m) - 1) (view_of m).moves ((view_of m).turns - turns) (used m - turns)
        (view_of n)
    less = at_view n _ _ _ _ _ left (left_has (view_of m) counts_more turns turns_more)

    abbrev got : Has 1 0 turns turns (view_of r)
    got = at_view r _ _ _ _ _ given (handed_has turns (view_of m))

    pub hand_stays : IsSeatOf board n → Stays board 1 turns s n
    hand_stays own = record {
      own = own;
      counts = (let a = kept_more.counts_are in let b = less.counts_are in let c = can.counts in
          omega (arith, a, b, c));
      moves_left = (let a = kept_more.moves_are in let b = less.moves_are in omega (arith, a, b));
      turns_left = (let a = kept_more.turns_are in let b = less.turns_are in omega (arith, a, b));
    }

    pub hand_can : IsSeatOf board r → Can board 0 turns r
    hand_can own = record {
      own = own;
      counts = (let a = got.counts_are in omega (arith, a));
      moves_left = omega arith;
      turns_left = (let a = got.turns_are in omega (arith, a));
    }

    pub hand_used : used n + used r ≡ used s
    hand_used =
        let a : used m ≡ used s = kept_more.spent_is in let b : used n ≡ used m - turns = less.spent_is in
        let c : used r ≡ turns = got.spent_is in let le : turns ≤ (view_of m).turns = turns_more in
        let t : ℕ = (view_of m).turns in let x : ℕ = used m in let more' : t ≤ x = omega arith in
        let y : ℕ = used n in let z : ℕ = used r in let w : ℕ = used s in let a' : x ≡ w = a in
        let b' : y ≡ x - turns = b in let c' : z ≡ turns = c in let le' : turns ≤ t = le in let goal : y + z ≡ w =
        omega (arith, a', b', c', le', more') in goal

-- ---- Seats are joined.

module _ (s o n : BoardSeat) (view : HasView n (joined (view_of s) (view_of o))) where
  abbrev both : Has (counts_of (view_of s) + counts_of (view_of o)) ((view_of s).moves + (view_of o).moves)
      ((view_of s).turns + (view_of o).turns) (used s + used o) (view_of n)
  both = at_view n _ _ _ _ _ view (joined_has (view_of s) (view_of o))

  pub joined_used : used n ≡ used s + used o
  joined_used = both.spent_is

  pub joined_counts : Counts 0 (view_of s) → Counts 0 (view_of n)
  joined_counts counts = let a = both.counts_are in omega (arith, a, counts)

  -- and one of two counts is let go
  module _ (board : Board) (t : BoardSeat) (can : Can board 0 0 s) (other : Can board 0 0 o)
      (it : IsReleasedOn board Kept 0 (view_of n) (view_of t)) where
    abbrev back : Has (counts_of (view_of n) - 1) (view_of n).moves (view_of n).turns (used n) (view_of t)
    back =
        subst (Has (counts_of (view_of n) - 1) (view_of n).moves (view_of n).turns (used n)) (sym it.answer.1)
        (released_has (view_of n) (joined_counts can.counts))

    pub back_stays : IsSeatOf board t → Stays board 0 0 s t
    back_stays own = record {
      own = own;
      counts = (let a = both.counts_are in let b = back.counts_are in let c = can.counts in let d = other.counts in
          omega (arith, a, b, c, d));
      moves_left = (let a = both.moves_are in let b = back.moves_are in omega (arith, a, b));
      turns_left = (let a = both.turns_are in let b = back.turns_are in omega (arith, a, b));
    }

    pub back_turns : (view_of s).turns + (view_of o).turns ≤ (view_of t).turns
    back_turns = let a = both.turns_are in let b = back.turns_are in omega (arith, a, b)

    pub back_used : used t ≡ used s + used o
    back_used = back.spent_is ∙ both.spent_is

-- ---- A composite is read.

module _ (board : Board) (s n : BoardSeat) (can : Can board 0 1 s) (own : IsSeatOf board n) where
  pub section_stays : HasView n (done 0 (view_of s)) → Stays board 0 1 s n × (used n ≡ used s)
  section_stays view =
      let it = at_view n _ _ _ _ _ view (done_has (view_of s) can.counts can.turns_left) in (
        record {
          own = own;
          counts = (let a = it.counts_are in let b = can.counts in omega (arith, a, b));
          moves_left = (let a = it.moves_are in omega (arith, a));
          turns_left = (let a = it.turns_are in omega (arith, a));
        },
        it.spent_is,
      )

-- ---- A composite is let go.

module _ (board : Board) (s n : BoardSeat) (can : Can board 0 1 s) where
  pub kept_view : IsReleasedOn board Kept 0 (view_of s) (view_of n)
      → Has (counts_of (view_of s) - 1) (view_of s).moves (view_of s).turns (used s) (view_of n)
  kept_view it =
      subst (Has (counts_of (view_of s) - 1) (view_of s).moves (view_of s).turns (used s)) (sym it.answer.1)
      (released_has (view_of s) can.counts)

  module _ (mark : EndMark) (it : IsReleasedOn board (Ended mark) 0 (view_of s) (view_of n)) where
    abbrev ends : Has (counts_of (view_of s) - 1) (view_of s).moves (view_of s).turns (used s) (view_of n)
    ends =
        subst (Has (counts_of (view_of s) - 1) (view_of s).moves (view_of s).turns (used s)) (sym it.answer.2)
        (ended_has (view_of s) can.counts)

    pub marked : HasMark mark.composite (view_of n)
    marked =
        subst (λ (x : ℕ × BoardView). HasMark x.0 x.1) (λ i. (sym it.answer.1 i, sym it.answer.2 i))
        (ended_marked (view_of s) can.counts)

    pub turn_left : 0 < (view_of n).turns
    turn_left = let a = ends.turns_are in let b = can.turns_left in omega (arith, a, b)

    -- and then the core is taken
    pub taken_used : (t : BoardSeat) → HasView t (took mark.composite (view_of n)) → used t ≡ used s
    taken_used t view =
        ap (λ (v : BoardView). spent v) (knows t _ view ∙ ap (λ (k : ℕ). took k (view_of n)) it.answer.1)
        ∙ took_spent (view_of n) (subst (λ (k : ℕ). HasMark k (view_of n)) it.answer.1 marked) turn_left
        ∙ ends.spent_is

pub home_core : (board : Board) (pool : SharedPool) (k : ℕ) (core : Core) → IsPoolOf board pool → IsAtHome board k core
    → IsUnderway pool core
home_core board pool k core is at = underway pool core (of_pool (origin_of board) pool k core is at)

-- what two may have, one has
pub either : (P : Core → Type 0) (r a b : Option Core) → (r ≡ a) ⊎ (r ≡ b) → IfSome a P → IfSome b P → IfSome r P
either P r a b (inl e) x y = subst (λ (o : Option Core). IfSome o P) (sym e) x
either P r a b (inr e) x y = subst (λ (o : Option Core). IfSome o P) (sym e) y
