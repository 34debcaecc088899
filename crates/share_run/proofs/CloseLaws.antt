-- How the composites end, and what their seats are then.
use Rattle.std.proofs.Common.{◌≡◌, ℕ, suc, ◌+◌, ◌<◌, List, [], ◌∷◌, ◌++◌, length, map, get_or, refl, sym, ap, ◌∙◌, subst, arith, inl, inr, length-append, Some, None}
use Rattle.std.specs.Prelude.{Option, All, filter_map, slice_get}
use Rattle.std.proofs.lemmas.Option.{slice_get-get_or}
use mathlib.Core.Logic.{dite}
use native.Mathlib.Decide.{ℕ_discrete}
use Rattle.pool_law.specs.declared.id.Part.{Part}
use Rattle.pool_table.specs.declared.views.Entry.{Entry}
use Rattle.pool_table.specs.declared.views.SeatView.{SeatView}
use Rattle.shared_pool.specs.declared.pool.SharedPool.{SharedPool}
use Rattle.shared_pool.specs.declared.seat.PoolSeat.{PoolSeat}
use Rattle.shared_pool.specs.Seated.{AreDone}
use Rattle.shared_pool.specs.Seats.{IsPoolSeat}
use Rattle.shared_pool.specs.SeatViews.{view_of}
use Rattle.lane_stages.specs.declared.stepped.Stepped.{Stepped}
use Rattle.lane_stages.specs.declared.stepped.Stepped.TheVariants.{Went, Pending, Waiting, Finished}
use Rattle.board_table.specs.declared.views.BoardView.{BoardView}
use Rattle.board_table.specs.Seats as table
use Rattle.board_table.specs.Views.{ended, spent, stake_of, took}
use Rattle.shared_composite.specs.declared.board.Board.{Board}
use Rattle.shared_composite.specs.declared.board.BoardSeat.{BoardSeat}
use Rattle.shared_composite.specs.declared.cores.Core.{Core}
use Rattle.shared_composite.specs.Boards as boards
use Rattle.shared_composite.specs.Cores.{HasStepped, IsEmptied, IsUnderway}
use Rattle.shared_composite.proofs.CoreLaws.{underway}
use Rattle.share_run.specs.Standing.{AreSpent, IsChief, IsCoreOf, IsEnding, IsOfLane, IsSpent, spent_by}
use Rattle.share_run.proofs.BoardLaws.{get_push}
use Rattle.share_run.proofs.DealLaws.{view_is}
use Rattle.share_run.proofs.PartLaws.{posted_more, quiet_posts}
use Rattle.share_run.proofs.Views.{counts_of, taken_of, marks_ended, spent_ended, ended_other, ended_taken, took_counts, took_taken, took_own, spent_took}

-- ---- A core that is stepped.

pub ending_first : (pool : SharedPool) (lane : ℕ) (inputs : List (List ℕ)) (c : Core)
    → IsCoreOf pool lane inputs c → IsEnding pool lane inputs c
ending_first pool lane inputs c core = record {
  underway = underway pool c core.core_is;
  lane_is = core.lane_is;
  lens = core.lens;
}

-- a seat with the same view
lane_same : (lane : ℕ) (old new : PoolSeat) → view_of new ≡ view_of old → IsOfLane lane old → IsOfLane lane new
lane_same lane old new is was = record {
  number = ap (λ (v : SeatView). v.own.number) is ∙ was.number;
  unposted = λ r. posted_more r old new [] (ap (λ (v : SeatView). v.own.notes) is ∙ sym (nothing_more _)) refl
      ∙ was.unposted r;
}
  where
    nothing_more : (es : List Entry) → es ++ [] ≡ es
    nothing_more [] = refl
    nothing_more (e ∷ es) = ap (λ (xs : List Entry). e ∷ xs) (nothing_more es)

pub ending_on : (pool : SharedPool) (lane : ℕ) (inputs : List (List ℕ)) (old new : Core) (answer : Stepped)
    → IsEnding pool lane inputs old → IsUnderway pool new → HasStepped pool old new answer
    → IsEnding pool lane inputs new
ending_on pool lane inputs old new Went was is (added, some, did) = record {
  underway = is;
  lane_is = record {
    number = did.more.number ∙ was.lane_is.number;
    unposted = λ r.
        posted_more r old.seat new.seat added did.more.notes (quiet_posts r added did.quiet) ∙ was.lane_is.unposted r;
  };
  lens = ap (map (λ (p : Part). p.len)) did.parts ∙ was.lens;
}
ending_on pool lane inputs old new (Pending held) was is (same, found) = record {
  underway = is;
  lane_is = lane_same lane old.seat new.seat (ap (λ m. m.0) found.marked) was.lane_is;
  lens = ap (map (λ (p : Part). p.len)) same.parts ∙ was.lens;
}
ending_on pool lane inputs old new (Waiting sender) was is did = absurd did
ending_on pool lane inputs old new Finished was is did = subst (IsEnding pool lane inputs) (sym did) was

-- the seat of a core that is over
pub spent_seat : (pool : SharedPool) (lane : ℕ) (inputs : List (List ℕ)) (c : Core) (s : PoolSeat)
    → IsEnding pool lane inputs c → s ≡ c.seat → IsEmptied pool s → IsSpent pool lane s
spent_seat pool lane inputs c s was same emptied =
    let own = subst (IsOfLane lane) (sym same) was.lane_is in
    record {
      done = record { seat = emptied.seat_is; number = own.number; nothing = emptied.nothing };
      lane_is = own;
      counted = emptied.counted;
    }

-- ---- Seats, one after another.

pub record SpentTo (pool : SharedPool) (n : ℕ) (seats : List PoolSeat) : Type 0 where
  pub many : length seats ≡ n
  pub each : AreSpent pool seats

pub spent_more : (pool : SharedPool) (n : ℕ) (seats : List PoolSeat) (s : PoolSeat) → SpentTo pool n seats
    → IsSpent pool n s → SpentTo pool (n + 1) (seats ++ s ∷ [])
spent_more pool n seats s was one = record {
  many = (let a = length-append seats (s ∷ []) in let b = was.many in omega (arith, a, b));
  each = λ k t e.
      elim (get_push seats s t k e) [
        | inl before ↦ was.each k t before
        | inr last ↦
            subst (λ (x : ℕ × PoolSeat). IsSpent pool x.0 x.1) (λ i. (sym (last.0 ∙ was.many) i, sym last.1 i)) one
      ];
}

pub spent_done : (pool : SharedPool) (seats : List PoolSeat) → length seats ≡ pool.table.layout.shape.lanes
    → AreSpent pool seats → AreDone pool seats
spent_done pool seats many each = record {
  many = many;
  each = λ lane lt d.
      (each lane (get_or seats lane d) (slice_get-get_or seats lane d (omega (arith, many, lt)))).done;
}

pub spent_seats : (pool : SharedPool) (seats : List PoolSeat) → AreSpent pool seats → All (IsPoolSeat pool) seats
spent_seats pool seats each k d lt = (each k (get_or seats k d) (slice_get-get_or seats k d lt)).done.seat

-- ---- The first seat ends a composite and takes its core.

module _ (board : Board) (many k c : ℕ) (old mid new : BoardSeat) (was : IsChief board many k old) (below : k < many)
    (own : boards.IsSeatOf board new) (end : boards.view_of mid ≡ ended k (boards.view_of old)) (same : c ≡ k)
    (took_is : boards.HasView new (took c (boards.view_of mid))) where
  abbrev v : BoardView
  v = boards.view_of old

  abbrev w : BoardView
  w = ended k v

  is : boards.view_of new ≡ took k w
  is = view_is new _ took_is ∙ (λ i. took (same i) (end i))

  counts : 0 < counts_of k v
  counts = was.counts k (omega arith) below

  mark : 0 < (stake_of k w).marks
  mark = marks_ended k v counts

  pub chief_ends : IsChief board many (k + 1) new
  chief_ends = record {
    own = own;
    counts = λ j from lt.
        (let e = ap (counts_of j) is in let a = took_counts k w mark j in
        let b = ended_other k v counts j (λ s. omega (arith, s, from)) in
        let d = was.counts j (omega (arith, from)) lt in omega (arith, e, a, b, d));
    took = λ j lt.
        (let e = ap (taken_of j) is in
        dite (ℕ_discrete j k)
        (λ s. (let a = subst (λ (n : ℕ). 0 < taken_of n (took k w)) (sym s) (took_own k w mark) in
        omega (arith, e, a)))
        (λ ne. (let a = took_taken k w mark j in let b = ended_taken k v counts j in
        let d = was.took j (omega (arith, lt, ne)) in omega (arith, e, a, b, d))));
    turns = (let e = ap (λ (x : BoardView). x.turns) is in let a = was.turns in omega (arith, e, a, below));
  }

  pub ends_spent : spent_by new ≡ spent_by old
  ends_spent =
      ap spent is ∙ spent_took k w mark (let a = was.turns in omega (arith, a, below)) ∙ spent_ended k v counts

-- a composite that is ended has its mark, and a turn is left
pub ended_mark : (k c : ℕ) (v w : BoardView) → 0 < counts_of k v → w ≡ ended k v → c ≡ k → table.HasMark c w
ended_mark k c v w counts is same =
    subst (λ (x : ℕ × BoardView). table.HasMark x.0 x.1) (λ i. (sym same i, sym is i)) (marks_ended k v counts)

-- ---- Nothing is left at the board's close.

pub none_left : (places : List (Option Core)) → ((k : ℕ) → k < length places → slice_get places k ≡ Some None)
    → filter_map (λ (place : Option Core). place) places ≡ []
none_left [] none = refl
none_left (Some c ∷ places) none = absurd (cc (none 0 (omega arith)))
none_left (None ∷ places) none = none_left places (λ k lt. none (suc k) (omega (arith, lt)))

pub none_are_left : (board : Board) (v : BoardView) (many taken : ℕ) (cores : List Core) → many ≡ taken
    → board.table.composites ≡ many → ((j : ℕ) → j < taken → 0 < taken_of j v) → boards.AreLeft board v cores
    → cores ≡ []
none_are_left board v many taken cores all composites took left =
    left.are
    ∙ none_left left.places
    (λ k lt. (let a = left.stand.many in
    left.stand.taken k (omega (arith, a, lt)) (took k (omega (arith, a, all, composites, lt)))))
