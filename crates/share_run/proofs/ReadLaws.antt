-- What reads and releases leave of a reader's seat.
use Rattle.std.proofs.Common.{◌≡◌, ℕ, ◌+◌, ◌-◌, ◌<◌, ◌==◌, List, [], ◌∷◌, ◌++◌, length, map, take, drop, get_or, set, sym, ap, ◌∙◌, arith}
use Rattle.std.specs.Prelude.{All, if◌then◌else◌}
use Rattle.std.proofs.lemmas.List.{map-append, take_more, take_more_set}
use Rattle.board_table.specs.Seats.{Counts}
use Rattle.board_table.specs.Views.{done, released, spent}
use Rattle.shared_composite.specs.declared.board.Board.{Board}
use Rattle.shared_composite.specs.declared.board.BoardSeat.{BoardSeat}
use Rattle.shared_composite.specs.Boards.{HasView, IsSeatOf, view_of}
use Rattle.share_text.specs.declared.lines.Seen.{Seen}
use Rattle.share_run.specs.Reading.{Covers, Keeps, asked_in, seen_whole}
use Rattle.share_run.proofs.DealLaws.{view_is}
use Rattle.share_run.proofs.ListSteps.{left_more, length_set, next_item}
use Rattle.share_run.proofs.Views.{counts_of, done_counts, spent_done}

-- ---- One read.

pub keeps_on : (board : Board) (old mid new : BoardSeat) → Keeps board old mid → Keeps board mid new
    → Keeps board old new
keeps_on board old mid new x y = record {
  own = y.own;
  counts = λ j. y.counts j ∙ x.counts j;
  spent = y.spent ∙ x.spent;
}

module _ (board : Board) (k : ℕ) (old new : BoardSeat) (own : IsSeatOf board new) where
  pub keeps_done : Counts k (view_of old) → 0 < (view_of old).turns → HasView new (done k (view_of old))
      → Keeps board old new
  keeps_done has turn view =
      let is = view_is new (done k (view_of old)) view in
      record {
        own = own;
        counts = λ j. ap (counts_of j) is ∙ done_counts k (view_of old) has j;
        spent = ap spent is ∙ spent_done k (view_of old) has turn;
      }

-- ---- All reads, one after another.

module _ (wholes : List (List ℕ)) where
  -- the first reads are made, and the others are as they were
  pub record SeenTo (at : ℕ) (old new : List Seen) : Type 0 where
    pub many : length new ≡ length old
    pub made : take at new ≡ map (seen_whole wholes) (asked_in (take at old))
    pub left : drop at new ≡ drop at old

  pub seen_next : (at : ℕ) (old new : List Seen) (d : Seen) → SeenTo at old new
      → get_or new at d ≡ get_or old at d
  seen_next at old new d to = next_item at old new d to.left

  pub seen_more : (at : ℕ) (old new : List Seen) (d s : Seen) → at < length new → SeenTo at old new
      → s ≡ seen_whole wholes (get_or old at d).composite → SeenTo (at + 1) old (set new at s)
  seen_more at old new d s lt to is =
      let below : at < length old = (let a = to.many in omega (arith, a, lt)) in
      record {
        many = length_set new at s ∙ to.many;
        made =
            take_more_set new at s lt
            ∙ (λ i. to.made i ++ is i ∷ [])
            ∙ sym (ap (map (seen_whole wholes)) (map-append (λ (x : Seen). x.composite) (take at old)
            (get_or old at d ∷ []))
            ∙ map-append (seen_whole wholes) (asked_in (take at old)) ((get_or old at d).composite ∷ []))
            ∙ ap (λ (xs : List Seen). map (seen_whole wholes) (asked_in xs)) (sym (take_more old at d below));
        left = left_more at old new s to.left;
      }
