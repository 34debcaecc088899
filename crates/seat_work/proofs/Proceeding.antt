-- A seat that goes on from step to step.
use Rattle.std.proofs.Common.{◌≡◌, ℕ, ◌+◌, ◌≤◌, List, sym, ap, ◌∙◌, subst, arith, refl}
use Rattle.std.specs.Prelude.{unwrap_or}
use Rattle.shared_pool.specs.declared.seat.PoolSeat.{PoolSeat}
use Rattle.pool_table.specs.declared.views.Entry.{Entry}
use Rattle.pool_table.specs.declared.views.SeatView.{SeatView}
use Rattle.shared_pool.specs.SeatViews.{view_of, HasView}
use Rattle.shared_pool.specs.declared.pool.SharedPool.{SharedPool}
use Rattle.pool_table.specs.Letters.{sent_on}
use Rattle.shared_pool.specs.Seats.{IsPoolSeat}
use Rattle.seat_work.specs.Hands.{Hand, IsHeld, lane_in}
use Rattle.seat_work.specs.Changes.{Holds, IsPaid, Change, Changes, no_change}
use Rattle.seat_work.specs.HandOvers.{Sends}
use Rattle.seat_work.specs.Works.{Works, Goes, Proceeds}
use Rattle.seat_work.proofs.Counting.{Tells, changes_by, paid_after}
use Rattle.seat_work.proofs.Grown.{Grows, sent_append}
use Rattle.seat_work.proofs.HandLaws.{Carries, held_on}
use Rattle.seat_work.proofs.Knowing.{knows_more, knows_on, knows_same}

-- ---- What is sent.

-- entries of which no more than so many are posts
pub sends_by : (v w : SeatView) (es : List Entry) (spent : ℕ) → Grows v w es spent → (count : ℕ)
    → ((to : ℕ) → sent_on (lane_in v) to es ≤ count) → Sends count v w
sends_by v w es spent grows count few = record {
  number = grows.more.number;
  setting = grows.more.setting;
  sent = λ to. (let a = posted to in let b = few to in omega (arith, a, b));
}
  where
    posted : (to : ℕ) → sent_on (lane_in w) to w.own.notes
        ≡ sent_on (lane_in v) to v.own.notes + sent_on (lane_in v) to es
    posted to =
        (λ i. sent_on (unwrap_or (grows.more.number i) 0) to (grows.more.notes i))
        ∙ sent_append (lane_in v) to v.own.notes es

-- one after another
pub sends_on : (a b : ℕ) (u v w : SeatView) → Sends a u v → Sends b v w → Sends (a + b) u w
sends_on a b u v w x y = record {
  number = y.number ∙ x.number;
  setting = y.setting ∙ x.setting;
  sent = λ to. (let p = x.sent to in let q = y.sent to in omega (arith, p, q));
}

-- ---- What has changed.

pub changes_on : (c : Change) (u v w : SeatView) → Changes no_change u v → Changes c v w → Changes c u w
changes_on c u v w x y = record {
  counts = λ root. (let p = x.counts root in let q = y.counts root in omega (arith, p, q));
  ended = λ root. (let p = x.ended root in let q = y.ended root in omega (arith, p, q));
  empty = (let p = x.empty in let q = y.empty in omega (arith, p, q));
  full = (let p = x.full in let q = y.full in omega (arith, p, q));
}

pub changes_then : (c : Change) (u v w : SeatView) → Changes c u v → Changes no_change v w → Changes c u w
changes_then c u v w x y = record {
  counts = λ root. (let p = x.counts root in let q = y.counts root in omega (arith, p, q));
  ended = λ root. (let p = x.ended root in let q = y.ended root in omega (arith, p, q));
  empty = (let p = x.empty in let q = y.empty in omega (arith, p, q));
  full = (let p = x.full in let q = y.full in omega (arith, p, q));
}

module _ (pool : SharedPool) where
  -- ---- One piece of work after another.

  pub goes_on : (between after : Hand) (a b c d t m : ℕ) (old mid new : PoolSeat) → Goes pool between a b old mid
      → Goes pool after c d mid new → a + c ≤ t → b + d ≤ m → Goes pool after t m old new
  goes_on between after a b c d t m old mid new x y le lf = record {
    seat = y.seat;
    held = y.held;
    paid = y.paid;
    turns_left = (let p = x.turns_left in let q = y.turns_left in omega (arith, p, q, le));
    moves_left = (let p = x.moves_left in let q = y.moves_left in omega (arith, p, q, lf));
    number = y.number ∙ x.number;
    knows = knows_on (view_of old) (view_of mid) (view_of new) x.knows y.knows;
  }

  -- nothing was spent yet
  pub goes_none : (hand : Hand) (t m : ℕ) (s : PoolSeat) → Works pool hand t m s → Goes pool hand 0 0 s s
  goes_none hand t m s works = record {
    seat = works.seat;
    held = works.held;
    paid = works.paid;
    turns_left = omega arith;
    moves_left = omega arith;
    number = refl;
    knows = knows_same (view_of s) (view_of s) refl;
  }

  pub proceeds_on : (c : Change) (between after : Hand) (a b d e t m : ℕ) (old mid new : PoolSeat)
      → Proceeds pool between a b no_change old mid → Proceeds pool after d e c mid new → a + d ≤ t → b + e ≤ m
      → Proceeds pool after t m c old new
  proceeds_on c between after a b d e t m old mid new x y le lf = record {
    goes = goes_on between after a b d e t m old mid new x.goes y.goes le lf;
    changes = changes_on c (view_of old) (view_of mid) (view_of new) x.changes y.changes;
    sends = sends_on 0 0 (view_of old) (view_of mid) (view_of new) x.sends y.sends;
  }

  pub proceeds_then : (c : Change) (between after : Hand) (a b d e t m : ℕ) (old mid new : PoolSeat)
      → Proceeds pool between a b c old mid → Proceeds pool after d e no_change mid new → a + d ≤ t → b + e ≤ m
      → Proceeds pool after t m c old new
  proceeds_then c between after a b d e t m old mid new x y le lf = record {
    goes = goes_on between after a b d e t m old mid new x.goes y.goes le lf;
    changes = changes_then c (view_of old) (view_of mid) (view_of new) x.changes y.changes;
    sends = sends_on 0 0 (view_of old) (view_of mid) (view_of new) x.sends y.sends;
  }

  -- more could have been spent
  pub proceeds_more : (c : Change) (hand : Hand) (a b t m : ℕ) (old new : PoolSeat)
      → Proceeds pool hand a b c old new → a ≤ t → b ≤ m → Proceeds pool hand t m c old new
  proceeds_more c hand a b t m old new x le lf = record {
    goes = record {
      seat = x.goes.seat;
      held = x.goes.held;
      paid = x.goes.paid;
      turns_left = (let p = x.goes.turns_left in omega (arith, p, le));
      moves_left = (let p = x.goes.moves_left in omega (arith, p, lf));
      number = x.goes.number;
      knows = x.goes.knows;
    };
    changes = x.changes;
    sends = x.sends;
  }

  -- what is left serves the next piece
  pub works_after : (before after : Hand) (t m a b s n : ℕ) (old new : PoolSeat) → Works pool before t m old
      → Goes pool after a b old new → s + a ≤ t → n + b ≤ m → Works pool after s n new
  works_after before after t m a b s n old new works goes le lf = record {
    seat = goes.seat;
    held = goes.held;
    paid = goes.paid;
    turns_left = (let x = works.turns_left in let y = goes.turns_left in omega (arith, x, y, le));
    moves_left = (let x = works.moves_left in let y = goes.moves_left in omega (arith, x, y, lf));
  }

  -- ---- A seat that knows what it knew.

  pub works_same : (hand : Hand) (t m : ℕ) (old mid : PoolSeat) → IsPoolSeat pool mid → view_of mid ≡ view_of old
      → Works pool hand t m old → Works pool hand t m mid
  works_same hand t m old mid seat same works = record {
    seat = seat;
    held = subst (IsHeld hand) (sym same) works.held;
    paid = subst IsPaid (sym same) works.paid;
    turns_left = (let p = works.turns_left in let q = ap (λ (v : SeatView). v.turns) same in omega (arith, p, q));
    moves_left = (let p = works.moves_left in let q = ap (λ (v : SeatView). v.moves) same in omega (arith, p, q));
  }

  pub goes_same : (hand : Hand) (t m : ℕ) (old mid new : PoolSeat) → view_of mid ≡ view_of old
      → Goes pool hand t m mid new → Goes pool hand t m old new
  goes_same hand t m old mid new same x = record {
    seat = x.seat;
    held = x.held;
    paid = x.paid;
    turns_left = (let p = x.turns_left in let q = ap (λ (v : SeatView). v.turns) same in omega (arith, p, q));
    moves_left = (let p = x.moves_left in let q = ap (λ (v : SeatView). v.moves) same in omega (arith, p, q));
    number = x.number ∙ ap (λ (v : SeatView). v.own.number) same;
    knows =
        knows_on (view_of old) (view_of mid) (view_of new) (knows_same (view_of old) (view_of mid) same) x.knows;
  }

  pub proceeds_same : (c : Change) (hand : Hand) (t m : ℕ) (old mid new : PoolSeat) → view_of mid ≡ view_of old
      → Proceeds pool hand t m c mid new → Proceeds pool hand t m c old new
  proceeds_same c hand t m old mid new same x = record {
    goes = goes_same hand t m old mid new same x.goes;
    changes = subst (λ (v : SeatView). Changes c v (view_of new)) same x.changes;
    sends = subst (λ (v : SeatView). Sends 0 v (view_of new)) same x.sends;
  }

  -- nothing was done
  pub proceeds_none : (hand : Hand) (t m a b : ℕ) (old new : PoolSeat) → Works pool hand t m old
      → IsPoolSeat pool new → HasView new (view_of old) → Proceeds pool hand a b no_change old new
  proceeds_none hand t m a b old new works seat has =
      let same : view_of new ≡ view_of old = ap (λ m. m.0) has in
      let here = works_same hand t m old new seat same works in
      record {
        goes = record {
          seat = seat;
          held = here.held;
          paid = here.paid;
          turns_left = (let q = ap (λ (v : SeatView). v.turns) same in omega (arith, q));
          moves_left = (let q = ap (λ (v : SeatView). v.moves) same in omega (arith, q));
          number = ap (λ (v : SeatView). v.own.number) same;
          knows = knows_same (view_of old) (view_of new) same;
        };
        changes = subst (λ (v : SeatView). Changes no_change (view_of old) v) (sym same) (record {
          counts = λ root. omega arith;
          ended = λ root. omega arith;
          empty = omega arith;
          full = omega arith;
        });
        sends = subst (λ (v : SeatView). Sends 0 (view_of old) v) (sym same)
            (record { number = refl; setting = refl; sent = λ to. omega arith });
      }

  -- ---- A step.

  module _ (before after : Hand) (t m : ℕ) (old new : PoolSeat) (works : Works pool before t m old)
      (is : IsPoolSeat pool new) (c : Change) (es : List Entry) (turns spent : ℕ)
      (grows : Grows (view_of old) (view_of new) es spent)
      (took : (view_of old).turns ≤ (view_of new).turns + turns)
      (carries : Carries (lane_in (view_of old)) before after es)
      (tells : Tells c es) (holds : Holds c.gone (view_of old)) where
    abbrev v : SeatView
    v = view_of old

    abbrev w : SeatView
    w = view_of new

    pub goes_by : Goes pool after turns spent old new
    goes_by = record {
      seat = is;
      held = held_on v w es spent before after grows carries works.held;
      paid = paid_after c v w (changes_by c v w es spent grows tells) holds;
      turns_left = took;
      moves_left = grows.moves;
      number = grows.more.number;
      knows = knows_more v w es grows.more.notes;
    }

    pub proceeds_by : ((to : ℕ) → sent_on (lane_in v) to es ≤ 0) → Proceeds pool after turns spent c old new
    proceeds_by unsent = record {
      goes = goes_by;
      changes = changes_by c v w es spent grows tells;
      sends = sends_by v w es spent grows 0 unsent;
    }
