-- What entries cost a seat whose own part got them.
use Rattle.std.proofs.Common.{◌≡◌, ℕ, ◌+◌, ◌≤◌, List, length, ap, ◌∙◌, arith, length-append}
use Rattle.std.specs.Prelude.{sum_by, unwrap_or}
use Rattle.std.proofs.lemmas.List.Sums.{sum_by-append}
use Rattle.pool_table.specs.declared.views.Entry.{Entry}
use Rattle.pool_table.specs.declared.views.SeatView.{SeatView}
use Rattle.pool_table.specs.Letters.{is_on_way, sent_as, sent_on}
use Rattle.seat_work.specs.Hands.{lane_in}
use Rattle.seat_work.proofs.Grown.{Grows}
use Rattle.lane_stages.specs.Budgets.{Left, Spends, takes}
use Rattle.lane_stages.proofs.Outs.{all_out_now}

module _ (v w : SeatView) (added : List Entry) (spent : ℕ) (grows : Grows v w added spent) where
  -- what the entries cost is spent
  pub spends : (before after : Left) → after.notes + length added ≤ before.notes
      → after.takes + sum_by takes added ≤ before.takes → after.moves + spent ≤ before.moves →
      ((to : ℕ) → after.sends to + sent_on (lane_in v) to added ≤ before.sends to) → Spends v w before after
  spends before after notes taken moves sends =
      record {
        notes =
            (let a = ap (λ (es : List Entry). length es) grows.more.notes in let b = length-append v.own.notes added in
            omega (arith, a, b, notes));
        takes = (let a = all_out_now v w added grows.more in omega (arith, a, taken));
        moves = (let a = grows.moves in omega (arith, a, moves));
        sends = λ to. (let a = posted to in let b = sends to in omega (arith, a, b));
      }
    where
      posted : (to : ℕ) → sent_on (lane_in w) to w.own.notes
          ≡ sent_on (lane_in v) to v.own.notes + sent_on (lane_in v) to added
      posted to =
          (λ i. sent_on (unwrap_or (grows.more.number i) 0) to (grows.more.notes i))
          ∙ sum_by-append (sent_as (is_on_way (lane_in v) to)) v.own.notes added
