-- Lemmas for the tests: the seats of a pool with two lanes.
use Rattle.std.proofs.Common.{◌≡◌, ℕ, ◌+◌, ◌*◌, ◌<◌, List, [], ◌∷◌, length, Option, sym, ap, ◌∙◌, subst, arith}
use Rattle.std.specs.Prelude.{HoldsAt, slice_get, slice_index_or, unwrap_or, remove}
use Rattle.std.proofs.lemmas.List.Edits.{get_or-remove_above}
use Rattle.shared_pool.specs.declared.seat.PoolSeat.{PoolSeat}
use Rattle.pool_table.specs.declared.views.Entry.{Entry}
use Rattle.pool_table.specs.declared.views.Layout.{Layout}
use Rattle.pool_table.specs.declared.views.SeatView.{SeatView}
use Rattle.shared_pool.specs.SeatViews.{view_of}
use Rattle.shared_pool.specs.declared.pool.SharedPool.{SharedPool}
use Rattle.shared_pool.specs.MailAnswers.{HasRoom}
use Rattle.shared_pool.specs.Mails.{AtMail}
use Rattle.shared_pool.specs.Opening.{HasRooms, IsOpened}
use Rattle.pool_table.specs.Letters.{sent_on}
use Rattle.shared_pool.specs.SeatLanes.{lane_of}
use Rattle.seat_work.specs.HandOvers.{Sends}
use Rattle.seat_work.specs.Hands.{lane_in}
use Rattle.seat_work.proofs.MailRooms.{room_at}

-- the first two elements of a list, taken out one after the other
pub first_two : {X : Type 0} (P : ℕ → X → Type 0) (items rest : List X) (a b : X) → 1 < length items
    → a ≡ slice_index_or items 0 a → rest ≡ remove items 0 → b ≡ slice_index_or rest 0 b
    → ((k : ℕ) → k < 2 → HoldsAt (P k) items k) → P 0 a × P 1 b
first_two {X} P items rest a b two first behind second each =
    let next : b ≡ slice_index_or items 1 b = second ∙ ap (λ (l : List X). slice_index_or l 0 b) behind
    ∙ get_or-remove_above items 0 b 0 (omega arith) (omega (arith, two)) in
    (subst (P 0) (sym first) (each 0 (omega arith) a), subst (P 1) (sym next) (each 1 (omega arith) b))

-- a seat that posted nothing more has the room that it had
pub room_kept : (pool : SharedPool) (to : ℕ) (v w : SeatView) → HasRoom pool (lane_in v) to v → Sends 0 v w
    → HasRoom pool (lane_in w) to w
room_kept pool to v w has sends =
    let lane : lane_in w ≡ lane_in v = ap (λ (n : Option ℕ). unwrap_or n 0) sends.number in
    subst (λ (from : ℕ). AtMail pool from to (λ m. sent_on from to w.own.notes < m.room)) (sym lane)
    (λ d. (let a = sends.sent to in let b = ap (λ (from : ℕ). sent_on from to w.own.notes) lane in let c = has d in
    omega (arith, a, b, c)))

module _ (pool : SharedPool) where
  -- the first of two lanes may post to the other
  pub opened_room : (l : Layout) (s : PoolSeat) → pool.table.layout.shape.lanes ≡ 2
      → HasRooms pool (1 ∷ 1 ∷ 1 ∷ 1 ∷ []) → IsOpened l pool 0 s → HasRoom pool (lane_of s) 1 (view_of s)
  opened_room l s two rooms opened d =
      let lane : lane_of s ≡ 0 = ap (λ (n : Option ℕ). unwrap_or n 0) opened.number in
      let a = room_at pool (1 ∷ 1 ∷ 1 ∷ 1 ∷ []) (lane_of s) 1 1 rooms
      (λ i. slice_get (1 ∷ 1 ∷ 1 ∷ 1 ∷ []) (lane i * two i + 1)) d in
      let b = ap (λ (es : List Entry). sent_on (lane_of s) 1 es) opened.notes in omega (arith, a, b)
