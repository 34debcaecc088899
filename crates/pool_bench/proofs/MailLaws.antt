-- The room of the mail to the next lane: it is found, and what is posted takes of it.
use Rattle.std.proofs.Common.{◌≡◌, ℕ, ◌+◌, ◌≤◌, Option, Some, sym, ap, ◌∙◌, subst, arith}
use Rattle.std.specs.Prelude.{unwrap_or}
use Rattle.pool_table.specs.Letters.{sent_on}
use Rattle.shared_pool.specs.declared.pool.SharedPool.{SharedPool}
use Rattle.shared_pool.specs.declared.seat.PoolSeat.{PoolSeat}
use Rattle.shared_pool.specs.MailAnswers.{HasRoom, RoomFor}
use Rattle.shared_pool.specs.SeatLanes.{lane_of}
use Rattle.shared_pool.specs.SeatViews.{view_of}
use Rattle.seat_work.specs.HandOvers.{Sends}
use Rattle.pool_bench.specs.Mails.{HasMail, next_lane}

-- a seat that may post one more has room for it
pub next_room : (pool : SharedPool) (s : PoolSeat) (lanes lane to : ℕ) → lanes ≡ pool.table.layout.shape.lanes
    → (view_of s).own.number ≡ Some lane → to ≡ next_lane lanes lane → HasMail pool 1 s
    → HasRoom pool (lane_of s) to (view_of s)
next_room pool s lanes lane to same number is has =
    let at : lane_of s ≡ lane = ap (λ (n : Option ℕ). unwrap_or n 0) number in
    let there : to ≡ next_lane pool.table.layout.shape.lanes (lane_of s) = is ∙ (λ i. next_lane (same i) (sym at i)) in
    subst (λ (n : ℕ). HasRoom pool (lane_of s) n (view_of s)) (sym there) (λ d. let a = has d in omega (arith, a))

-- after so many more it may post so many fewer
pub mail_left : (pool : SharedPool) (most used left : ℕ) (old new : PoolSeat) → HasMail pool most old
    → Sends used (view_of old) (view_of new) → left + used ≤ most → HasMail pool left new
mail_left pool most used left old new has sends le =
    let lanes : ℕ = pool.table.layout.shape.lanes in
    let notes = (view_of new).own.notes in
    let lane : lane_of new ≡ lane_of old = ap (λ (n : Option ℕ). unwrap_or n 0) sends.number in
    subst (λ (a : ℕ). RoomFor pool a (next_lane lanes a) (sent_on a (next_lane lanes a) notes + left)) (sym lane)
    (λ d.
    let a = sends.sent (next_lane lanes (lane_of old)) in
    let b = ap (λ (a : ℕ). sent_on a (next_lane lanes (lane_of old)) notes) lane in
    let c = has d in omega (arith, a, b, c, le))
