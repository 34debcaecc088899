use Rattle.std.proofs.Common.{◌≡◌, ◌≤◌, ◌<◌, ◌+◌, ◌*◌, ℕ, zero, suc, true, [], ◌∷◌, List, length, refl, sym, ap, ◌∙◌, subst, arith}
use Rattle.std.specs.List.{list_all, list_any}
use Rattle.std.specs.Prelude.{Some, slice_get, unwrap_or}
use Rattle.pool_law.specs.declared.command.Command.{Command}
use Rattle.pool_law.specs.declared.run.Shape.{Shape}
use Rattle.pool_law.specs.Bounds.{composes, note_bound}
use Rattle.pool_law.specs.Limits.{IsShape}
use Rattle.pool_table.specs.declared.views.Layout.{Layout}
use Rattle.shared_pool.specs.declared.pool.SharedPool.{SharedPool}
use Rattle.shared_pool.specs.declared.seat.PoolSeat.{PoolSeat}
use Rattle.shared_pool.specs.Opening.{HasRooms, IsOpened}
use Rattle.shared_pool.specs.SeatLanes.{lane_of}
use Rattle.shared_pool.specs.Wearing.{IsShort}
use Rattle.seat_work.proofs.FirstSeats.{opened_works}
use Rattle.seat_work.proofs.MailRooms.{room_at}
use Rattle.lane_core.proofs.RoomLaws.{bound_few}
use Rattle.lane_core.specs.Lanes.{left_for_all}
use Rattle.lane_core.specs.Opened.{AreFirst, IsFirstSeat}
use Rattle.lane_cases.specs.Plain.{is_plain}
use Rattle.lane_cases.specs.declared.sweeps.filled.TheConstants.{LAYOUT}
use Rattle.lane_cases.proofs.Plain.{few_moves, few_sends, all_fits}
use Rattle.lane_cases.proofs.sweeps.filled.begin.Goals as goal

abbrev rooms : List ℕ
rooms = 8450 ∷ 8450 ∷ 0 ∷ 0 ∷ []

same_shape : (pool : SharedPool) → pool.layout ≡ LAYOUT → LAYOUT.shape ≡ pool.table.layout.shape
same_shape pool is = sym (ap (λ (l : Layout). l.shape) (pool.same_layout ∙ is))

first_commands : (cs : List Command) → list_all is_plain cs ≡ true → length cs ≤ 8450 → AreFirst LAYOUT.shape cs
first_commands cs plain few = record {
  commands_are = record { few = omega (arith, few); fit = all_fits LAYOUT.shape [] cs refl plain };
}

room_for : (to : ℕ) → to < 2 → slice_get rooms (0 * 2 + to) ≡ Some 8450
room_for zero below = refl
room_for (suc zero) below = refl
room_for (suc (suc n)) below = absurd (omega (arith, below))

-- the seat with which the lane begins
first_seat : (pool : SharedPool) (cs : List Command) (s : PoolSeat)
    → pool.layout ≡ LAYOUT → IsShape LAYOUT.shape → list_all is_plain cs ≡ true → length cs ≤ 8450
    → HasRooms pool rooms → IsOpened LAYOUT pool 0 s → IsFirstSeat pool LAYOUT.shape cs s
first_seat pool cs s is limits plain few has o = record {
  shape_is = same_shape pool is;
  limits = limits;
  short = subst IsShort (sym (pool.same_layout ∙ is)) (omega arith);
  seat_is = o.seat;
  notes = o.notes;
  turns = subst (λ (n : ℕ). note_bound cs ≤ n) (sym o.turns) (bound_few cs (omega (arith, few)));
  moves = subst (λ (n : ℕ). (left_for_all cs).moves ≤ n) (sym o.moves)
      (let a = few_moves (list_any composes cs) cs plain in omega (arith, a, few));
  mails = λ to below m.
      let number : lane_of s ≡ 0 = ap (λ n. unwrap_or n 0) o.number in
      let two : pool.table.layout.shape.lanes ≡ 2 = ap (λ (x : Shape). x.lanes) (sym (same_shape pool is)) in
      let at : slice_get rooms (lane_of s * pool.table.layout.shape.lanes + to) ≡ Some 8450 =
      (λ j. slice_get rooms (number j * two j + to)) ∙ room_for to below in
      let one = room_at pool rooms (lane_of s) to 8450 has at m in
      let sent = few_sends (list_any composes cs) cs to plain in
      omega (arith, one, sent, few);
}

pub new-requires-clause-commands : goal.new-requires-clause-commands
new-requires-clause-commands c =
    let cs = c.in_ok-commands.ensures in first_commands _ cs.plain cs.few

pub new-requires-clause-seat : goal.new-requires-clause-seat
new-requires-clause-seat c =
    let o = c.in_ok-pool.ensures in let cs = c.in_ok-commands.ensures in (
      c.in_ok-pool.field-0.pool,
      first_seat c.in_ok-pool.field-0.pool _ c.in_ok-pool.field-0.first o.layout o.limits cs.plain cs.few o.rooms
          o.first,
    )

pub returns-in-Ok-clause-lane : goal.returns-in-Ok-clause-lane
returns-in-Ok-clause-lane c =
    let o = c.in_ok-pool.ensures in let cs = c.in_ok-commands.ensures in
    c.in-Ok.ensures.lane c.in_ok-pool.field-0.pool
    (first_seat c.in_ok-pool.field-0.pool _ c.in_ok-pool.field-0.first o.layout o.limits cs.plain cs.few o.rooms
    o.first)

pub returns-in-Ok-clause-other : goal.returns-in-Ok-clause-other
returns-in-Ok-clause-other c =
    opened_works c.in_ok-pool.field-0.pool LAYOUT 1 1000001 0 c.in_ok-pool.field-0.second c.in_ok-pool.ensures.second
    (omega arith) (omega arith)
