-- Lanes that are stepped, and lanes that are made.
use Rattle.std.proofs.Common.{◌≡◌, ◌<◌, ◌≤◌, ℕ, Bool, zero, suc, ◌+◌, ◌*◌, ◌^◌, List, [], ◌∷◌, get_or, length, map, Some, refl, sym, ap, ◌∙◌, subst, arith}
use Rattle.std.specs.Prelude.{All, slice_get, unwrap_or}
use Rattle.std.proofs.lemmas.Nat.{row_fits}
use Rattle.std.proofs.lemmas.Option.{get_or_from_slice_get, slice_get-get_or, slice_get_within, same_Some}
use Rattle.pool_law.specs.declared.command.Command.{Command}
use Rattle.pool_law.specs.declared.run.Shape.{Shape}
use Rattle.pool_law.specs.Bounds.{note_bound}
use Rattle.pool_law.specs.Legal.{AreCommands}
use Rattle.pool_law.specs.Limits.{IsShape}
use Rattle.pool_law.specs.Logs.{of_lane}
use Rattle.shared_pool.specs.declared.seat.PoolSeat.{PoolSeat}
use Rattle.pool_table.specs.declared.views.Layout.{Layout}
use Rattle.shared_pool.specs.declared.pool.SharedPool.{SharedPool}
use Rattle.shared_pool.specs.Opening.{AreOpened, HasRooms, IsOpened}
use Rattle.shared_pool.specs.SeatLanes.{lane_of}
use Rattle.shared_pool.specs.Wearing.{IsShort}
use Rattle.seat_work.proofs.MailRooms.{room_at}
use Rattle.lane_core.specs.declared.lane.Lane.{Lane}
use Rattle.lane_core.specs.Lanes.{Heeds, IsLane, SameLane, left_for_all, number_of}
use Rattle.lane_core.specs.Opened.{IsFirstSeat}
use Rattle.lane_core.specs.Played.{AreFinished}
use Rattle.trace_top.specs.Needs.{AreSent, HasRoomFor}
use Rattle.trace_top.specs.Standing.{AllFinished, AllOf, AllRun, AreLanes, AreReady, RunsLane}
use Rattle.work_table.proofs.Places.{all_at}
use Rattle.trace_top.proofs.Places.{log_found}

-- a lane that was stepped runs what it ran
pub runs_later : (trace : List (List Command)) (stops : ℕ → ℕ → Bool) (pool : SharedPool) (i : ℕ) (old new : Lane)
    → RunsLane trace stops pool i old → IsLane pool new → SameLane old new
    → (Heeds (stops (number_of old)) old → Heeds (stops (number_of old)) new)
    → RunsLane trace stops pool i new
runs_later trace stops pool i old new runs is same heeds = record {
  number = same.number ∙ runs.number;
  lane = is;
  commands = runs.commands ∙ ap Some (sym same.commands);
  heeds =
      subst (λ (n : ℕ). Heeds (stops n) new) runs.number
      (heeds (subst (λ (n : ℕ). Heeds (stops n) old) (sym runs.number) runs.heeds));
}

-- lanes that run a trace are lanes of the pool
pub are_lanes : (trace : List (List Command)) (stops : ℕ → ℕ → Bool) (pool : SharedPool) (lanes : List Lane)
    → AllRun trace stops pool lanes → AreLanes pool lanes
are_lanes trace stops pool lanes all i l e = (all i l e).lane

-- and each heeded the gate, by its number
pub all_heed : (trace : List (List Command)) (stops : ℕ → ℕ → Bool) (pool : SharedPool) (lanes : List Lane)
    → AllRun trace stops pool lanes → All (λ (l : Lane). Heeds (stops (number_of l)) l) lanes
all_heed trace stops pool lanes all =
    all_at (λ (l : Lane). Heeds (stops (number_of l)) l) lanes
    (λ i l e. let r = all i l e in subst (λ (n : ℕ). Heeds (stops n) l) (sym r.number) r.heeds)

-- as many lanes as the trace has, each with the commands of its place, have the commands of the trace
pub same_commands : (trace : List (List Command)) (lanes : List Lane) → length lanes ≡ length trace
    → ((i : ℕ) (l : Lane) → slice_get lanes i ≡ Some l → slice_get trace i ≡ Some l.commands)
    → map (λ (l : Lane). l.commands) lanes ≡ trace
same_commands [] [] len at = refl
same_commands [] (l ∷ ls) len at = absurd (omega (arith, len))
same_commands (cs ∷ trace) [] len at = absurd (omega (arith, len))
same_commands (cs ∷ trace) (l ∷ ls) len at =
    λ k. same_Some _ _ (sym (at zero l refl)) k
    ∷ same_commands trace ls (omega (arith, len)) (λ i x e. at (suc i) x e) k

-- lanes that have finished may be closed with their pool
pub are_finished : (trace : List (List Command)) (stops : ℕ → ℕ → Bool) (pool : SharedPool) (lanes : List Lane)
    → length lanes ≡ pool.table.layout.shape.lanes → AllRun trace stops pool lanes → AllFinished lanes
    → AreFinished pool lanes
are_finished trace stops pool lanes many runs done = record {
  many = many;
  each = λ k below d.
      let stands = slice_get-get_or lanes k d (omega (arith, below, many)) in
      let runs_k = runs k (get_or lanes k d) stands in
      record { lane = runs_k.lane; number_is = runs_k.number; finished = done k (get_or lanes k d) stands };
}

-- the turns of so few lanes are fewer than the names of a root place
pub short_for : (layout : Layout) → IsShape layout.shape → layout.turns ≤ 2 ^ 24 → IsShort layout
short_for layout limits few =
    let most = limits.lanes_most in
    let all = row_fits layout.shape.lanes layout.turns 17 (2 ^ 24) (omega (arith, most)) few in
    omega (arith, all)

-- the seat of a lane of the trace, before the lane is made
first_seat : (trace : List (List Command)) (shape : Shape) (layout : Layout) (mail : List ℕ) (pool : SharedPool)
    (i : ℕ) (cs : List Command) (s : PoolSeat)
    → IsShape shape → shape ≡ pool.table.layout.shape → IsShort pool.table.layout → shape.lanes ≡ length trace
    → HasRoomFor layout cs → AreSent trace mail → slice_get trace i ≡ Some cs → HasRooms pool mail
    → IsOpened layout pool i s → IsFirstSeat pool shape cs s
first_seat trace shape layout mail pool i cs s limits same short lanes room sent found rooms o = record {
  shape_is = same;
  limits = limits;
  short = short;
  seat_is = o.seat;
  notes = o.notes;
  turns = subst (λ (n : ℕ). note_bound cs ≤ n) (sym o.turns) room.turns;
  moves = subst (λ (n : ℕ). (left_for_all cs).moves ≤ n) (sym o.moves) room.moves;
  mails = λ to below d.
      let number : lane_of s ≡ i = ap (λ n. unwrap_or n 0) o.number in
      let many : pool.table.layout.shape.lanes ≡ length trace = sym (ap (λ (x : Shape). x.lanes) same) ∙ lanes in
      let here = slice_get_within trace i cs found in
      let at = room_at pool mail (lane_of s) to ((left_for_all cs).sends to) rooms
      ((λ j. slice_get mail (number j * many j + to))
      ∙ sent i to here (omega (arith, below, lanes))
      ∙ ap (λ (c : List Command). Some ((left_for_all c).sends to)) (log_found trace i cs found)) d in
      omega (arith, at);
}

-- all commands with their seats
pub ready : (trace : List (List Command)) (shape : Shape) (layout : Layout) (mail : List ℕ) (pool : SharedPool)
    (seats : List PoolSeat)
    → IsShape shape → shape ≡ pool.table.layout.shape → IsShort pool.table.layout → shape.lanes ≡ length trace
    → layout.shape ≡ shape
    → ((lane : ℕ) → AreCommands shape (of_lane trace lane))
    → ((lane : ℕ) → lane < length trace → HasRoomFor layout (of_lane trace lane)) → AreSent trace mail
    → AreOpened layout mail pool seats → AreReady pool shape trace seats
ready trace shape layout mail pool seats limits same short lanes layout_is commands room sent opened i cs s
    found stands =
    let here = slice_get_within trace i cs found in
    let are = log_found trace i cs found in
    let below : i < layout.shape.lanes =
    subst (λ (n : ℕ). i < n) (sym lanes ∙ sym (ap (λ (x : Shape). x.lanes) layout_is)) here in
    let o = subst (IsOpened layout pool i) (get_or_from_slice_get seats i s s stands) (opened.each i below s) in
    record {
      commands_are = record { commands_are = subst (AreCommands shape) are (commands i) };
      seat_is = first_seat trace shape layout mail pool i cs s limits same short lanes
          (subst (HasRoomFor layout) are (room i here)) sent found opened.rooms o;
      number = ap (λ n. unwrap_or n 0) o.number;
    }

-- seats that may be made lanes are of the pool
pub seats_are : (trace : List (List Command)) (shape : Shape) (pool : SharedPool) (seats : List PoolSeat)
    → length seats ≡ length trace → AreReady pool shape trace seats → AllOf pool seats
seats_are trace shape pool seats many are i s stands =
    let here = slice_get_within seats i s stands in
    (are i (get_or trace i []) s (slice_get-get_or trace i [] (omega (arith, here, many))) stands).seat_is.seat_is
