-- What a lane has still to spend behind a turn.
use Rattle.std.proofs.Common.{◌≡◌, ℕ, ◌+◌, ◌*◌, ◌/◌, ◌<◌, ◌≤◌, Bool, List, [], ◌∷◌, length, refl, sym, ap, ◌∙◌, subst, arith, Option, length-append}
use Rattle.std.specs.Prelude.{unwrap_or}
use Rattle.pool_law.specs.declared.command.Command.{Command}
use Rattle.pool_law.specs.declared.run.Shape.{Shape}
use Rattle.pool_law.specs.Limits.{cached_classes}
use Rattle.pool_law.specs.LaneLaw.{sweep_period}
use Rattle.pool_table.specs.declared.views.Entry.{Entry}
use Rattle.pool_table.specs.declared.views.SeatView.{SeatView}
use Rattle.shared_pool.specs.SeatViews.{view_of}
use Rattle.shared_pool.specs.declared.pool.SharedPool.{SharedPool}
use Rattle.shared_pool.specs.MailAnswers.{RoomFor}
use Rattle.pool_table.specs.Letters.{sent_on}
use Rattle.shared_pool.specs.SeatLanes.{lane_of}
use Rattle.lane_context.specs.declared.context.Context.{Context}
use Rattle.lane_context.specs.declared.context.Stage.{Stage}
use Rattle.lane_context.specs.declared.context.Stage.TheVariants.{Ready, Allotting, Ending, Sweeping, Closing, Crossing, Parting, Consolidating, Copying, Replacing, Growing}
use Rattle.lane_stages.specs.Budgets.{Left, notes_alone, with_sheds}
use Rattle.seat_work.specs.Hands.{Hand}
use Rattle.lane_context.specs.Contexts.{ContextGrew, HasRoomFor, SpendsAt, notes_of, left_at, left_now}
use Rattle.lane_core.specs.Lanes.{IsClosing, both, left_for_each, with_takes, left_for_rest, left_to_ask}

-- ---- Room for less.

pub room_most : (pool : SharedPool) (d : Context) (more less : Left) → less.notes ≤ more.notes → less.moves ≤ more.moves
    → ((to : ℕ) → less.sends to ≤ more.sends to) → HasRoomFor pool d more → HasRoomFor pool d less
room_most pool d more less notes moves sends room = record {
  notes = (let a = room.notes in omega (arith, a, notes));
  few = (let a = room.few in omega (arith, a, notes));
  turns = (let a = room.turns in omega (arith, a, notes));
  moves = (let a = room.moves in omega (arith, a, moves));
  mails = λ to lt m. (let a = room.mails to lt m in let b = sends to in omega (arith, a, b));
}

-- what is left now is more than what the command may spend
now_more : (composes : Bool) (command : Command) (stage : Stage) (v : SeatView)
    → ((left_at composes command stage v).notes ≤ (left_now composes command stage v).notes)
    × ((left_at composes command stage v).moves ≡ (left_now composes command stage v).moves)
    × ((to : ℕ) → (left_at composes command stage v).sends to ≡ (left_now composes command stage v).sends to)
now_more composes command Ready v = (omega arith, refl, λ to. refl)
now_more composes command (Allotting name size class stage) v = (omega arith, refl, λ to. refl)
now_more composes command (Ending stage) v = (omega arith, refl, λ to. refl)
now_more composes command (Sweeping reply stage) v = (omega arith, refl, λ to. refl)
now_more composes command (Closing stage) v = (omega arith, refl, λ to. refl)
now_more composes command (Crossing name marks stage) v = (omega arith, refl, λ to. refl)
now_more composes command (Parting name stage) v = (omega arith, refl, λ to. refl)
now_more composes command (Consolidating p stage) v = (omega arith, refl, λ to. refl)
now_more composes command (Copying name whole parts stage) v = (omega arith, refl, λ to. refl)
now_more composes command (Replacing name whole stage) v = (omega arith, refl, λ to. refl)
now_more composes command (Growing name it size class stage) v = (omega arith, refl, λ to. refl)

pub room_front : (pool : SharedPool) (d : Context) (composes : Bool) (command : Command) (stage : Stage) (v : SeatView)
    (more rest : Left) → HasRoomFor pool d (both (both (left_now composes command stage v) more) rest)
    → HasRoomFor pool d (left_at composes command stage v)
room_front pool d composes command stage v more rest room =
    let now = now_more composes command stage v in let a = now.0 in let b = now.1 in
    room_most pool d (both (both (left_now composes command stage v) more) rest) (left_at composes command stage v)
    (omega (arith, a)) (omega (arith, b)) (λ to. let e = now.2 to in omega (arith, e)) room

-- ---- The caches that are to be asked.

-- a lane that isn't closing keeps a note for each cache in each sweep to come, and in the closing
pub to_ask_open : (stage : Stage) (asking : ℕ) → (IsClosing stage → ⊥)
    → left_to_ask stage asking ≡ notes_alone (cached_classes * (1 + asking / sweep_period))
to_ask_open Ready asking not = refl
to_ask_open (Allotting name size class stage) asking not = refl
to_ask_open (Ending stage) asking not = refl
to_ask_open (Sweeping reply stage) asking not = refl
to_ask_open (Crossing name marks stage) asking not = refl
to_ask_open (Parting name stage) asking not = refl
to_ask_open (Consolidating p stage) asking not = refl
to_ask_open (Copying name whole parts stage) asking not = refl
to_ask_open (Replacing name whole stage) asking not = refl
to_ask_open (Growing name it size class stage) asking not = refl
to_ask_open (Closing stage) asking not = absurd (not tt)

-- so many sweeps less
pub sweeps_less : (sweeps less more : ℕ) → less + sweep_period * sweeps ≤ more
    → less / sweep_period + sweeps ≤ more / sweep_period
sweeps_less sweeps less more le = omega (arith, le)

-- a command that was answered left the rest to those behind it
pub rest_ready : (composes : Bool) (later : List Command) (v : SeatView)
    → let left = both (with_sheds v (notes_alone 0)) (with_takes (left_for_each composes later)) in let rest =
    left_for_rest composes later Ready v in
    (left.notes ≡ rest.notes) × (left.asks ≡ rest.asks) × (left.moves ≡ rest.moves)
    × ((to : ℕ) → left.sends to ≡ rest.sends to)
rest_ready composes [] v = (omega arith, omega arith, omega arith, λ to. omega arith)
rest_ready composes (c ∷ later) v = (omega arith, omega arith, omega arith, λ to. omega arith)

-- ---- Room behind a turn.

module _ (pool : SharedPool) (hand : Hand) (old new : Context) (added : List Entry)
    (grew : ContextGrew pool hand old new added) where
  pub lane_same : lane_of new.seat ≡ lane_of old.seat
  lane_same = ap (λ (n : Option ℕ). unwrap_or n 0) grew.more.number

  pub notes_grew : length (notes_of new) ≡ length (notes_of old) + length added
  notes_grew = ap (λ (es : List Entry). length es) grew.more.notes ∙ length-append (notes_of old) added

  -- what was spent is left less
  pub has_room : (before after : Left) → HasRoomFor pool old before
      → after.notes + length (notes_of new) ≤ before.notes + length (notes_of old)
      → after.moves + (view_of old.seat).moves ≤ before.moves + (view_of new.seat).moves →
      ((to : ℕ) → after.sends to + sent_on (lane_of new.seat) to (notes_of new)
      ≤ before.sends to + sent_on (lane_of old.seat) to (notes_of old)) → HasRoomFor pool new after
  has_room before after room notes moves sends =
      let more = notes_grew in
      record {
        notes = (let a = room.notes in let b = grew.room in omega (arith, a, b, notes));
        few = (let a = room.few in omega (arith, a, notes));
        turns = (let a = room.turns in let b = grew.more.turns in omega (arith, a, b, notes, more));
        moves = (let a = room.moves in omega (arith, a, moves));
        mails = λ to lt. mail to (subst (λ (s : Shape). to < s.lanes) grew.shape lt);
      }
    where
      mail : (to : ℕ) → to < old.shape.lanes →
          RoomFor pool (lane_of new.seat) to (sent_on (lane_of new.seat) to (notes_of new) + after.sends to)
      mail to lt =
          subst (λ (k : ℕ). RoomFor pool k to (sent_on (lane_of new.seat) to (notes_of new) + after.sends to))
          (sym lane_same) (λ m. (let a = room.mails to lt m in let b = sends to in omega (arith, a, b)))

  -- of which the rest is left as it was
  pub room_behind : (before after rest : Left) → SpendsAt old new before after
      → HasRoomFor pool old (both (both before rest)
      (notes_alone (cached_classes * (1 + (old.asked + (before.asks + rest.asks)) / sweep_period)))) →
      HasRoomFor pool new (both (both after rest)
      (notes_alone (cached_classes * (1 + (new.asked + (after.asks + rest.asks)) / sweep_period))))
  room_behind before after rest sp room =
      let a = sp.notes in let b = sp.asks in let m = sp.moves in
      let asks = sweeps_less sp.sweeps (new.asked + (after.asks + rest.asks)) (old.asked + (before.asks + rest.asks))
      (omega (arith, b)) in
      let less = few after.notes before.notes rest.notes (length (notes_of new)) (length (notes_of old)) sp.sweeps
      ((new.asked + (after.asks + rest.asks)) / sweep_period)
      ((old.asked + (before.asks + rest.asks)) / sweep_period) a asks in
      has_room (both (both before rest)
      (notes_alone (cached_classes * (1 + (old.asked + (before.asks + rest.asks)) / sweep_period))))
      (both (both after rest) (notes_alone
      (cached_classes * (1 + (new.asked + (after.asks + rest.asks)) / sweep_period)))) room less
      (omega (arith, m)) (λ to. let e = sp.sends to in omega (arith, e))
    where
      few : (after before rest new old sweeps now then : ℕ) → after + new ≤ before + old + cached_classes * sweeps
          → now + sweeps ≤ then → after + rest + cached_classes * (1 + now) + new ≤ before + rest + cached_classes
          * (1 + then) + old
      few after before rest new old sweeps now then a asks = omega (arith, a, asks)
