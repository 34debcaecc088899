-- What the parts of all seats are at the close, as logs of lanes.
use Rattle.std.specs.Prelude.{◌≡◌, ℕ, ◌<◌, List, length, map, Some, None, slice_get}
use Rattle.pool_law.specs.declared.id.RootId.{RootId}
use Rattle.pool_law.specs.declared.note.Note.{Note}
use Rattle.pool_law.specs.declared.run.Shape.{Shape}
use Rattle.pool_law.specs.NotedHistories.{entry_of_noted}
use Rattle.pool_law.specs.Logs.{Logs, ToldNote, of_lane, history_of, entries_of}
use Rattle.pool_law.specs.Counts.{TotalHolds, count_over, names_root, is_birth}
use Rattle.pool_law.specs.Busy.{BusyHolds}
use Rattle.pool_law.specs.Legal.{HistoriesHold, others_retains}
use Rattle.pool_table.specs.declared.views.Entry.{Entry}
use Rattle.pool_table.specs.declared.views.Entry.TheVariants.{At, Ref, Busy}
use Rattle.pool_table.specs.declared.views.Part.{Part}
use Rattle.pool_table.specs.declared.views.SeatView.{SeatView}
use Rattle.pool_table.specs.Hands.{InHand}
use Rattle.run_order.specs.Order.{InOneOrder}
use Rattle.shared_pool.specs.Looks.{LooksRight}

-- an entry of a part as a note of a log, and as an entry that knows its root and region
abbrev pub note_of : Entry → Note
note_of (At object number noted) = Note.At object number noted.did
note_of (Ref root did) = Note.Ref root did
note_of (Busy held) = Note.Busy held

abbrev pub entry_of : Entry → ToldNote
entry_of (At object number noted) = entry_of_noted object number noted
entry_of (Ref root did) = record { note = Note.Ref root did; root = None; region = None }
entry_of (Busy held) = record { note = Note.Busy held; root = None; region = None }

-- the parts as logs
abbrev pub logs_in : List Part → Logs
logs_in parts = map (λ p. map note_of p.notes) parts

-- and with what each entry knows
abbrev pub entries_in : List Part → List (List ToldNote)
entries_in parts = map (λ p. map entry_of p.notes) parts

-- the parts are those of the lanes, in order
pub record AreLanes (shape : Shape) (parts : List Part) : Type 0 where
  pub many : length parts ≡ shape.lanes
  pub numbers : (lane : ℕ) (p : Part) → slice_get parts lane ≡ Some p → p.number ≡ Some lane

-- no root place is in the view's hands
abbrev pub HasNoPlace : SeatView → Type 0
HasNoPlace v = (place : ℕ) → InHand place v → ⊥

-- the logs are whole, and what the law says of logs alone holds. What a lane looked up is right
-- whether or not the lane's own counts hold.
pub record AreWhole (shape : Shape) (parts : List Part) : Type 0 where
  pub histories : HistoriesHold shape (logs_in parts)
  pub entries : entries_of (logs_in parts) ≡ entries_in parts
  pub born : (root : RootId) → 0 < count_over (names_root root) (entries_in parts) →
      0 < count_over (is_birth root) (entries_in parts)
  pub totals : (root : RootId) → 0 < count_over (is_birth root) (entries_in parts) →
      TotalHolds root (entries_in parts)
  pub looks : (root : RootId) (lane : ℕ) →
      LooksRight root (others_retains root lane 0 (entries_in parts))
      (of_lane (entries_in parts) lane)
  pub busy : (lane : ℕ) →
      BusyHolds lane (λ object. history_of object (logs_in parts)) (of_lane (logs_in parts) lane)
  -- all steps of all lanes stand in one order, in which each fits those before it
  pub one_order : InOneOrder (logs_in parts)
