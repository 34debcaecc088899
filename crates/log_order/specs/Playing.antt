-- Notes one after another, as they are played.
use Rattle.std.specs.Prelude.{◌≡◌, ◌⊎◌, ℕ, ◌+◌, ◌-◌, ◌<◌, ◌≤◌, Bool, true, false, List, [], ◌∷◌, ◌++◌, length, take, get_or, Option, Some, None, slice_get}
use Rattle.pool_law.specs.declared.note.Note.{Note}
use Rattle.pool_law.specs.Logs.{Logs, of_lane}
use Rattle.pool_law.specs.Lives.{StandsAt}
use Rattle.run_order.specs.Order.{Step, notes_by, Fits, InOneOrder}
use Rattle.log_order.specs.Precedence.{MustStandBefore}
use Rattle.log_order.specs.Tallying.{AreCounted}
use Rattle.log_order.specs.declared.playing.Playing.{Playing}
use Rattle.log_order.specs.declared.spots.Spot.{Spot}

-- a lane's step, if there is a note
abbrev pub step_by : ℕ → Option Note → List Step
step_by lane None = []
step_by lane (Some note) = record { lane = lane; note = note } ∷ []

-- the step at a place of the logs, if there is one
abbrev pub step_at : Logs → Spot → List Step
step_at logs s = step_by s.lane (slice_get (of_lane logs s.lane) s.at)

-- the steps that notes at these places of the logs are
abbrev pub steps_at : Logs → List Spot → List Step
steps_at logs [] = []
steps_at logs (s ∷ spots) = step_at logs s ++ steps_at logs spots

-- at each of these places of the logs a note stands
abbrev pub AllStand : Logs → List Spot → Type 0
AllStand logs order =
    (k : ℕ) (s : Spot) → slice_get order k ≡ Some s → (n : Note) × StandsAt logs s.lane s.at n

-- the logs are in one order, in which their notes stand as at these places
pub record InOrder (logs : Logs) (order : List Spot) : Type 0 where
  pub stand : AllStand logs order
  pub one : InOneOrder logs
  pub so : one.steps ≡ steps_at logs order

-- each step fits those before it
abbrev pub AllFit : List Step → Type 0
AllFit steps = (p : ℕ) (x : Step) → slice_get steps p ≡ Some x → Fits (take p steps) x.note

-- these steps are the first notes of each lane, so many, and each fits those before it
pub record ArePlayed (logs : Logs) (next : List ℕ) (steps : List Step) : Type 0 where
  pub lanes : length next ≡ length logs
  pub whole : (lane : ℕ) → notes_by lane steps ≡ take (get_or next lane 0) (of_lane logs lane)
  pub within : (lane : ℕ) → get_or next lane 0 ≤ length (of_lane logs lane)
  pub fit : AllFit steps

-- the note at this place is the next of its lane
pub record IsNext (logs : Logs) (next : List ℕ) (spot : Spot) (note : Note) : Type 0 where
  pub low : spot.lane < length next
  pub at : get_or next spot.lane 0 ≡ spot.at
  pub stands : slice_get (of_lane logs spot.lane) spot.at ≡ Some note

-- no lane has a note left
abbrev pub IsOver : Logs → List ℕ → Type 0
IsOver logs next = (lane : ℕ) → length (of_lane logs lane) ≤ get_or next lane 0

-- the note at the place of this node was not played
abbrev pub IsLeft : List Spot → List ℕ → ℕ → Type 0
IsLeft spots next node =
    (s : Spot) × (slice_get spots node ≡ Some s) × (get_or next s.lane 0 ≤ s.at)

-- a note that must stand before this one was not played
pub record MustWait (logs : Logs) (next : List ℕ) (spot : Spot) : Type 0 where
  pub other : Spot
  pub before : MustStandBefore logs other spot
  pub left : get_or next other.lane 0 ≤ other.at

-- the next note of a lane, if there is one, does not fit behind these steps, or must wait
abbrev pub IsHeldBack : Logs → List ℕ → List Step → ℕ → Type 0
IsHeldBack logs next steps lane =
    (note : Note) → slice_get (of_lane logs lane) (get_or next lane 0) ≡ Some note →
    (Fits steps note → ⊥) ⊎ MustWait logs next (record { lane = lane; at = get_or next lane 0 })

-- notes are left, and no lane can go on: behind these notes, the first of each lane, each of which fits
-- behind those before it, each lane's next does not fit, or must wait for one that is left
pub record IsStuck (logs : Logs) (order : List Spot) : Type 0 where
  pub next : List ℕ
  pub stand : AllStand logs order
  pub played : ArePlayed logs next (steps_at logs order)
  pub left : IsOver logs next → ⊥
  pub held : (lane : ℕ) → IsHeldBack logs next (steps_at logs order) lane

-- the notes were played in the order that the program keeps, and counted
pub record IsSoFar (logs : Logs) (play : Playing) : Type 0 where
  pub stand : AllStand logs play.order.items
  pub played : ArePlayed logs play.next.items (steps_at logs play.order.items)
  pub counted : AreCounted play.tally (steps_at logs play.order.items)

-- a lane cannot go on
abbrev pub IsHeld : Logs → Playing → ℕ → Type 0
IsHeld logs play lane =
    IsHeldBack logs play.next.items (steps_at logs play.order.items) lane

-- no lane can
abbrev pub AreHeld : Logs → Playing → Type 0
AreHeld logs play = (lane : ℕ) → lane < length logs → IsHeld logs play lane

-- how many notes of all lanes are left
abbrev pub left_in : Logs → List ℕ → ℕ
left_in [] next = 0
left_in (log ∷ logs) [] = length log + left_in logs []
left_in (log ∷ logs) (n ∷ next) = (length log - n) + left_in logs next

-- the play stands as it stood, and this holds
pub record StaysSo (old new : Playing) (Holds : Type 0) : Type 0 where
  pub next : new.next.items ≡ old.next.items
  pub order : new.order.items ≡ old.order.items
  pub holds : Holds

-- the play moved on, or it stays so
abbrev pub MovesOn : Logs → Playing → Playing → Bool → Type 0 → Type 0
MovesOn logs old new moved Holds =
    IsSoFar logs new
    × (elim moved [
      | true ↦ left_in logs new.next.items < left_in logs old.next.items
      | false ↦ StaysSo old new Holds
    ])
