-- An order of steps, told by turns: which lane goes on, and by how many of its notes.
use Rattle.std.specs.Prelude.{◌≡◌, ℕ, zero, suc, List, [], ◌∷◌, ◌++◌, map, take, drop}
use Rattle.pool_law.specs.declared.note.Note.{Note}
use Rattle.pool_law.specs.Logs.{Logs, of_lane}
use Rattle.run_order.specs.Order.{Step, InOneOrder}

-- a lane makes its next notes, so many
pub record Turn : Type 0 where
  pub lane : ℕ
  pub notes : ℕ

abbrev pub turn : ℕ → ℕ → Turn
turn lane notes = record { lane = lane; notes = notes }

-- a lane makes these notes, one after another
abbrev pub steps_by : ℕ → List Note → List Step
steps_by lane notes = map (λ n. record { lane = lane; note = n }) notes

-- the logs without the first notes of a lane, so many
abbrev pub without : ℕ → ℕ → Logs → Logs
without n lane [] = []
without n zero (log ∷ logs) = drop n log ∷ logs
without n (suc lane) (log ∷ logs) = log ∷ without n lane logs

-- the steps of these turns
abbrev pub steps_of : List Turn → Logs → List Step
steps_of [] logs = []
steps_of (t ∷ ts) logs =
    steps_by t.lane (take t.notes (of_lane logs t.lane)) ++ steps_of ts (without t.notes t.lane logs)

-- the logs are in one order, that of these turns
abbrev pub InTurns : List Turn → Logs → Type 0
InTurns turns logs = (o : InOneOrder logs) × (o.steps ≡ steps_of turns logs)
