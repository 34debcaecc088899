-- What the steps of the reader answer.
use Rattle.std.specs.Prelude.{◌≡◌, ℕ, List, [], ◌∷◌, ◌++◌, length, ⊤, Option, Some, None, Result, Ok, Err}
use Rattle.pool_law.specs.declared.command.Command.{Command}
use Rattle.trace_text.specs.declared.items.RowNo.{RowNo}
use Rattle.trace_text.specs.declared.items.RowNo.TheVariants as rows
use Rattle.trace_text.specs.declared.TraceNo.{TraceNo}
use Rattle.trace_text.specs.declared.TraceNo.TheVariants as refusals
use Rattle.trace_text.specs.Names.{Mentions}
use Rattle.trace_text.specs.Forms.{Read}
use Rattle.trace_text.specs.Lane.{LaneRead}

-- what was answered and the names from then on are what was read, or there was no memory
abbrev pub IsRead : {A : Type 0} → Result A RowNo → Mentions → Read A → Type 0
IsRead (Ok a) names read = read ≡ Some (a, names)
IsRead (Err rows.Form) names read = read ≡ None
IsRead (Err rows.Memory) names read = Unit {0}

-- the lane is as it was read with one more row, or there was no memory
abbrev pub IsTaken : Result ⊤ RowNo → LaneRead → Option LaneRead → Type 0
IsTaken (Ok u) new read = read ≡ Some new
IsTaken (Err rows.Form) new read = read ≡ None
IsTaken (Err rows.Memory) new read = Unit {0}

-- the lane has one more row, or the refusal names the row's place
abbrev pub TakesRow : Result ⊤ TraceNo → ℕ → LaneRead → LaneRead → Option LaneRead → Type 0
TakesRow (Ok u) lane old new read = read ≡ Some new
TakesRow (Err refusals.Memory) lane old new read = Unit {0}
TakesRow (Err e) lane old new read = (read ≡ None) × (e ≡ refusals.Shape lane (length old.commands))

-- one more lane stands behind the others, or it is refused
abbrev pub TakesLane :
    Result ⊤ TraceNo → List (List Command) → List (List Command) →
    Result (List Command) TraceNo → Type 0
TakesLane (Ok u) old new reading =
    (lane : List Command) × ((reading ≡ Ok lane) × (new ≡ old ++ lane ∷ []))
TakesLane (Err refusals.Memory) old new reading = Unit {0}
TakesLane (Err e) old new reading = reading ≡ Err e
