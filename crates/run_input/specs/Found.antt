-- What is found of input: a run that has what it asks about, or why there is none.
use Rattle.std.specs.Prelude.{◌≡◌, Option, Some, None, Result, Ok, Err}
use Rattle.pool_law.specs.declared.run.Run.{Run}
use Rattle.pool_law.specs.Legal.{IsLegal, logs_of}
use Rattle.pool_law.specs.Limits.{IsShape}
use Rattle.pool_law.specs.Text.{Text}
use Rattle.run_order.specs.Order.{InOneOrder}
use Rattle.run_text.specs.Derived.{IsDerived}
use Rattle.run_text.specs.Reads.{Reads}
use Rattle.text_laws.specs.Typed.{IsTyped}
use Rattle.text_ends.specs.Ends.{Rose}
use Rattle.text_ends.specs.Spans.{SourceSpan}
use Rattle.text_ends.specs.Transfer.{ReadsText}
use Rattle.run_input.specs.declared.fault.InputNo.{InputNo}
use Rattle.run_input.specs.declared.fault.InputNo.TheVariants.{Form, ReadFault, Memory, Unread}
use Rattle.run_input.specs.Cases.{Case, case_of}

-- a run of the trace and the pool that are asked about, which the text determines
pub record IsDetermined (case : Case) (run : Run) : Type 0 where
  pub reads : Reads case.0.trace case.0.shape case.1 run
  pub derived : IsDerived run

-- a run in memory of the trace and the pool that are asked about, with the text, that the pool can make, and
-- whose notes stand in one order
pub record IsPlayed (case : Case) (run : Run) : Type 0 where
  pub reads : Reads case.0.trace case.0.shape case.1 run
  pub legal : IsLegal run
  pub order : InOneOrder (logs_of run)
  pub typed : IsTyped run

-- a run of the trace and the pool that are asked about, with the text: where it determines one, that one, and
-- so where one can be played
pub record IsRunOf (case : Case) (run : Run) : Type 0 where
  pub reads : Reads case.0.trace case.0.shape case.1 run
  pub within : IsShape run.shape
  pub same : (other : Run) → IsDetermined case other → run ≡ other
  pub played : (other : Run) → IsPlayed case other → run ≡ other

-- the text determines no run of the trace and the pool that are asked about, and none can be played
pub record IsUndetermined (case : Case) : Type 0 where
  pub undetermined : (run : Run) → IsDetermined case run → ⊥
  pub unplayed : (run : Run) → IsPlayed case run → ⊥

-- a run of what is asked about; or nothing is asked about; or a case is whose text determines no run, and a
-- line of that was refused
abbrev pub IsTold : Result Run InputNo → Option Case → Type 0
IsTold (Ok run) asked = (case : Case) × ((asked ≡ Some case) × IsRunOf case run)
IsTold (Err Form) asked = asked ≡ None
IsTold (Err ReadFault) asked = ⊥
IsTold (Err Memory) asked = Unit {0}
IsTold (Err (Unread fault)) asked = (case : Case) × ((asked ≡ Some case) × IsUndetermined case)

-- the source failed; or there was no memory; or a text was read, and this is told of what it asks about
abbrev pub IsFound : Result Run InputNo → SourceSpan → Type 0
IsFound (Err ReadFault) src = Rose src.faults src.faults_then
IsFound (Err Memory) src = src.faults_then ≡ src.faults
IsFound found src =
    (text : Text) × (ReadsText src.left src.left_then text
    × (src.faults_then ≡ src.faults) × IsTold found (case_of text))
