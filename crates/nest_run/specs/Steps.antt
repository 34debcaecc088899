-- What the steps from a text to an input answer. No public clause cites this module.
use Rattle.std.specs.Prelude.{◌≡◌, ℕ, ◌≤◌, List, length, Option, Some, None, Result, Ok, Err}
use Rattle.trace_text.specs.declared.items.RowNo.{RowNo}
use Rattle.trace_text.specs.declared.items.RowNo.TheVariants.{Form, Memory}
use Rattle.nest_run.specs.declared.calls.Input.{Input}
use Rattle.nest_run.specs.Inputs.{capacity_limit, call_limit}

-- what was answered is what was read, or there was no memory
abbrev pub IsGiven : {A : Type 0} → Result A RowNo → Option A → Type 0
IsGiven (Ok a) read = read ≡ Some a
IsGiven (Err Form) read = read ≡ None
IsGiven (Err Memory) read = Unit {0}

-- the input is within its limits
pub record IsInput (input : Input) : Type 0 where
  pub capacity : input.capacity ≤ capacity_limit
  pub calls : length input.calls ≤ call_limit
