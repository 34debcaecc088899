-- What the steps from a text to a case answer. No public clause cites this module.
use Rattle.std.specs.Prelude.{◌≡◌, Option, Some, None, Result, Ok, Err}
use Rattle.trace_text.specs.declared.items.RowNo.{RowNo}
use Rattle.trace_text.specs.declared.items.RowNo.TheVariants.{Form, Memory}

-- what was answered is what was read, or there was no memory
abbrev pub IsGiven : {A : Type 0} → Result A RowNo → Option A → Type 0
IsGiven (Ok a) read = read ≡ Some a
IsGiven (Err Form) read = read ≡ None
IsGiven (Err Memory) read = Unit {0}

-- what was answered is what was read, as it is seen, or there was no memory
abbrev pub IsGivenAs : {A B : Type 0} → (A → B) → Result A RowNo → Option B → Type 0
IsGivenAs seen (Ok a) read = read ≡ Some (seen a)
IsGivenAs seen (Err Form) read = read ≡ None
IsGivenAs seen (Err Memory) read = Unit {0}
