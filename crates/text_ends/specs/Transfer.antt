-- What reading to the end and writing a whole text come to.
use Rattle.std.specs.Prelude.{◌≡◌, ℕ, ◌+◌, ◌≤◌, ◌⊎◌, List, length, Option}
use Rattle.std.specs.Io.KnownBytes.{Consumes, Appends, IsAtEnd}
use Rattle.trace_text.specs.Reading.{text_limit}
use Rattle.text_ends.specs.Ends.{Rose, TakesSome}
use Rattle.text_ends.specs.declared.input.Input.{Input}
use Rattle.text_ends.specs.declared.input.Input.TheVariants as inputs
use Rattle.text_ends.specs.declared.output.Output.{Output}
use Rattle.text_ends.specs.declared.output.Output.TheVariants as outputs

-- these bytes were read: all that were left, or the first of them up to one past the limit
pub record ReadsText (old new : Option (List ℕ)) (text : List ℕ) : Type 0 where
  pub bytes : Consumes old new text
  pub whole : length text ≤ text_limit → IsAtEnd new
  pub cut : length text ≤ text_limit + 1

-- reading gave a text with no fault, or there was a fault, or no memory and no fault
abbrev pub HasRead : Option (List ℕ) → Option (List ℕ) → ℕ → ℕ → Input → Type 0
HasRead old new before now (inputs.Text text) = ReadsText old new text.items × (now ≡ before)
HasRead old new before now inputs.Fault = Rose before now
HasRead old new before now inputs.Memory = now ≡ before

-- the whole text was written with no fault, or a front of it, and the sink failed or took nothing
abbrev pub HasWritten :
    Option (List ℕ) → Option (List ℕ) → ℕ → ℕ → ℕ → ℕ → List ℕ → Output → Type 0
HasWritten old new faults now empty empty_now text outputs.Whole =
    Appends old new text × (now ≡ faults)
HasWritten old new faults now empty empty_now text outputs.Fault =
    TakesSome old new text × (Rose faults now ⊎ Rose empty empty_now)
