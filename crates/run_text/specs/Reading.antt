-- What is read of a line, word by word. No public clause cites this module.
use Rattle.std.specs.Prelude.{◌≡◌, ℕ, ◌==◌, Bool, not, List, Result, Ok, Err}
use Rattle.std.specs.List.{list_all}
use Rattle.pool_law.specs.Text.{Text, spaced}
use Rattle.run_text.specs.declared.TextNo.{TextNo}
use Rattle.run_text.specs.declared.TextNo.TheVariants.{Memory}

-- a mark does not stand in a text
abbrev pub lacks : ℕ → Text → Bool
lacks mark text = list_all (λ b. not (b == mark)) text

-- a word has no space
abbrev pub is_word : Text → Bool
is_word word = lacks 32 word

-- this is read, and these words are left of the line; or there was no memory
abbrev pub Gives : {X : Type 0} → Result X TextNo → Text → X → List Text → Type 0
Gives (Ok y) left x more = (y ≡ x) × (left ≡ spaced more)
Gives (Err why) left x more = why ≡ Memory
