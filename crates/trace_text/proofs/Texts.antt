-- The JSON value of a text.
use Rattle.std.proofs.Common.{◌≡◌, ℕ, List, Some, None, refl, true, false, Bool}
use Rattle.std.specs.Prelude.{if◌then◌else◌, Ok, Err}
use Rattle.std.specs.Option.{ok_or}
use Rattle.std.specs.Str.{IsUtf8, is_utf8}
use Rattle.std.proofs.lemmas.Str.{is_utf8-from_IsUtf8, IsUtf8-from_is_utf8}
use Rattle.serde_json.specs.Data.{Data}
use Rattle.serde_json.specs.Read.{read}
use Rattle.trace_text.specs.declared.TraceNo.TheVariants.{Syntax}
use Rattle.trace_text.specs.Reading.{value_of}

pub value_of_text : (text : List ℕ) (d : Data) → IsUtf8 text → read text ≡ Some d → value_of text ≡ Ok d
unfolding value_of
value_of_text text d utf8 e = rw (is_utf8-from_IsUtf8 text utf8, e) refl

pub no_value : (text : List ℕ) → (IsUtf8 text → read text ≡ None) → value_of text ≡ Err Syntax
unfolding value_of
no_value text none =
    elim (is_utf8 text) as (λ (b : Bool). is_utf8 text ≡ b
    → (if b then ok_or (read text) Syntax else Err Syntax) ≡ Err Syntax) [
      | true ↦ λ e. rw (none (IsUtf8-from_is_utf8 text e)) refl
      | false ↦ λ e. refl
    ] refl
