-- Words, one after the other.
use Rattle.std.proofs.Common.{◌≡◌, ℕ, ◌+◌, ◌<◌, List, [], ◌∷◌, ◌++◌, length, map, drop, get_or, string_bytes, refl}
use Rattle.std.specs.Prelude.{Option, Some, Result, Ok, Err, IsErrAnd, String, Vec}
use Rattle.std.specs.declared.alloc.Global.{Global}
use Rattle.std.proofs.lemmas.List.{map-append}
use Rattle.serde_json.specs.Find.{as_str}
use Rattle.serde_json.specs.declared.value.Value.{Value}
use Rattle.serde_json.specs.View.{view}
use Rattle.pool_law.specs.Text.{Text}
use Rattle.trace_text.specs.declared.items.RowNo.{RowNo}
use Rattle.trace_text.specs.declared.items.RowNo.TheVariants.{Form, Memory}
use Rattle.trace_text.proofs.LaneSteps.{rest_at}
use Rattle.run_input.specs.Cases.{texts_after}
use Rattle.run_input.specs.Steps.{IsGivenAs}

-- a value that is a text
pub text_taken : (front new : List (String Global)) (text : String Global) (i : ℕ) (rows : List Value) (row : Value)
    (all : Option (List Text)) → i < length rows → row ≡ get_or rows i row
    → all ≡ texts_after (map string_bytes front) (drop i (map view rows))
    → as_str (view row) ≡ Some (string_bytes text) → new ≡ front ++ text ∷ []
    → all ≡ texts_after (map string_bytes new) (drop (i + 1) (map view rows))
text_taken front new text i rows row all lt is before taken more =
    rw (before, rest_at rows i row lt is, taken, more, map-append string_bytes front (text ∷ [])) refl

-- a value that is none
pub text_refused : (e : RowNo) (r : Result (Vec (String Global) Global) RowNo) (front : List (String Global)) (i : ℕ)
    (rows : List Value) (row : Value) (all : Option (List Text)) → i < length rows → row ≡ get_or rows i row
    → all ≡ texts_after (map string_bytes front) (drop i (map view rows))
    → IsGivenAs {A = String Global} string_bytes (Err e) (as_str (view row)) → IsErrAnd r (λ f. f ≡ e)
    → IsGivenAs (λ (texts : Vec (String Global) Global). map string_bytes texts.items) r all
text_refused e (Ok texts) front i rows row all lt is before none never = absurd never
text_refused Memory (Err f) front i rows row all lt is before none same = rw same tt
text_refused Form (Err f) front i rows row all lt is before none same =
    rw same (rw (before, rest_at rows i row lt is, none) refl)
