-- What a value, and a text, asks about, and what is told of it.
use Rattle.std.proofs.Common.{◌≡◌, refl}
use Rattle.std.specs.Prelude.{Some, None, Result}
use Rattle.serde_json.specs.Data.{Data}
use Rattle.pool_law.specs.declared.run.Run.{Run}
use Rattle.pool_law.specs.Text.{Text}
use Rattle.run_input.specs.declared.asked.Asked.{Asked}
use Rattle.run_input.specs.declared.fault.InputNo.{InputNo}
use Rattle.run_input.specs.Cases.{asked_in, text_in, case_in, value_in, case_of}
use Rattle.run_input.specs.Found.{IsTold}

-- ---- What is asked about.

case_found : (d : Data) (asked : Asked) (text : Text) → asked_in d ≡ Some asked → text_in d ≡ Some text
    → case_in d ≡ Some (asked, text)
unfolding case_in
case_found d asked text a t = rw (a, t) refl

pub text_wanting : (d : Data) (asked : Asked) → asked_in d ≡ Some asked → text_in d ≡ None → case_in d ≡ None
unfolding case_in
text_wanting d asked a t = rw (a, t) refl

pub asked_wanting : (d : Data) → asked_in d ≡ None → case_in d ≡ None
unfolding case_in
asked_wanting d a = rw a refl

case_read : (text : Text) (d : Data) → value_in text ≡ Some d → case_of text ≡ case_in d
unfolding case_of
case_read text d v = rw v refl

pub case_unread : (text : Text) → value_in text ≡ None → case_of text ≡ None
unfolding case_of
case_unread text v = rw v refl

-- ---- What is told of it.

pub of_case : (found : Result Run InputNo) (d : Data) (asked : Asked) (text : Text) → asked_in d ≡ Some asked
    → text_in d ≡ Some text → IsTold found (Some (asked, text)) → IsTold found (case_in d)
of_case found d asked text a t told = rw (case_found d asked text a t) told

pub of_value : (found : Result Run InputNo) (text : Text) (d : Data) → value_in text ≡ Some d
    → IsTold found (case_in d) → IsTold found (case_of text)
of_value found text d v told = rw (case_read text d v) told
