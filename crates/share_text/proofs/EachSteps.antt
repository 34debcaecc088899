-- Values of an array, one after the other.
use Rattle.std.proofs.Common.{◌≡◌, ℕ, ◌+◌, ◌<◌, List, [], ◌∷◌, ◌++◌, refl, map, length, drop, get_or, append_assoc}
use Rattle.std.specs.Prelude.{Option, Some, None, Result, Ok, Err, IsErrAnd, option_map}
use Rattle.serde_json.specs.Data.{Data}
use Rattle.serde_json.specs.declared.value.Value.{Value}
use Rattle.serde_json.specs.View.{view}
use Rattle.trace_text.specs.declared.items.RowNo.{RowNo}
use Rattle.trace_text.specs.declared.items.RowNo.TheVariants.{Form, Memory}
use Rattle.trace_text.specs.Items.{◌>>=◌}
use Rattle.trace_text.proofs.LaneSteps.{rest_at}
use Rattle.share_text.specs.Inputs.{each_of}
use Rattle.share_text.specs.Steps.{IsGiven}

-- what is read behind these
abbrev pub behind : {A : Type 0} → List A → Option (List A) → Option (List A)
behind front read = option_map (λ rest. front ++ rest) read

-- one before those that are read, and behind those that were
one_before : {A : Type 0} (front : List A) (a : A) (read : Option (List A))
    → behind front (read >>= (λ rest. Some (a ∷ rest))) ≡ behind (front ++ a ∷ []) read
one_before front a None = refl
one_before front a (Some rest) = rw (append_assoc) refl

-- one more value
pub value_taken : {A : Type 0} (read : Data → Option A) (front new : List A) (a : A) (i : ℕ) (values : List Value)
    (value : Value) (all : Option (List A)) → i < length values → value ≡ get_or values i value
    → all ≡ behind front (each_of read (drop i (map view values)))
    → read (view value) ≡ Some a → new ≡ front ++ a ∷ []
    → all ≡ behind new (each_of read (drop (i + 1) (map view values)))
value_taken read front new a i values value all lt is before taken more =
    rw (before, rest_at values i value lt is, taken, more)
    (one_before front a (each_of read (drop (i + 1) (map view values))))

-- a value that has no form
pub none_taken : {A : Type 0} (read : Data → Option A) (front : List A) (i : ℕ) (values : List Value)
    (value : Value) (all : Option (List A)) → i < length values → value ≡ get_or values i value
    → all ≡ behind front (each_of read (drop i (map view values)))
    → read (view value) ≡ None → all ≡ None
none_taken read front i values value all lt is before none = rw (before, rest_at values i value lt is, none) refl

-- a value that is refused, or that there was no memory for
pub value_refused : {A : Type 0} (e : RowNo) (r : Result (List A) RowNo) (read : Data → Option A) (front : List A)
    (i : ℕ) (values : List Value) (value : Value) (all : Option (List A))
    → i < length values → value ≡ get_or values i value
    → all ≡ behind front (each_of read (drop i (map view values)))
    → IsGiven {A = A} (Err e) (read (view value)) → IsErrAnd r (λ f. f ≡ e) → IsGiven r all
value_refused e (Ok as') read front i values value all lt is before none never = absurd never
value_refused Memory (Err f) read front i values value all lt is before none same = rw same tt
value_refused Form (Err f) read front i values value all lt is before none same =
    rw same (none_taken read front i values value all lt is before none)
