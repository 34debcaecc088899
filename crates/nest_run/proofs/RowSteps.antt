-- Rows, one after the other.
use Rattle.std.proofs.Common.{◌≡◌, ℕ, ◌+◌, ◌<◌, ◌≤◌, Bool, true, false, ◌&&◌, List, [], ◌∷◌, ◌++◌, length, map, drop, get_or, refl, ap, arith, length-append}
use Rattle.std.specs.Prelude.{Option, Some, None, Result, Ok, Err, IsErrAnd, if◌then◌else◌, nat_le, option_and_then}
use Rattle.std.proofs.lemmas.Bool.Decides.{nat_tests}
use Rattle.serde_json.specs.Data.{Data}
use Rattle.serde_json.specs.Find.{as_number, as_u64}
use Rattle.trace_text.specs.Items.{only_if}
use Rattle.trace_text.specs.Options.{number_from}
use Rattle.serde_json.specs.declared.value.Value.{Value}
use Rattle.serde_json.specs.View.{view}
use Rattle.trace_text.specs.declared.items.RowNo.{RowNo}
use Rattle.trace_text.specs.declared.items.RowNo.TheVariants.{Form, Memory}
use Rattle.trace_text.proofs.LaneSteps.{rest_at}
use Rattle.nest_run.specs.declared.calls.Call.{Call}
use Rattle.nest_run.specs.Inputs.{call_in, calls_after, capacity_limit}
use Rattle.nest_run.specs.Steps.{IsGiven}

-- a row that is a call
pub row_taken : (front new : List Call) (call : Call) (i : ℕ) (rows : List Value) (row : Value)
    (all : Option (List Call)) → i < length rows → row ≡ get_or rows i row
    → all ≡ calls_after front (drop i (map view rows)) → call_in (view row) ≡ Some call → new ≡ front ++ call ∷ []
    → all ≡ calls_after new (drop (i + 1) (map view rows))
row_taken front new call i rows row all lt is before taken more =
    rw (before, rest_at rows i row lt is, taken, more) refl

-- a row that is none
pub row_refused : (e : RowNo) (r : Result (List Call) RowNo) (front : List Call) (i : ℕ) (rows : List Value)
    (row : Value) (all : Option (List Call)) → i < length rows → row ≡ get_or rows i row
    → all ≡ calls_after front (drop i (map view rows)) → IsGiven {A = Call} (Err e) (call_in (view row))
    → IsErrAnd r (λ f. f ≡ e) → IsGiven r all
row_refused e (Ok calls) front i rows row all lt is before none never = absurd never
row_refused Memory (Err f) front i rows row all lt is before none same = rw same tt
row_refused Form (Err f) front i rows row all lt is before none same =
    rw same (rw (before, rest_at rows i row lt is, none) refl)

-- there are as many calls as rows
pub calls_long : (ds : List Data) (front calls : List Call) → calls_after front ds ≡ Some calls
    → length calls ≡ length front + length ds
calls_long [] front calls e =
    let same : front ≡ calls = (cc e) in let long = ap (λ (cs : List Call). length cs) same in omega (arith, long)
calls_long (d ∷ ds) front calls e =
    by (call_in d) e (λ (c : Call) (f : calls_after (front ++ c ∷ []) ds ≡ Some calls).
    calls_long ds (front ++ c ∷ []) calls f)
  where
    by : (o : Option Call) → option_and_then (λ c. calls_after (front ++ c ∷ []) ds) o ≡ Some calls
        → ((c : Call) → calls_after (front ++ c ∷ []) ds ≡ Some calls
        → length calls ≡ length (front ++ c ∷ []) + length ds)
        → length calls ≡ length front + length (d ∷ ds)
    by None e up = absurd (cc e)
    by (Some c) e up = omega (arith, up c e, length-append front (c ∷ []))

-- a capacity is within its limit
pub number_small : (o : Option Data) (n : ℕ) → option_and_then (number_from 0 capacity_limit) o ≡ Some n
    → n ≤ capacity_limit
unfolding number_from
number_small None n e = absurd (cc e)
number_small (Some d) n e = from (option_and_then as_u64 (as_number d)) e
  where
    by : (b : Bool) (m : ℕ) → (nat_le 0 m && nat_le m capacity_limit) ≡ b
        → ◌≡◌ {A = Option ℕ} (if b then Some m else None) (Some n) → n ≤ capacity_limit
    by true m test e = (let same : m ≡ n = (cc e) in grind (arith, nat_tests))
    by false m test e = absurd (cc e)

    from : (o : Option ℕ) → option_and_then (only_if (λ m. nat_le 0 m && nat_le m capacity_limit)) o ≡ Some n
        → n ≤ capacity_limit
    from None e = absurd (cc e)
    from (Some m) e = by (nat_le 0 m && nat_le m capacity_limit) m refl e
