-- How many lanes are accepted.
use Rattle.std.proofs.Common.{◌≡◌, ◌≤◌, Bool, true, false, List, [], ◌∷◌, length, refl, subst, arith}
use Rattle.std.specs.Prelude.{Option, Some, None, Result, Ok, Err, if◌then◌else◌, nat_lt}
use Rattle.std.specs.Option.{option_map_or}
use Rattle.std.proofs.lemmas.Bool.Decides.{nat_tests}
use Rattle.serde_json.specs.Data.{Data}
use Rattle.pool_law.specs.declared.command.Command.{Command}
use Rattle.pool_law.specs.Stuck.{command_count}
use Rattle.trace_text.specs.declared.TraceNo.{TraceNo}
use Rattle.trace_text.specs.Items.{array_in}
use Rattle.pool_law.specs.Traces.{byte_limit, bytes_asked, command_limit}
use Rattle.trace_text.specs.Reading.{accepted, lanes_in, limited, trace_in}
use Rattle.trace_text.proofs.ReadingFits.{lanes_long, accepted_so}

map_ok : {X A : Type 0} (f : X → Result A TraceNo) (o : Option X) (why : TraceNo) (a : A)
    → option_map_or f o (Err why) ≡ Ok a
    → (x : X) × (f x ≡ Ok a)
map_ok f (Some x) why a e = (x, e)
map_ok f None why a e = absurd (cc)

some_in : (ds : List Data) (out : List (List Command)) → lanes_in ds ≡ Ok out → 1 ≤ length out
some_in [] out e = absurd (cc)
some_in (d ∷ ds) out e = omega (arith, lanes_long (length (d ∷ ds)) [] (d ∷ ds) out e)

some_read : (d : Data) (out : List (List Command)) → trace_in d ≡ Ok out → 1 ≤ length out
unfolding trace_in
some_read d out e = let r = map_ok lanes_in (array_in d) _ out e in some_in r.0 out r.1

three : (a b c : Bool) (x y z : TraceNo) (lanes out : List (List Command))
    → (if a then Err x else if b then Err y else if c then Err z else Ok lanes) ≡ Ok out → (a ≡ false) × (lanes ≡ out)
three true b c x y z lanes out e = absurd (cc)
three false true c x y z lanes out e = absurd (cc)
three false false true x y z lanes out e = absurd (cc)
three false false false x y z lanes out e = (refl, cc)

within : (lanes out : List (List Command)) → limited lanes ≡ Ok out → (lanes ≡ out) × (length lanes ≤ 16)
unfolding limited
within lanes out e =
    let r = three (nat_lt 16 (length lanes)) (nat_lt command_limit (command_count lanes))
    (nat_lt byte_limit (bytes_asked lanes)) _ _ _ lanes out e in
    let test : nat_lt 16 (length lanes) ≡ false = r.0 in
    (r.1, grind (arith, nat_tests))

-- what is accepted has one lane at least, and 16 at most
pub lane_count : (d : Data) (lanes : List (List Command)) → accepted d ≡ Ok lanes
    → (1 ≤ length lanes) × (length lanes ≤ 16)
lane_count d lanes e =
    let (formed, (has_form, in_limits)) = accepted_so d lanes e in
    let limits = within formed lanes in_limits in
    subst (λ (l : List (List Command)). (1 ≤ length l) × (length l ≤ 16)) limits.0
    (some_read d formed has_form, limits.1)
