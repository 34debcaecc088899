-- Rows and lanes, one after the other.
use Rattle.std.proofs.Common.{◌≡◌, ℕ, ◌+◌, ◌<◌, Bool, true, false, List, [], ◌∷◌, ◌++◌, refl, ap, map, sym, ◌∙◌, subst, length, length-append, drop, get_or, arith, drop-cons, add-one}
use Rattle.std.specs.Prelude.{All, Option, Result, Ok, Err, Some, None, IsErrAnd, if◌then◌else◌}
use Rattle.std.proofs.lemmas.List.{length-map, get_or-map}
use Rattle.std.proofs.lemmas.List.Elements.{All-get_or}
use Rattle.serde_json.specs.declared.value.Value.{Value}
use Rattle.serde_json.specs.Data.{Data}
use Rattle.serde_json.specs.View.{view}
use Rattle.pool_law.specs.declared.command.Command.{Command}
use Rattle.trace_text.specs.declared.TraceNo.{TraceNo}
use Rattle.trace_text.specs.declared.TraceNo.TheVariants as refusals
use Rattle.trace_text.specs.Items.{◌>>=◌, only_if}
use Rattle.trace_text.specs.Names.{Mentions}
use Rattle.trace_text.specs.Words.{command_in}
use Rattle.trace_text.specs.Lane.{HasFewRows, LaneRead, commands_after, lane_in, may_follow, with_command, with_row}
use Rattle.trace_text.specs.Reading.{GivesAs, GivesLanes, Reading, lanes_after}
use Rattle.trace_text.specs.Steps.{TakesLane, TakesRow}

-- ---- Rows.

-- what is left of an array at the item that a loop is at
pub rest_at : (values : List Value) (i : ℕ) (value : Value) → i < length values → value ≡ get_or values i value
    → drop i (map view values) ≡ view value ∷ drop (i + 1) (map view values)
rest_at values i value h is =
    let below : i < length (map view values) = omega (arith, length-map values view) in
    let here : get_or (map view values) i (view value) ≡ view value = get_or-map view values i value (view value) h
    ∙ ap view (sym is) in
    rw (add-one, drop-cons (map view values) i (view value), here) refl

-- a row that is a command
pub row_taken : (lanes lane : ℕ) (old new : LaneRead) (i : ℕ) (rows : List Value) (row : Value)
    (all : Result (List Command) TraceNo) → i < length rows → row ≡ get_or rows i row
    → all ≡ commands_after lanes lane old (drop i (map view rows)) → with_row lanes old (view row) ≡ Some new
    → all ≡ commands_after lanes lane new (drop (i + 1) (map view rows))
row_taken lanes lane old new i rows row all h is before taken = rw (before, rest_at rows i row h is, taken) refl

-- a row that is none
pub row_refused : (e : TraceNo) (lanes lane : ℕ) (old new : LaneRead) (i : ℕ) (rows : List Value) (row : Value)
    (all : Result (List Command) TraceNo) → i < length rows → row ≡ get_or rows i row
    → all ≡ commands_after lanes lane old (drop i (map view rows))
    → TakesRow (Err e) lane old new (with_row lanes old (view row))
    → GivesAs {A = List Command} (λ commands. commands) (Err e) all
row_refused refusals.Memory lanes lane old new i rows row all h is before refused = tt
row_refused refusals.Syntax lanes lane old new i rows row all h is before (none, why) =
    rw (before, rest_at rows i row h is, none, why) refl
row_refused (refusals.Shape l n) lanes lane old new i rows row all h is before (none, why) =
    rw (before, rest_at rows i row h is, none, why) refl
row_refused (refusals.Limit limit) lanes lane old new i rows row all h is before (none, why) =
    rw (before, rest_at rows i row h is, none, why) refl
row_refused (refusals.Stuck l n) lanes lane old new i rows row all h is before (none, why) =
    rw (before, rest_at rows i row h is, none, why) refl
row_refused refusals.Options lanes lane old new i rows row all h is before (none, why) =
    rw (before, rest_at rows i row h is, none, why) refl

-- ---- Lanes.

-- a lane that has its form
pub lane_taken : (lanes : ℕ) (front new : List (List Command)) (i : ℕ) (values : List Value) (value : Value)
    (all : Reading) → i < length values → value ≡ get_or values i value
    → all ≡ lanes_after lanes front (drop i (map view values))
    → (lane : List Command) × ((lane_in lanes (length front) (view value) ≡ Ok lane) × (new ≡ front ++ lane ∷ []))
    → all ≡ lanes_after lanes new (drop (i + 1) (map view values))
lane_taken lanes front new i values value all h is before (lane, (taken, more)) =
    rw (before, rest_at values i value h is, taken, more) refl

-- a lane that has none
pub lane_refused : (e : TraceNo) (lanes : ℕ) (front new : List (List Command)) (i : ℕ) (values : List Value)
    (value : Value) (all : Reading) → i < length values → value ≡ get_or values i value
    → all ≡ lanes_after lanes front (drop i (map view values))
    → TakesLane (Err e) front new (lane_in lanes (length front) (view value)) → GivesLanes (Err e) all
lane_refused refusals.Memory lanes front new i values value all h is before refused = tt
lane_refused refusals.Syntax lanes front new i values value all h is before refused =
    rw (before, rest_at values i value h is, refused) refl
lane_refused (refusals.Shape l n) lanes front new i values value all h is before refused =
    rw (before, rest_at values i value h is, refused) refl
lane_refused (refusals.Limit limit) lanes front new i values value all h is before refused =
    rw (before, rest_at values i value h is, refused) refl
lane_refused (refusals.Stuck l n) lanes front new i values value all h is before refused =
    rw (before, rest_at values i value h is, refused) refl
lane_refused refusals.Options lanes front new i values value all h is before refused =
    rw (before, rest_at values i value h is, refused) refl

-- ---- How many there are.

-- a lane of few rows
pub few_at : (values : List Value) (i : ℕ) (value : Value) → All HasFewRows (map view values) → i < length values
    → value ≡ get_or values i value → HasFewRows (view value)
few_at values i value all below is =
    let here : get_or (map view values) i (view value) ≡ view value =
    get_or-map view values i value (view value) below ∙ ap view (sym is) in
    subst HasFewRows here
    (All-get_or HasFewRows (map view values) i (view value) (omega (arith, below, length-map values view)) all)

pub one_more : {A : Type 0} (old new : List A) (a : A) (n : ℕ) → new ≡ old ++ a ∷ [] → length old ≡ n
    → length new ≡ n + 1
one_more old new a n is count =
    let long = length-append old (a ∷ []) in
    let same = ap (λ xs. length xs) is in
    omega (arith, long, same, count)

-- a row that is a command is one more
pub row_counted : (lanes : ℕ) (old new : LaneRead) (d : Data) (n : ℕ) → with_row lanes old d ≡ Some new
    → length old.commands ≡ n → length new.commands ≡ n + 1
unfolding with_row
row_counted lanes old new d n is count =
    elim (command_in lanes old.names d) as (λ (o : Option (Command × Mentions)).
    (o >>= (λ next. only_if (may_follow old.commands) next.0 >>= (λ command. Some (with_command old next.1 command))))
    ≡ Some new → length new.commands ≡ n + 1) [
      | None ↦ λ e. cc
      | Some next ↦ λ e. followed next (may_follow old.commands next.0) e
    ] is
  where
    followed : (next : Command × Mentions) (may : Bool)
        → ((if may then Some next.0 else None) >>= (λ command. Some (with_command old next.1 command))) ≡ Some new
        → length new.commands ≡ n + 1
    followed next true e =
        let same : with_command old next.1 next.0 ≡ new = cc in
        let long = length-append old.commands (next.0 ∷ []) in
        let there = ap (λ (r : LaneRead). length r.commands) same in
        omega (arith, long, there, count)
    followed next false e = cc

-- ---- Refusals.

-- a refusal that `?` gave on
pub given_on : {A B : Type 0} (seen : A → B) (r : Result A TraceNo) (e : TraceNo) (all : Result B TraceNo)
    → IsErrAnd r (λ f. f ≡ e) → GivesAs seen (Err e) all → GivesAs seen r all
given_on seen (Ok a) e all never given = absurd never
given_on seen (Err f) e all same given = rw same given
