-- The lanes of a trace that was read are what a run needs.
use Rattle.std.proofs.Common.{◌≡◌, ℕ, zero, suc, ◌+◌, ◌≤◌, List, [], ◌∷◌, ◌++◌, length, refl, sym, ◌∙◌, subst, arith, inl, inr, zero-add, length-append}
use Rattle.std.specs.Prelude.{Option, Some, None, Result, Ok, Err, All}
use Rattle.std.specs.Option.{option_map_or}
use Rattle.std.proofs.lemmas.Bool.{cases_lt}
use Rattle.std.proofs.lemmas.Option.{slice_get-get_or, slice_get_past}
use Rattle.std.proofs.lemmas.List.Elements.{All-push}
use Rattle.serde_json.specs.Data.{Data}
use Rattle.pool_law.specs.declared.command.Command.{Command}
use Rattle.pool_law.specs.declared.run.Shape.{Shape}
use Rattle.pool_law.specs.Logs.{of_lane}
use Rattle.pool_law.specs.Stuck.{command_count, stuck_at}
use Rattle.trace_text.specs.declared.TraceNo.{TraceNo}
use Rattle.trace_text.specs.declared.TraceNo.TheVariants as refusals
use Rattle.trace_text.specs.Items.{array_in}
use Rattle.trace_text.specs.Lane.{lane_in}
use Rattle.pool_law.specs.Traces.{command_limit}
use Rattle.trace_text.specs.Reading.{◌>>=◌, accepted, limited, unstuck, lanes_after, lanes_in, trace_in}
use Rattle.pool_law.specs.Traces.{AreLanes}
use Rattle.trace_text.proofs.LaneFits.{FitsSo, lane_fits}

-- ---- Lanes.

lanes_fit : (shape : Shape) (front : List (List Command)) (ds : List Data) (lanes : List (List Command))
    → All (FitsSo shape) front → lanes_after shape.lanes front ds ≡ Ok lanes → All (FitsSo shape) lanes
lanes_fit shape front [] lanes fit is = let same : front ≡ lanes = cc in rw same at fit
lanes_fit shape front (d ∷ ds) lanes fit is =
    elim (lane_in shape.lanes (length front) d) as (λ (r : Result (List Command) TraceNo). lane_in shape.lanes
    (length front) d ≡ r
    → (r >>= (λ lane. lanes_after shape.lanes (front ++ lane ∷ []) ds)) ≡ Ok lanes → All (FitsSo shape) lanes) [
      | Ok lane ↦
          λ e more. lanes_fit shape (front ++ lane ∷ []) ds lanes
          (All-push (FitsSo shape) front lane fit (lane_fits shape (length front) d lane e)) more
      | Err why ↦ λ e never. cc
    ] refl is

-- as many lanes as values
pub lanes_long : (count : ℕ) (front : List (List Command)) (ds : List Data) (lanes : List (List Command))
    → lanes_after count front ds ≡ Ok lanes → length lanes ≡ length front + length ds
lanes_long count front [] lanes is = let same : front ≡ lanes = cc in rw same (omega arith)
lanes_long count front (d ∷ ds) lanes is =
    elim (lane_in count (length front) d) as (λ (r : Result (List Command) TraceNo).
    (r >>= (λ lane. lanes_after count (front ++ lane ∷ []) ds)) ≡ Ok lanes
    → length lanes ≡ length front + length (d ∷ ds)) [
      | Ok lane ↦
          λ more. let long =
          lanes_long count (front ++ lane ∷ []) ds lanes more in
          omega (arith, long, length-append front (lane ∷ []))
      | Err why ↦ λ never. cc
    ] is

trace_fits : (shape : Shape) (d : Data) (lanes : List (List Command)) → trace_in d ≡ Ok lanes
    → shape.lanes ≡ length lanes → All (FitsSo shape) lanes
unfolding trace_in
trace_fits shape d lanes is count =
    elim (array_in d) as (λ (o : Option (List Data)). option_map_or lanes_in o (Err (refusals.Shape 0 0)) ≡ Ok lanes
    → All (FitsSo shape) lanes) [
      | None ↦ λ e. cc
      | Some values ↦ values_fit values
    ] is
  where
    values_fit : (values : List Data) → lanes_in values ≡ Ok lanes → All (FitsSo shape) lanes
    values_fit [] e = cc
    values_fit (v ∷ vs) e =
        let long : length lanes ≡ length (v ∷ vs) = lanes_long (length (v ∷ vs)) [] (v ∷ vs) lanes e
        ∙ zero-add (length (v ∷ vs)) in
        let same : length (v ∷ vs) ≡ shape.lanes = sym (count ∙ long) in
        lanes_fit shape [] (v ∷ vs) lanes (λ k d below. absurd (omega arith))
        (subst (λ (n : ℕ). lanes_after n [] (v ∷ vs) ≡ Ok lanes) same e)

-- ---- What each lane is given.

lane_short : (lanes : List (List Command)) (k : ℕ) → length (of_lane lanes k) ≤ command_count lanes
lane_short [] k = omega arith
lane_short (cs ∷ rest) zero = omega arith
lane_short (cs ∷ rest) (suc k) = let short = lane_short rest k in omega (arith, short)

lane_fit : (shape : Shape) (lanes : List (List Command)) (k : ℕ) → All (FitsSo shape) lanes
    → FitsSo shape (of_lane lanes k)
lane_fit shape lanes k fit = elim (cases_lt k (length lanes)) [
  | inl below ↦ rw (slice_get-get_or lanes k [] below) (fit k [] below)
  | inr past ↦ rw (slice_get_past lanes k past) refl
]

-- ---- What is accepted.

-- a step that was not refused, and what follows it
pub in_turn : {A B : Type 0} (r : Result A TraceNo) (next : A → Result B TraceNo) (b : B) → (r >>= next) ≡ Ok b
    → (a : A) × ((r ≡ Ok a) × (next a ≡ Ok b))
in_turn (Ok a) next b is = (a, (refl, is))
in_turn (Err why) next b is = cc

limited_so : (lanes found : List (List Command)) → limited lanes ≡ Ok found
    → (lanes ≡ found) × (command_count lanes ≤ command_limit)
unfolding limited
limited_so lanes found is = grind (arith, is)

unstuck_so : (lanes found : List (List Command)) → unstuck lanes ≡ Ok found → lanes ≡ found
unfolding unstuck
unstuck_so lanes found is =
    elim (stuck_at lanes) as (λ (o : Option (ℕ × ℕ)). option_map_or (λ place. Err (refusals.Stuck place.0 place.1)) o
    (Ok lanes) ≡ Ok found → lanes ≡ found) [
      | None ↦ λ e. cc
      | Some place ↦ λ e. cc
    ] is

-- the lanes of a value as they had their form, and as they passed the limits
pub accepted_so : (d : Data) (lanes : List (List Command)) → accepted d ≡ Ok lanes
    → (formed : List (List Command)) × ((trace_in d ≡ Ok formed) × (limited formed ≡ Ok lanes))
unfolding accepted
accepted_so d lanes is =
    let (few, (few_is, moves)) = in_turn (trace_in d >>= limited) unstuck lanes is in
    let (formed, (formed_is, in_limits)) = in_turn (trace_in d) limited few few_is in
    let bounded = subst (λ (found : List (List Command)). limited formed ≡ Ok found) (unstuck_so few lanes moves)
    in_limits in
    (formed, (formed_is, bounded))

-- the lanes that are accepted are what a run needs
pub accepted_fits : (d : Data) (lanes : List (List Command)) → accepted d ≡ Ok lanes → AreLanes lanes
accepted_fits d lanes is shape count lane =
    let (formed, (has_form, in_limits)) = accepted_so d lanes is in
    let (all, bound) = limited_so formed lanes in_limits in
    let fit : All (FitsSo shape) lanes = trace_fits shape d lanes (rw all at has_form) count in
    let total : command_count lanes ≤ command_limit = rw all at bound in
    let short = lane_short lanes lane in
    record { few = omega (arith, total, short); fit = lane_fit shape lanes lane fit }
