-- What a step of the definition comes to, by what the nest answers; and what a call makes of the nest.
use Rattle.std.proofs.Common.{◌≡◌, ◌≢◌, ℕ, zero, suc, ◌+◌, ◌-◌, ◌<◌, ◌≤◌, Bool, true, false, List, [], ◌∷◌, ◌++◌, length, set, refl, ap, ◌∙◌, subst, arith, Some, None, ne_eqb, length-set, length-append}
use Rattle.std.specs.Prelude.{Option, ◌==◌, nat_lt, if◌then◌else◌, slice_get}
use Rattle.std.proofs.lemmas.Option.{same_Some}
use Rattle.pool_law.specs.Views.{in_range}
use Rattle.counted_view.specs.declared.calls.NestCall.{NestCall}
use Rattle.counted_view.specs.declared.calls.NestCall.TheVariants as accepted
use Rattle.counted_view.specs.declared.calls.NestNo.{NestNo}
use Rattle.counted_view.specs.declared.calls.NestNo.TheVariants as refusals
use Rattle.counted_view.specs.Nests.{NestedView, NestState, after_call, with_slice, with_holds, part_of, if_held, held_view, has_all, range_no, slice_no, retain_no, release_no}
use Rattle.nest_run.specs.declared.replies.Reply.{Reply}
use Rattle.nest_run.specs.Plays.{Stage, Step, on_view, on_range}
use Rattle.nest_run.specs.Standing.{AreHeld, refusal}

-- ---- A view that is held, and a range of it.

pub view_done : (s : Stage) (o : Option NestedView) (step : NestedView → Step) → release_no o ≡ None
    → (x : NestedView) × (o ≡ Some x) × (on_view s o step ≡ step x)
view_done s None step e = absurd (cc e)
view_done s (Some x) step e = (x, refl, refl)

pub view_refused : (s : Stage) (o : Option NestedView) (step : NestedView → Step) (why : NestNo)
    → release_no o ≡ Some why → on_view s o step ≡ (refusal why, s)
view_refused s None step why e =
    let is : refusals.Gone ≡ why = same_Some refusals.Gone why e in ap (λ (r : NestNo). (refusal r, s)) is
view_refused s (Some x) step why e = absurd (cc e)

in_done : {A : Type 0} (b : Bool) (x y : A)
    → ◌≡◌ {A = Option NestNo} (if b then None else Some refusals.Range) None → (if b then x else y) ≡ x
in_done true x y e = refl
in_done false x y e = absurd (cc e)

out_refused : (s : Stage) (b : Bool) (x : Step) (y : Reply) (why : NestNo)
    → ◌≡◌ {A = Option NestNo} (if b then None else Some refusals.Range) (Some why) → y ≡ refusal refusals.Range
    → (if b then x else (y, s)) ≡ (refusal why, s)
out_refused s true x y why e is = absurd (cc e)
out_refused s false x y why e is =
    let same : refusals.Range ≡ why = same_Some refusals.Range why e in
    (λ i. (is i, s)) ∙ ap (λ (r : NestNo). (refusal r, s)) same

pub range_done : (s : Stage) (o : Option NestedView) (at len : ℕ) (step : NestedView → Step)
    → range_no o at len ≡ None → (x : NestedView) × (o ≡ Some x) × (on_range s o at len step ≡ step x)
range_done s None at len step e = absurd (cc e)
range_done s (Some x) at len step e = (x, refl, in_done (in_range x.at at len) (step x) _ e)

pub range_refused : (s : Stage) (o : Option NestedView) (at len : ℕ) (step : NestedView → Step) (why : NestNo)
    → range_no o at len ≡ Some why → on_range s o at len step ≡ (refusal why, s)
range_refused s None at len step why e =
    let is : refusals.Gone ≡ why = same_Some refusals.Gone why e in ap (λ (r : NestNo). (refusal r, s)) is
range_refused s (Some x) at len step why e = out_refused s (in_range x.at at len) (step x) _ why e refl

-- ---- Full never comes.

pub release_not_full : (o : Option NestedView) (why : NestNo) → release_no o ≡ Some why → why ≢ refusals.Full
release_not_full None why e is = absurd (cc)
release_not_full (Some x) why e is = absurd (cc e)

pub range_not_full : (o : Option NestedView) (at len : ℕ) (why : NestNo) → range_no o at len ≡ Some why
    → why ≢ refusals.Full
range_not_full None at len why e is = absurd (cc)
range_not_full (Some x) at len why e is = by (in_range x.at at len) e
  where
    by : (b : Bool) → ◌≡◌ {A = Option NestNo} (if b then None else Some refusals.Range) (Some why) → ⊥
    by true e = absurd (cc e)
    by false e = absurd (cc)

slice_as_range : (full : Bool) (o : Option NestedView) (at len : ℕ) → full ≡ false
    → slice_no full o at len ≡ range_no o at len
slice_as_range true o at len e = absurd (cc e)
slice_as_range false None at len e = refl
slice_as_range false (Some x) at len e = refl

-- where there is room, a slice is refused as its range is
pub slice_is_range : (s : NestState) (of at len : ℕ) → length s.views ≤ s.bound
    → slice_no (has_all s) (held_view s of) at len ≡ range_no (held_view s of) at len
slice_is_range s of at len few =
    let room : has_all s ≡ false = ne_eqb (length s.views) (s.bound + 1) (λ e. omega (arith, few)) in
    slice_as_range (has_all s) (held_view s of) at len room

retain_as_release : (o : Option NestedView) → ((x : NestedView) → o ≡ Some x → x.holds < 65535)
    → retain_no (if_held o) ≡ release_no (if_held o)
retain_as_release None few = refl
retain_as_release (Some x) few =
    by (nat_lt 0 x.holds)
    (let less = few x refl in ne_eqb x.holds 65535 (λ e. omega (arith, less)))
  where
    by : (b : Bool) → (x.holds == 65535) ≡ false
        → retain_no (if b then Some x else None) ≡ release_no (if b then Some x else None)
    by true not = ap (λ (t : Bool). if t then Some refusals.Full else None) not
    by false not = refl

-- where no view has so many holds, a retain is refused as a release is
pub retain_is_release : (s : NestState) (of most : ℕ) → AreHeld most s.views → most < 65535
    → retain_no (held_view s of) ≡ release_no (held_view s of)
retain_is_release s of most held few =
    retain_as_release (slice_get s.views of)
    (λ x at. (let le = held of x at in omega (arith, le, few)))

-- ---- The nest after a call.

held_push : (most : ℕ) (views : List NestedView) (y : NestedView) → AreHeld most views → y.holds ≤ most + 1
    → AreHeld (most + 1) (views ++ y ∷ [])
held_push most [] y held le zero x e = subst (λ (z : NestedView). z.holds ≤ most + 1) (same_Some y x e) le
held_push most [] y held le (suc v) x e = absurd (cc e)
held_push most (z ∷ views) y held le zero x e = let a = held zero x e in omega (arith, a)
held_push most (z ∷ views) y held le (suc v) x e =
    held_push most views y (λ w u at. held (suc w) u at) le v x e

held_set : (most : ℕ) (views : List NestedView) (k : ℕ) (y : NestedView) → AreHeld most views → y.holds ≤ most + 1
    → AreHeld (most + 1) (set views k y)
held_set most [] k y held le v x e = let a = held v x e in omega (arith, a)
held_set most (z ∷ views) zero y held le zero x e =
    subst (λ (u : NestedView). u.holds ≤ most + 1) (same_Some y x e) le
held_set most (z ∷ views) zero y held le (suc v) x e = let a = held (suc v) x e in omega (arith, a)
held_set most (z ∷ views) (suc k) y held le zero x e = let a = held zero x e in omega (arith, a)
held_set most (z ∷ views) (suc k) y held le (suc v) x e =
    held_set most views k y (λ w u at. held (suc w) u at) le v x e

more_held : (most : ℕ) (views : List NestedView) → AreHeld most views → AreHeld (most + 1) views
more_held most views held v x e = let a = held v x e in omega (arith, a)

-- no view has more than one hold more
pub after_held : (s : NestState) (call : NestCall) (most : ℕ) → AreHeld most s.views
    → AreHeld (most + 1) (after_call s call).views
after_held s (accepted.Slice of at len) most held = by (slice_get s.views of)
  where
    by : (o : Option NestedView) → AreHeld (most + 1) (with_slice o s.views of at len)
    by None = more_held most s.views held
    by (Some x) = held_push most s.views (part_of of x at len) held (omega arith)
after_held s (accepted.Retain of) most held = by (slice_get s.views of) refl
  where
    by : (o : Option NestedView) → slice_get s.views of ≡ o
        → AreHeld (most + 1) (with_holds (λ h. h + 1) o s.views of)
    by None e = more_held most s.views held
    by (Some x) e = held_set most s.views of _ held (let a = held of x e in omega (arith, a))
after_held s (accepted.Release of) most held = by (slice_get s.views of) refl
  where
    by : (o : Option NestedView) → slice_get s.views of ≡ o
        → AreHeld (most + 1) (with_holds (λ h. h - 1) o s.views of)
    by None e = more_held most s.views held
    by (Some x) e = held_set most s.views of _ held (let a = held of x e in omega (arith, a))

-- there is at most one view more
pub after_long : (s : NestState) (call : NestCall) → length (after_call s call).views ≤ length s.views + 1
after_long s (accepted.Slice of at len) = by (slice_get s.views of)
  where
    by : (o : Option NestedView) → length (with_slice o s.views of at len) ≤ length s.views + 1
    by None = omega arith
    by (Some x) = omega (arith, length-append s.views (part_of of x at len ∷ []))
after_long s (accepted.Retain of) = by (slice_get s.views of)
  where
    by : (o : Option NestedView) → length (with_holds (λ h. h + 1) o s.views of) ≤ length s.views + 1
    by None = omega arith
    by (Some x) = omega (arith, length-set {A = NestedView})
after_long s (accepted.Release of) = by (slice_get s.views of)
  where
    by : (o : Option NestedView) → length (with_holds (λ h. h - 1) o s.views of) ≤ length s.views + 1
    by None = omega arith
    by (Some x) = omega (arith, length-set {A = NestedView})
