-- The calls on the rows, told as what they make of the views.
use Rattle.std.proofs.Common.{◌≡◌, ◌≢◌, ℕ, zero, suc, ◌+◌, ◌-◌, ◌<◌, ◌≤◌, ◌⊎◌, Bool, true, false, List, [], ◌∷◌, ◌++◌, length, map, set, refl, sym, ap, ◌∙◌, subst, inl, inr, ⊎_elim, arith, Some, None, length-set, ne_eqb}
use Rattle.std.specs.Prelude.{Option, IsSome, IfSome, option_map, nat_lt, ◌==◌, if◌then◌else◌, slice_get}
use Rattle.std.proofs.Math.Seq.{map-set_same}
use Rattle.std.proofs.lemmas.Bool.{eq-eqb, eqb-false, ltb-true, lt-ltb}
use Rattle.std.proofs.lemmas.List.{map-set, map-append, length-map}
use Rattle.std.proofs.lemmas.Option.{slice_get_within, get_or_from_slice_get, slice_get-map, same_Some}
use Rattle.pool_law.specs.declared.id.RootId.{RootId}
use Rattle.pool_law.specs.declared.id.ViewData.{ViewData}
use Rattle.pool_law.specs.Views.{slice_of}
use Rattle.byte_view.specs.declared.view.View.{View}
use Rattle.counted_view.specs.declared.calls.NestCall.TheVariants.{Slice, Retain, Release}
use Rattle.counted_view.specs.declared.calls.NestNo.{NestNo}
use Rattle.counted_view.specs.declared.calls.NestNo.TheVariants.{Full}
use Rattle.counted_view.specs.declared.rows.Row.{Row}
use Rattle.counted_view.specs.Nests.{NestedView, NestState, made_from, with_holds, with_slice, views_after, has_all, if_held, retain_no, release_no}
use Rattle.counted_view.specs.Rows.{shown, live_rows, root_sum, IsCounted, AreCounted, IsOwing}
use Rattle.counted_view.proofs.RowLaws.{one, live_rows-push, live_rows-kept, live-held, live-kept, set_cases, IsCounted-moved}
use Rattle.counted_view.proofs.ClimbLaws.{IsOwing-start, AreCounted-kept}
use Rattle.counted_view.proofs.LiveLaws.{live_rows-past}

-- a nest by its parts
abbrev pub nest_of : RootId → ℕ → List NestedView → NestState
nest_of root bound views = record { root = root; bound = bound; views = views }

-- the row with other holds, and with one live view more that was made from its view
abbrev pub held_once_more : Row → Row
held_once_more x = record x { holds = x.holds + 1 }

abbrev pub held_once_less : Row → Row
held_once_less x = record x { holds = x.holds - 1 }

abbrev pub with_live_part : Row → Row
with_live_part x = record x { live = x.live + 1 }

-- ---- What a call finds.

pub shown_at : (rows : List Row) (v : ℕ) (x : Row) → slice_get rows v ≡ Some x
    → slice_get (map shown rows) v ≡ Some (shown x)
shown_at rows v x at = slice_get-map shown rows v ∙ ap (option_map shown) at

held_by : (b : Bool) (x : NestedView) → release_no (if b then Some x else None) ≡ None → b ≡ true
held_by true x e = refl
held_by false x e = absurd (cc e)

let_by : (o : Option Row) → release_no (if_held (option_map shown o)) ≡ None → (r : Row) × (o ≡ Some r) × (0 < r.holds)
let_by None e = absurd (cc e)
let_by (Some r) e = (r, refl, ltb-true 0 r.holds (held_by (nat_lt 0 r.holds) (shown r) e))

-- the row of a view that can be let go
pub let_row : (rows : List Row) (v : ℕ) → release_no (if_held (slice_get (map shown rows) v)) ≡ None
    → (r : Row) × (slice_get rows v ≡ Some r) × (0 < r.holds)
let_row rows v e =
    let_by (slice_get rows v) (ap (λ (o : Option NestedView). release_no (if_held o)) (sym (slice_get-map shown rows v))
    ∙ e)

-- the row at a place, if that view can be let go
pub let_held : (rows : List Row) (v : ℕ) (x : Row) → slice_get rows v ≡ Some x
    → release_no (if_held (slice_get (map shown rows) v)) ≡ None → 0 < x.holds
let_held rows v x at e =
    let w = let_row rows v e in
    subst (λ (r : Row). 0 < r.holds) (same_Some w.0 x (sym w.1 ∙ at)) w.2

pub let_within : (rows : List Row) (v : ℕ) → release_no (if_held (slice_get (map shown rows) v)) ≡ None
    → v < length rows
let_within rows v e = let w = let_row rows v e in slice_get_within rows v w.0 w.1

-- one that can be held once more can be let go, and has fewer holds than may be
pub let_if_retained : (o : Option NestedView) → retain_no o ≡ None → release_no o ≡ None
let_if_retained None e = absurd (cc e)
let_if_retained (Some x) e = refl

few_by : (b : Bool) → ◌≡◌ {A = Option NestNo} (if b then Some Full else None) None → b ≡ false
few_by true e = absurd (cc e)
few_by false e = refl

pub few_if_retained : (rows : List Row) (v : ℕ) (x : Row) → slice_get rows v ≡ Some x → 0 < x.holds
    → retain_no (if_held (slice_get (map shown rows) v)) ≡ None → x.holds ≡ 65535 → ⊥
few_if_retained rows v x at lt e =
    let found : if_held (slice_get (map shown rows) v) ≡ Some (shown x) =
    ap if_held (shown_at rows v x at) ∙ ap (λ (b : Bool). if b then Some (shown x) else None) (lt-ltb 0 x.holds lt) in
    eqb-false x.holds 65535 (few_by (x.holds == 65535) (sym (ap retain_no found) ∙ e))

-- one that can be sliced can be let go
pub let_if_held : (o : Option NestedView) → IsSome o → release_no o ≡ None
let_if_held None h = absurd (cc h)
let_if_held (Some x) h = refl

-- ---- A hold more and a hold less.

pub views-retained : (rows : List Row) (v : ℕ) (x : Row) → slice_get rows v ≡ Some x
    → map shown (set rows v (held_once_more x)) ≡ views_after (map shown rows) (Retain v)
views-retained rows v x at =
    map-set shown rows v (held_once_more x)
    ∙ sym (ap (λ (o : Option NestedView). with_holds (λ h. h + 1) o (map shown rows) v) (shown_at rows v x at))

pub views-released : (rows : List Row) (v : ℕ) (x : Row) → slice_get rows v ≡ Some x
    → map shown (set rows v (held_once_less x)) ≡ views_after (map shown rows) (Release v)
views-released rows v x at =
    map-set shown rows v (held_once_less x)
    ∙ sym (ap (λ (o : Option NestedView). with_holds (λ h. h - 1) o (map shown rows) v) (shown_at rows v x at))

pub IsOwing-released : (rows : List Row) (v : ℕ) (x : Row) → AreCounted rows → slice_get rows v ≡ Some x → 0 < x.holds
    → length rows ≤ 4097 → IsOwing (set rows v (held_once_less x)) v
IsOwing-released rows v x counted at lt short =
    IsOwing-start rows v x (held_once_less x) counted at (live-held x lt) refl refl
    (omega (arith, (counted v x at).holds)) short

pub AreCounted-retained : (rows : List Row) (v : ℕ) (x : Row) → AreCounted rows → slice_get rows v ≡ Some x
    → 0 < x.holds → x.holds < 65535 → length rows ≤ 4097 → AreCounted (set rows v (held_once_more x))
AreCounted-retained rows v x counted at lt few short =
    AreCounted-kept rows v x (held_once_more x) counted at (live-held x lt) (live-held (held_once_more x) (omega arith))
    refl refl (omega arith) short

-- ---- A slice.

pub push_cases : (rows : List Row) (y : Row) (k : ℕ) (z : Row) → slice_get (rows ++ y ∷ []) k ≡ Some z
    → (slice_get rows k ≡ Some z) ⊎ ((k ≡ length rows) × (y ≡ z))
push_cases [] y zero z e = inr (refl, same_Some y z e)
push_cases [] y (suc k) z e = absurd (cc e)
push_cases (r ∷ rows) y zero z e = inl e
push_cases (r ∷ rows) y (suc k) z e =
    ⊎_elim (λ (at : slice_get rows k ≡ Some z). inl at)
    (λ (w : (k ≡ length rows) × (y ≡ z)). inr (omega (arith, w.0), w.1)) (push_cases rows y k z e)

push_front : (rows : List Row) (y : Row) → 0 < length rows → slice_get (rows ++ y ∷ []) 0 ≡ slice_get rows 0
push_front [] y lt = absurd (omega arith)
push_front (r ∷ rows) y lt = refl

module _ (rows : List Row) (v : ℕ) (x : Row) (view : View) (counted : AreCounted rows) (at : slice_get rows v ≡ Some x)
    (lt : 0 < x.holds) where
  abbrev slice : Row
  slice = record { view = view; parent = Some v; holds = 1; live = 0 }

  abbrev written : List Row
  written = set rows v (with_live_part x)

  within : v < length rows
  within = slice_get_within rows v x at

  sums : (test : Option ℕ → Bool) → live_rows test (written ++ slice ∷ []) ≡ live_rows test rows + one (test (Some v))
  sums test =
      live_rows-push test written slice (live-held slice (omega arith))
      ∙ ap (λ (k : ℕ). k + one (test (Some v)))
      (live_rows-kept test rows v x (with_live_part x) at (live-held x lt)
      (live-kept (with_live_part x) (omega arith)) refl)

  pub AreCounted-sliced : AreCounted (written ++ slice ∷ [])
  AreCounted-sliced number r e = ⊎_elim (before number r) (last number r) (push_cases written slice number r e)
    where
      elsewhere : (number : ℕ) → number ≢ v → one (made_from number (Some v)) ≡ 0
      elsewhere number ne = ap one (ne_eqb v number (λ e. ne (sym e)))

      before : (number : ℕ) (r : Row) → slice_get written number ≡ Some r
          → IsCounted number (live_rows (made_from number) (written ++ slice ∷ [])) r
      before number r e =
          ⊎_elim
          (λ (w : (number ≡ v) × (with_live_part x ≡ r) × (slice_get rows number ≡ Some x)).
          let was = counted number x w.2 in
          let counts_one : one (made_from number (Some v)) ≡ 1 = ap one (eq-eqb v number (sym w.0)) in
          subst (IsCounted number _) w.1
          (IsCounted-moved number _ _ x (with_live_part x) refl was.holds
          (omega (arith, was.live, sums (made_from number))) was))
          (λ (w : (number ≢ v) × (slice_get rows number ≡ Some r)).
          let was = counted number r w.1 in
          IsCounted-moved number _ _ r r refl was.holds
          (omega (arith, was.live, sums (made_from number), elsewhere number w.0)) was)
          (set_cases rows v x (with_live_part x) number r at e)

      last : (number : ℕ) (r : Row) → (number ≡ length written) × (slice ≡ r)
          → IsCounted number (live_rows (made_from number) (written ++ slice ∷ [])) r
      last number r w =
          let size : number ≡ length rows = w.0 ∙ length-set rows v (with_live_part x) in
          let none : live_rows (made_from number) rows
          ≡ 0 = subst (λ (n : ℕ). live_rows (made_from n) rows ≡ 0) (sym size) (live_rows-past rows counted) in
          let other : number ≢ v = λ e. omega (arith, within) in
          let below : v < number = omega (arith, within) in
          subst (IsCounted number _) w.1
          (record {
            below = below;
            holds = omega arith;
            live =
                omega (arith, sums (made_from number), elsewhere number other);
          })

  pub root_sum-sliced : root_sum (slice_get (written ++ slice ∷ []) 0) ≡ root_sum (slice_get written 0)
  root_sum-sliced = ap root_sum (push_front written slice (omega (arith, within, length-set rows v (with_live_part x))))

  pub views-sliced : (start len : ℕ) → view.at ≡ slice_of x.view.at start len
      → map shown (written ++ slice ∷ []) ≡ views_after (map shown rows) (Slice v start len)
  views-sliced start len part =
      map-append shown written (slice ∷ [])
      ∙ ap (λ (vs : List NestedView). vs ++ shown slice ∷ [])
      (map-set_same shown rows v (with_live_part x) x (ap shown (sym (get_or_from_slice_get rows v x x at))))
      ∙ ap (λ (a : ViewData). map shown rows ++ (record { parent = Some v; at = a; holds = 1 }) ∷ []) part
      ∙ sym (ap (λ (o : Option NestedView). with_slice o (map shown rows) v start len) (shown_at rows v x at))

-- there is room for one more
pub room-sliced : (root : RootId) (bound : ℕ) (rows : List Row) → has_all (nest_of root bound (map shown rows)) ≡ false
    → length rows ≢ bound + 1
room-sliced root bound rows room = λ e. eqb-false (length (map shown rows)) (bound + 1) room (length-map rows shown ∙ e)

part_by : (o : Option NestedView) (x : NestedView) (P : NestedView → Type 0) → o ≡ Some x → IfSome o P → P x
part_by o x P e h = subst (λ (p : Option NestedView). IfSome p P) e h

-- what holds of a view that is held, of its row
pub if_held_at : (rows : List Row) (v : ℕ) (x : Row) (P : NestedView → Type 0) → slice_get rows v ≡ Some x → 0 < x.holds
    → IfSome (if_held (slice_get (map shown rows) v)) P → P (shown x)
if_held_at rows v x P at lt h =
    part_by _ (shown x) P (ap if_held (shown_at rows v x at)
    ∙ ap (λ (b : Bool). if b then Some (shown x) else None) (lt-ltb 0 x.holds lt)) h
