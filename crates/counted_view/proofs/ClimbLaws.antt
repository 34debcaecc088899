-- One step upwards from a view that ended, and the end of the way.
use Rattle.std.proofs.Common.{◌≡◌, ◌≢◌, ℕ, ◌+◌, ◌-◌, ◌<◌, ◌≤◌, Bool, true, false, not, ◌&&◌, List, length, set, refl, sym, ap, ◌∙◌, subst, ⊎_elim, arith, Some, None, length-set, ne_eqb}
use Rattle.std.specs.Prelude.{Option, is_some, ◌==◌, if◌then◌else◌, slice_get}
use Rattle.std.proofs.Math.Seq.{map-set_same}
use Rattle.std.proofs.lemmas.Bool.{cases_eq, eq-eqb, and_right}
use Rattle.std.proofs.lemmas.Option.{slice_get_within, get_or_from_slice_get}
use Rattle.pool_law.proofs.ListLemmas.{slice_get-set_same, slice_get-set_other}
use Rattle.counted_view.specs.Nests.{made_from}
use Rattle.counted_view.specs.Rows.{shown, row_live, live_rows, ended_parent, owed, root_sum, IsBelow, IsCounted, AreCounted, IsOwing, HasClimbed}
use Rattle.counted_view.specs.declared.rows.Row.{Row}
use Rattle.counted_view.proofs.RowLaws.{one, live_rows-set, live-kept, set_cases, IsCounted-moved}

-- the row once a view made from its view ended
abbrev pub lessened : Row → Row
lessened r = record r { live = r.live - 1 }

-- ---- What the row of a view that ended says.

ended_by : (live : Bool) (o : Option ℕ) (p : ℕ) → (if live then None else o) ≡ Some p → (live ≡ false) × (o ≡ Some p)
ended_by true o p e = absurd (cc e)
ended_by false o p e = (refl, e)

one_if : (t : Bool) → one (t && true) ≡ one t
one_if true = refl
one_if false = refl

owed-ended : (test : Option ℕ → Bool) (x : Row) (p : ℕ) → ended_parent x ≡ Some p
    → owed test (Some x) ≡ one (test (Some p))
owed-ended test x p e =
    let facts = ended_by (row_live x) x.parent p e in
    ap (λ (o : Option ℕ). one (test o && not (row_live x))) facts.1
    ∙ ap (λ (l : Bool). one (test (Some p) && not l)) facts.0
    ∙ one_if (test (Some p))

owed_by : (test : Option ℕ → Bool) (live : Bool) (o : Option ℕ) → test None ≡ false → (if live then None else o) ≡ None
    → one (test o && not live) ≡ 0
owed_by test true o none e = ap (λ (b : Bool). one (b)) (and_right (test o) false refl)
owed_by test false o none e =
    ap (λ (q : Option ℕ). one (test q && true)) e ∙ ap (λ (t : Bool). one (t && true)) none

-- nothing is owed for a view that lives on, or for the root
owed-none : (test : Option ℕ → Bool) (x : Row) → test None ≡ false → ended_parent x ≡ None → owed test (Some x) ≡ 0
owed-none test x none e = owed_by test (row_live x) x.parent none e

-- the view that it was made from comes before it
pub ended_below : (rows : List Row) (at p : ℕ) (x : Row) → IsOwing rows at → slice_get rows at ≡ Some x
    → ended_parent x ≡ Some p → p < at
ended_below rows at p x owing here ends =
    let facts = ended_by (row_live x) x.parent p ends in
    subst (IsBelow at) facts.1 (owing.each at x here).below

module _ (rows : List Row) (at p : ℕ) (x y : Row) (owing : IsOwing rows at) (here : slice_get rows at ≡ Some x)
    (ends : ended_parent x ≡ Some p) (there : slice_get rows p ≡ Some y) where
  due : (test : Option ℕ → Bool) → owed test (slice_get rows at) ≡ one (test (Some p))
  due test = ap (owed test) here ∙ owed-ended test x p ends

  due_here : owed (made_from p) (slice_get rows at) ≡ 1
  due_here = due (made_from p) ∙ ap (λ (b : Bool). one (b)) (eq-eqb p p refl)

  due_elsewhere : (number : ℕ) → number ≢ p → owed (made_from number) (slice_get rows at) ≡ 0
  due_elsewhere number other =
      due (made_from number) ∙ ap (λ (b : Bool). one (b)) (ne_eqb p number (λ e. other (sym e)))

  -- the view that it was made from counts a live one
  pub owing-some : 0 < y.live
  owing-some = omega (arith, (owing.each p y there).live, due_here)

  sums : (test : Option ℕ → Bool) → live_rows test (set rows p (lessened y)) + owed test
      (slice_get (set rows p (lessened y)) p) ≡ live_rows test rows
  sums test =
      ap (λ (o : Option Row). live_rows test (set rows p (lessened y)) + owed test o)
      (slice_get-set_same rows p (lessened y) (slice_get_within rows p y there))
      ∙ live_rows-set test rows p y (lessened y) there (live-kept y owing-some) refl

  -- once it counts one less, it is the last that may have ended
  pub IsOwing-step : IsOwing (set rows p (lessened y)) p
  IsOwing-step =
      record {
        row = lessened y;
        here = slice_get-set_same rows p (lessened y) (slice_get_within rows p y there);
        each =
            λ number r e. ⊎_elim (written number r) (kept number r) (set_cases rows p y (lessened y) number r there e);
        few = omega (arith, length-set rows p (lessened y), owing.few);
      }
    where
      written : (number : ℕ) (r : Row) → (number ≡ p) × (lessened y ≡ r) × (slice_get rows number ≡ Some y)
          → IsCounted number (live_rows (made_from number) (set rows p (lessened y)) + owed (made_from number)
          (slice_get (set rows p (lessened y)) p)) r
      written number r w =
          let was = owing.each number y w.2 in
          let due_now : owed (made_from number) (slice_get rows at)
          ≡ 1 = subst (λ (n : ℕ). owed (made_from n) (slice_get rows at) ≡ 1) (sym w.0) due_here in
          let live : (lessened y).live ≡ live_rows (made_from number) (set rows p (lessened y)) + owed
          (made_from number) (slice_get (set rows p (lessened y)) p) =
          omega (arith, was.live, sums (made_from number)) in
          subst (IsCounted number _) w.1 (IsCounted-moved number _ _ y (lessened y) refl was.holds live was)

      kept : (number : ℕ) (r : Row) → (number ≢ p) × (slice_get rows number ≡ Some r)
          → IsCounted number (live_rows (made_from number) (set rows p (lessened y)) + owed (made_from number)
          (slice_get (set rows p (lessened y)) p)) r
      kept number r w =
          let was = owing.each number r w.1 in
          IsCounted-moved number _ _ r r refl was.holds
          (omega (arith, was.live, sums (made_from number), due_elsewhere number w.0)) was

  at_above : p < at
  at_above = ended_below rows at p x owing here ends

  root_step : root_sum (slice_get (set rows p (lessened y)) 0) + one (p == 0) ≡ root_sum (slice_get rows 0)
  root_step = ⊎_elim same other (cases_eq p 0)
    where
      same : p ≡ 0 → root_sum (slice_get (set rows p (lessened y)) 0) + one (p == 0) ≡ root_sum (slice_get rows 0)
      same e =
          let new : root_sum (slice_get (set rows p (lessened y)) 0)
          ≡ y.holds + (y.live - 1) =
          ap root_sum (ap (slice_get (set rows p (lessened y))) (sym e)
          ∙ slice_get-set_same rows p (lessened y) (slice_get_within rows p y there)) in
          let old : root_sum (slice_get rows 0) ≡ y.holds + y.live =
          ap root_sum (ap (slice_get rows) (sym e) ∙ there) in
          let counts_one : one (p == 0) ≡ 1 = ap (λ (b : Bool). one (b)) (eq-eqb p 0 e) in
          omega (arith, owing-some)

      other : p ≢ 0 → root_sum (slice_get (set rows p (lessened y)) 0) + one (p == 0) ≡ root_sum (slice_get rows 0)
      other ne =
          let new : root_sum (slice_get (set rows p (lessened y)) 0)
          ≡ root_sum (slice_get rows 0) =
          ap root_sum (slice_get-set_other rows p 0 (lessened y) (λ e. ne (sym e))) in
          let none : one (p == 0) ≡ 0 = ap (λ (b : Bool). one (b)) (ne_eqb p 0 ne) in
          omega arith

  pub HasClimbed-step : (old : List Row) (start ended : ℕ) → HasClimbed old rows start at ended
      → HasClimbed old (set rows p (lessened y)) start p (ended + 1)
  HasClimbed-step old start ended climbed =
      let slices = sums is_some in
      let owed_one : owed is_some (slice_get rows at) ≡ 1 = due is_some in
      let above : one (at == 0) ≡ 0 = ap (λ (b : Bool). one (b)) (ne_eqb at 0 (λ e. omega (arith, at_above))) in
      record {
        shown_is =
            map-set_same shown rows p (lessened y) y (ap shown (sym (get_or_from_slice_get rows p y y there)))
            ∙ climbed.shown_is;
        slices = omega (arith, climbed.slices);
        root = omega (arith, climbed.root, root_step);
      }

-- a row of a view that is held, written
pub IsOwing-start : (rows : List Row) (v : ℕ) (x y : Row) → AreCounted rows → slice_get rows v ≡ Some x
    → row_live x ≡ true → y.parent ≡ x.parent → y.live ≡ x.live → y.holds ≤ 65535 → length rows ≤ 4097
    → IsOwing (set rows v y) v
IsOwing-start rows v x y counted at live same kept few short =
    record {
      row = y;
      here = slice_get-set_same rows v y (slice_get_within rows v x at);
      each = λ number r e. ⊎_elim (written number r) (others number r) (set_cases rows v x y number r at e);
      few = omega (arith, length-set rows v y);
    }
  where
    sums : (test : Option ℕ → Bool) → live_rows test (set rows v y) + owed test (slice_get (set rows v y) v)
        ≡ live_rows test rows
    sums test =
        ap (λ (o : Option Row). live_rows test (set rows v y) + owed test o)
        (slice_get-set_same rows v y (slice_get_within rows v x at))
        ∙ live_rows-set test rows v x y at live same

    written : (number : ℕ) (r : Row) → (number ≡ v) × (y ≡ r) × (slice_get rows number ≡ Some x)
        → IsCounted number (live_rows (made_from number) (set rows v y) + owed (made_from number)
        (slice_get (set rows v y) v)) r
    written number r w =
        let was = counted number x w.2 in
        subst (IsCounted number _) w.1
        (IsCounted-moved number _ _ x y same few (omega (arith, was.live, sums (made_from number))) was)

    others : (number : ℕ) (r : Row) → (number ≢ v) × (slice_get rows number ≡ Some r)
        → IsCounted number (live_rows (made_from number) (set rows v y) + owed (made_from number)
        (slice_get (set rows v y) v)) r
    others number r w =
        let was = counted number r w.1 in
        IsCounted-moved number _ _ r r refl was.holds (omega (arith, was.live, sums (made_from number))) was

-- at the end of the way each row counts the live ones
pub AreCounted-end : (rows : List Row) (at : ℕ) (x : Row) → IsOwing rows at → slice_get rows at ≡ Some x
    → ended_parent x ≡ None → AreCounted rows
AreCounted-end rows at x owing here ends = λ number r e.
    let was = owing.each number r e in
    let none : owed (made_from number) (slice_get rows at) ≡ 0 = ap (owed (made_from number)) here
    ∙ owed-none (made_from number) x refl ends in
    IsCounted-moved number _ _ r r refl was.holds (omega (arith, was.live)) was

pub slices-end : (rows : List Row) (at : ℕ) (x : Row) → slice_get rows at ≡ Some x → ended_parent x ≡ None
    → owed is_some (slice_get rows at) ≡ 0
slices-end rows at x here ends = ap (owed is_some) here ∙ owed-none is_some x refl ends

-- a row of a live view is written that stays live
pub AreCounted-kept : (rows : List Row) (v : ℕ) (x y : Row) → AreCounted rows → slice_get rows v ≡ Some x
    → row_live x ≡ true → row_live y ≡ true → y.parent ≡ x.parent → y.live ≡ x.live → y.holds ≤ 65535
    → length rows ≤ 4097 → AreCounted (set rows v y)
AreCounted-kept rows v x y counted at live lives same kept few short =
    let lives_on : ended_parent y ≡ None = ap (λ (b : Bool). if b then None else y.parent) lives in
    AreCounted-end (set rows v y) v y (IsOwing-start rows v x y counted at live same kept few short)
    (slice_get-set_same rows v y (slice_get_within rows v x at)) lives_on

-- what the root counts, once a row is written that counts one less, or one more
pub root_sum-less : (rows : List Row) (v : ℕ) (x y : Row) → slice_get rows v ≡ Some x
    → y.holds + y.live + 1 ≡ x.holds + x.live → root_sum (slice_get (set rows v y) 0) + one (v == 0)
    ≡ root_sum (slice_get rows 0)
root_sum-less rows v x y at less = ⊎_elim same other (cases_eq v 0)
  where
    same : v ≡ 0 → root_sum (slice_get (set rows v y) 0) + one (v == 0) ≡ root_sum (slice_get rows 0)
    same e =
        let new : root_sum (slice_get (set rows v y) 0)
        ≡ y.holds + y.live =
        ap root_sum (ap (slice_get (set rows v y)) (sym e)
        ∙ slice_get-set_same rows v y (slice_get_within rows v x at)) in
        let old : root_sum (slice_get rows 0) ≡ x.holds + x.live = ap root_sum (ap (slice_get rows) (sym e) ∙ at) in
        let counts_one : one (v == 0) ≡ 1 = ap one (eq-eqb v 0 e) in
        omega (arith, less)

    other : v ≢ 0 → root_sum (slice_get (set rows v y) 0) + one (v == 0) ≡ root_sum (slice_get rows 0)
    other ne =
        let new : root_sum (slice_get (set rows v y) 0)
        ≡ root_sum (slice_get rows 0) = ap root_sum (slice_get-set_other rows v 0 y (λ e. ne (sym e))) in
        let none : one (v == 0) ≡ 0 = ap one (ne_eqb v 0 ne) in
        omega arith

pub root_sum-more : (rows : List Row) (v : ℕ) (x y : Row) → slice_get rows v ≡ Some x
    → y.holds + y.live ≡ x.holds + x.live + 1 → root_sum (slice_get (set rows v y) 0)
    ≡ root_sum (slice_get rows 0) + one (v == 0)
root_sum-more rows v x y at more = ⊎_elim same other (cases_eq v 0)
  where
    same : v ≡ 0 → root_sum (slice_get (set rows v y) 0) ≡ root_sum (slice_get rows 0) + one (v == 0)
    same e =
        let new : root_sum (slice_get (set rows v y) 0)
        ≡ y.holds + y.live =
        ap root_sum (ap (slice_get (set rows v y)) (sym e)
        ∙ slice_get-set_same rows v y (slice_get_within rows v x at)) in
        let old : root_sum (slice_get rows 0) ≡ x.holds + x.live = ap root_sum (ap (slice_get rows) (sym e) ∙ at) in
        let counts_one : one (v == 0) ≡ 1 = ap one (eq-eqb v 0 e) in
        omega (arith, more)

    other : v ≢ 0 → root_sum (slice_get (set rows v y) 0) ≡ root_sum (slice_get rows 0) + one (v == 0)
    other ne =
        let new : root_sum (slice_get (set rows v y) 0)
        ≡ root_sum (slice_get rows 0) = ap root_sum (slice_get-set_other rows v 0 y (λ e. ne (sym e))) in
        let none : one (v == 0) ≡ 0 = ap one (ne_eqb v 0 ne) in
        omega arith
