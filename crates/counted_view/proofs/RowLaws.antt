-- What one row that is written does to the live ones.
use Rattle.std.proofs.Common.{◌≡◌, ◌≢◌, ℕ, ◌+◌, ◌<◌, ◌≤◌, ◌⊎◌, Bool, true, false, not, ◌&&◌, ◌||◌, List, [], ◌∷◌, ◌++◌, length, get_or, set, refl, sym, ap, ◌∙◌, subst, inl, inr, ⊎_elim, arith, Some, sum_by}
use Rattle.std.specs.Prelude.{Option, nat_lt, if◌then◌else◌, slice_get}
use Rattle.std.proofs.lemmas.Bool.{or_left, cases_eq, lt-ltb, and_right}
use Rattle.std.proofs.lemmas.List.Sums.{sum_by-set, sum_by_push, count_by-le-length}
use Rattle.std.proofs.lemmas.Option.{slice_get_within, get_or_from_slice_get, same_Some}
use Rattle.std.proofs.Math.Bool.{and-true}
use Rattle.pool_law.proofs.ListLemmas.{slice_get-set_same, slice_get-set_other}
use Rattle.counted_view.specs.Rows.{row_live, live_rows, owed, IsBelow, IsCounted}
use Rattle.counted_view.specs.declared.rows.Row.{Row}

-- 1 for true
abbrev pub one : Bool → ℕ
one b = if b then 1 else 0

-- a sum over rows, one of which is written
weigh_set : (f : Row → ℕ) (rows : List Row) (i : ℕ) (x y : Row) → slice_get rows i ≡ Some x
    → sum_by f (set rows i y) + f x ≡ sum_by f rows + f y
weigh_set f rows i x y at =
    let now : get_or rows i x ≡ x = get_or_from_slice_get rows i x x at in
    subst (λ (z : Row). sum_by f (set rows i y) + f z ≡ sum_by f rows + f y) now
    (sum_by-set f rows i y x (slice_get_within rows i x at))

-- 1 for a live view is 1 where it lives on, and 1 where it ended
parts_of_one : (t l : Bool) → one (t && l) + one (t && not l) ≡ one (t && true)
parts_of_one true true = refl
parts_of_one true false = refl
parts_of_one false true = refl
parts_of_one false false = refl

-- the row of a live view is written: it is live still, or owed
pub live_rows-set : (test : Option ℕ → Bool) (rows : List Row) (i : ℕ) (x y : Row) → slice_get rows i ≡ Some x
    → row_live x ≡ true → y.parent ≡ x.parent → live_rows test (set rows i y) + owed test (Some y) ≡ live_rows test rows
live_rows-set test rows i x y at live same =
    let written = weigh_set (λ (r : Row). one (test r.parent && row_live r)) rows i x y at in
    let was : one (test x.parent && row_live x) ≡ one (test x.parent && true) =
    ap (λ (l : Bool). one (test x.parent && l)) live in
    let parts = parts_of_one (test y.parent) (row_live y) in
    let tests : one (test y.parent && true) ≡ one (test x.parent && true) =
    ap (λ (p : Option ℕ). one (test p && true)) same in
    omega arith

or_right : (a b : Bool) → b ≡ true → (a || b) ≡ true
or_right true b e = refl
or_right false b e = e

pub live-held : (r : Row) → 0 < r.holds → row_live r ≡ true
live-held r lt = or_left (nat_lt 0 r.holds) _ (lt-ltb 0 r.holds lt)

pub live-kept : (r : Row) → 0 < r.live → row_live r ≡ true
live-kept r lt = or_right (nat_lt 0 r.holds) _ (lt-ltb 0 r.live lt)

-- what is at a place once a row is written
pub set_cases : (rows : List Row) (i : ℕ) (x y : Row) (number : ℕ) (r : Row) → slice_get rows i ≡ Some x
    → slice_get (set rows i y) number ≡ Some r →
    ((number ≡ i) × (y ≡ r) × (slice_get rows number ≡ Some x)) ⊎ ((number ≢ i) × (slice_get rows number ≡ Some r))
set_cases rows i x y number r at e =
    ⊎_elim
    (λ (same : number ≡ i). inl (
      same,
      same_Some y r
          (sym (slice_get-set_same rows i y (slice_get_within rows i x at)) ∙ ap (slice_get (set rows i y)) (sym same)
          ∙ e),
      ap (slice_get rows) same ∙ at,
    ))
    (λ (other : number ≢ i). inr (other, sym (slice_get-set_other rows i number y other) ∙ e))
    (cases_eq number i)

-- a row that counts as many, of the same parent, is counted as the other was
pub IsCounted-moved : (number parts more : ℕ) (x r : Row) → r.parent ≡ x.parent → r.holds ≤ 65535 → r.live ≡ more
    → IsCounted number parts x → IsCounted number more r
IsCounted-moved number parts more x r same few live counted =
    record { below = subst (IsBelow number) (sym same) counted.below; holds = few; live = live }

-- the same with a row more at the end, of a live view
pub live_rows-push : (test : Option ℕ → Bool) (rows : List Row) (r : Row) → row_live r ≡ true
    → live_rows test (rows ++ r ∷ []) ≡ live_rows test rows + one (test r.parent)
live_rows-push test rows r live =
    sum_by_push (λ (q : Row). one (test q.parent && row_live q)) rows r
    ∙ ap (λ (l : Bool). live_rows test rows + one (test r.parent && l)) live
    ∙ ap (λ (b : Bool). live_rows test rows + one (b)) (and-true (test r.parent))

-- a row is written whose view was live and is
pub live_rows-kept : (test : Option ℕ → Bool) (rows : List Row) (i : ℕ) (x y : Row) → slice_get rows i ≡ Some x
    → row_live x ≡ true → row_live y ≡ true → y.parent ≡ x.parent → live_rows test (set rows i y) ≡ live_rows test rows
live_rows-kept test rows i x y at live lives same =
    let written = live_rows-set test rows i x y at live same in
    let none : owed test (Some y) ≡ 0 = ap (λ (l : Bool). one (test y.parent && not l)) lives
    ∙ ap (λ (b : Bool). one (b)) (and_right (test y.parent) false refl) in
    omega arith

pub live_rows-le-length : (test : Option ℕ → Bool) (rows : List Row) → live_rows test rows ≤ length rows
live_rows-le-length test rows = count_by-le-length (λ (r : Row). test r.parent && row_live r) rows
