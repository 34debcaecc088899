-- The rows' own counts are those of the definition, which goes down from each view.
use Rattle.std.proofs.Common.{◌≡◌, ℕ, zero, suc, ◌+◌, ◌<◌, ◌≤◌, Bool, false, ◌&&◌, ◌||◌, List, [], ◌∷◌, length, get_or, map, take, drop, refl, sym, ap, ◌∙◌, subst, arith, Some, None, sum_by, ne_eqb, add-one, drop-cons, length-drop, take_all}
use Rattle.std.specs.Prelude.{Option, nat_lt, slice_get}
use Rattle.std.proofs.lemmas.Bool.{and_left}
use Rattle.std.proofs.lemmas.List.Sums.{sum_by-cons, sum_by-take-drop}
use Rattle.std.proofs.lemmas.Option.{slice_get_read}
use Rattle.pool_law.specs.declared.id.RootId.{RootId}
use Rattle.counted_view.specs.Nests.{made_from, live_from, root_counts}
use Rattle.counted_view.specs.Rows.{shown, row_live, live_rows, root_sum, IsBelow, AreCounted}
use Rattle.counted_view.specs.declared.rows.Row.{Row}
use Rattle.counted_view.proofs.RowLaws.{one}

-- each row counts the live ones among those that come after it
abbrev CountsAfter : ℕ → List Row → Type 0
CountsAfter number [] = Unit {0}
CountsAfter number (r ∷ rs) = (r.live ≡ live_rows (made_from number) rs) × CountsAfter (number + 1) rs

live_from-after : (rs : List Row) (number : ℕ) (test : Option ℕ → Bool) → CountsAfter number rs
    → live_from test number (map shown rs) ≡ live_rows test rs
live_from-after [] number test c = refl
live_from-after (r ∷ rs) number test c =
    let parts : live_from (made_from number) (number + 1) (map shown rs)
    ≡ r.live = live_from-after rs (number + 1) (made_from number) c.1 ∙ sym c.0 in
    ap (λ (k : ℕ). one (test r.parent && (nat_lt 0 r.holds || nat_lt 0 k)) + live_from test (number + 1) (map shown rs))
    parts
    ∙ ap (λ (k : ℕ). one (test r.parent && row_live r) + k) (live_from-after rs (number + 1) test c.1)
    ∙ sym (sum_by-cons (λ (q : Row). one (test q.parent && row_live q)) r rs)

-- a sum over rows each of which adds nothing
none_before : (f : Row → ℕ) (rows : List Row) (n : ℕ)
    → ((k : ℕ) (r : Row) → k < n → slice_get rows k ≡ Some r → f r ≡ 0) → sum_by f (take n rows) ≡ 0
none_before f rows zero h = refl
none_before f [] (suc n) h = refl
none_before f (r ∷ rows) (suc n) h =
    let first : f r ≡ 0 = h 0 r (omega arith) refl in
    let rest : sum_by f (take n rows) ≡ 0 = none_before f rows n (λ k q lt e. h (suc k) q (omega arith) e) in
    omega (arith, sum_by-cons f r (take n rows))

-- what comes no later than a view wasn't made from it
below_not : (o : Option ℕ) (k number : ℕ) → IsBelow k o → k ≤ number → made_from number o ≡ false
below_not None k number below le = refl
below_not (Some p) k number below le = ne_eqb p number (λ e. omega arith)

drop_next : (rows : List Row) (n : ℕ) (r : Row) (rs : List Row) → drop n rows ≡ r ∷ rs
    → (slice_get rows n ≡ Some r) × (drop (n + 1) rows ≡ rs)
drop_next rows n r rs e =
    let lt : n < length rows = omega (arith, ap length e, length-drop n rows) in
    let cut = drop-cons rows n r lt in
    let now : get_or rows n r ≡ r = cc in
    let rest : drop (suc n) rows ≡ rs = cc in
    (slice_get_read rows (length rows) n r refl lt (sym now), ap (λ (k : ℕ). drop k rows) (add-one n) ∙ rest)

counts_after : (rows : List Row) → AreCounted rows → (rs : List Row) (number : ℕ) → drop number rows ≡ rs
    → CountsAfter number rs
counts_after rows counted [] number e = tt
counts_after rows counted (r ∷ rs) number e =
    let next = drop_next rows number r rs e in
    let f : Row → ℕ = λ q. one (made_from number q.parent && row_live q) in
    let before : sum_by f (take (number + 1) rows) ≡ 0 =
    none_before f rows (number + 1)
    (λ k q lt at. ap (λ (b : Bool). one (b))
    (and_left (made_from number q.parent) (row_live q)
    (below_not q.parent k number (counted k q at).below (omega arith)))) in
    let after : sum_by f (drop (number + 1) rows) ≡ sum_by f rs = ap (sum_by f) next.1 in (
      omega (arith, (counted number r next.0).live, sum_by-take-drop f rows (number + 1)),
      counts_after rows counted rs
          (number + 1) next.1,
    )

-- of all rows
pub live_from-rows : (rows : List Row) (test : Option ℕ → Bool) → AreCounted rows
    → live_from test 0 (map shown rows) ≡ live_rows test rows
live_from-rows rows test counted = live_from-after rows 0 test (counts_after rows counted rows 0 refl)

-- no live view was made from one that isn't there
pub live_rows-past : (rows : List Row) → AreCounted rows → live_rows (made_from (length rows)) rows ≡ 0
live_rows-past rows counted =
    let f : Row → ℕ = λ q. one (made_from (length rows) q.parent && row_live q) in
    let none : sum_by f (take (length rows) rows) ≡ 0 =
    none_before f rows (length rows)
    (λ k q lt at. ap one (and_left (made_from (length rows) q.parent) (row_live q)
    (below_not q.parent k (length rows) (counted k q at).below (omega arith)))) in
    subst (λ (rs : List Row). sum_by f rs ≡ 0) (take_all (length rows) rows (omega arith)) none

-- what the nest counts of its root
pub root_counts-rows : (root : RootId) (bound : ℕ) (rows : List Row) → AreCounted rows
    → root_counts (record { root = root; bound = bound; views = map shown rows }) ≡ root_sum (slice_get rows 0)
root_counts-rows root bound [] counted = refl
root_counts-rows root bound (r ∷ rs) counted =
    ap (λ (k : ℕ). r.holds + k) (live_from-rows (r ∷ rs) (made_from 0) counted ∙ sym (counted 0 r refl).live)
