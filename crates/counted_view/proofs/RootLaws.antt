-- That all views are of one root, and that the nest counts it while any of them is held.
use Rattle.std.proofs.Common.{◌≡◌, ℕ, zero, suc, ◌+◌, ◌<◌, ◌≤◌, ◌≢◌, Bool, true, ◌&&◌, ◌||◌, List, [], ◌∷◌, ◌++◌, length, map, set, refl, sym, ap, ◌∙◌, subst, ⊎_elim, arith, Some, None, sum_by, eq-eqb}
use Rattle.std.specs.Prelude.{Option, option_map, nat_lt, slice_get}
use Rattle.std.proofs.lemmas.List.Sums.{sum_by-cons}
use Rattle.std.proofs.lemmas.Option.{slice_get_within, slice_get-map, same_Some}
use Rattle.pool_law.specs.declared.id.RootId.{RootId}
use Rattle.counted_view.specs.declared.rows.Row.{Row}
use Rattle.counted_view.specs.Nests.{NestedView, made_from, root_counts}
use Rattle.counted_view.specs.Rows.{shown, row_live, live_rows, root_sum, IsBelow, AreCounted}
use Rattle.counted_view.specs.Trees.{AreOf, IsOf}
use Rattle.counted_view.proofs.RowLaws.{one, live-held, live-kept, set_cases}
use Rattle.counted_view.proofs.LiveLaws.{root_counts-rows}
use Rattle.counted_view.proofs.TreeLaws.{nest_of, shown_at, push_cases}

-- ---- Views of one root.

pub AreOf-set : (root : RootId) (rows : List Row) (v : ℕ) (x y : Row) → AreOf root rows → slice_get rows v ≡ Some x
    → y.view.at ≡ x.view.at → AreOf root (set rows v y)
AreOf-set root rows v x y all at same number r e =
    ⊎_elim
    (λ (w : (number ≡ v) × (y ≡ r) × (slice_get rows number ≡ Some x)).
    subst (λ (q : Row). IsOf root q.view.at) w.1 (subst (IsOf root) (sym same) (all v x at)))
    (λ (w : (number ≢ v) × (slice_get rows number ≡ Some r)). all number r w.1)
    (set_cases rows v x y number r at e)

pub AreOf-push : (root : RootId) (rows : List Row) (y : Row) → AreOf root rows → IsOf root y.view.at
    → AreOf root (rows ++ y ∷ [])
AreOf-push root rows y all is number r e =
    ⊎_elim (λ (at : slice_get rows number ≡ Some r). all number r at)
    (λ (w : (number ≡ length rows) × (y ≡ r)). subst (λ (q : Row). IsOf root q.view.at) w.1 is)
    (push_cases rows y number r e)

shown_root : (root : RootId) (o : Option Row) (x : NestedView) → option_map shown o ≡ Some x
    → ((r : Row) → o ≡ Some r → IsOf root r.view.at) → IsOf root x.at
shown_root root None x e each = absurd (cc e)
shown_root root (Some r) x e each =
    let same : shown r ≡ x = same_Some (shown r) x e in
    subst (λ (y : NestedView). IsOf root y.at) same (each r refl)

-- what the rows show tells of their roots
pub root_at : (root : RootId) (rows : List Row) (v : ℕ) (x : NestedView) → AreOf root rows
    → slice_get (map shown rows) v ≡ Some x → IsOf root x.at
root_at root rows v x all e =
    shown_root root (slice_get rows v) x (sym (slice_get-map shown rows v) ∙ e) (all v)

pub AreOf-shown : (root : RootId) (old new : List Row) → map shown new ≡ map shown old → AreOf root old
    → AreOf root new
AreOf-shown root old new same all number r e =
    root_at root old number (shown r) all
    (ap (λ (vs : List NestedView). slice_get vs number) (sym same) ∙ shown_at new number r e)

-- ---- A root is counted while a view of it is live.

at_least : (f : Row → ℕ) (rows : List Row) (k : ℕ) (r : Row) → slice_get rows k ≡ Some r → f r ≤ sum_by f rows
at_least f [] k r e = absurd (cc e)
at_least f (q ∷ rows) zero r e =
    let same : f q ≡ f r = ap f (same_Some q r e) in omega (arith, sum_by-cons f q rows, same)
at_least f (q ∷ rows) (suc k) r e = omega (arith, sum_by-cons f q rows, at_least f rows k r e)

-- a live view makes what it was made from live
one_live : (rows : List Row) (p k : ℕ) (r : Row) → slice_get rows k ≡ Some r → r.parent ≡ Some p → row_live r ≡ true
    → 0 < live_rows (made_from p) rows
one_live rows p k r at is live =
    let f : Row → ℕ = λ q. one (made_from p q.parent && row_live q) in
    let is_one : f r ≡ 1 = ap (λ (o : Option ℕ). one (made_from p o && row_live r)) is
    ∙ ap (λ (b : Bool). one (b && row_live r)) (eq-eqb p p refl) ∙ ap one live in
    omega (arith, is_one, at_least f rows k r at)

some_live : (a b : ℕ) → (nat_lt 0 a || nat_lt 0 b) ≡ true → 0 < a + b
some_live zero zero e = absurd (cc e)
some_live zero (suc b) e = omega arith
some_live (suc a) b e = omega arith

row_at : (rows : List Row) (p : ℕ) → p < length rows → (r : Row) × (slice_get rows p ≡ Some r)
row_at [] p lt = absurd (omega (arith, lt))
row_at (r ∷ rows) zero lt = (r, refl)
row_at (r ∷ rows) (suc p) lt = row_at rows p (omega (arith, lt))

live_up : (fuel : ℕ) (rows : List Row) → AreCounted rows → (number : ℕ) (r : Row) → number < fuel
    → slice_get rows number ≡ Some r → row_live r ≡ true → 0 < root_sum (slice_get rows 0)
live_up zero rows counted number r lt at live = absurd (omega (arith, lt))
live_up (suc fuel) rows counted number r lt at live =
    by r.parent refl (counted number r at).below
    (λ (p : ℕ) (q : Row) (below : p < fuel) (there : slice_get rows p ≡ Some q) (lives : row_live q ≡ true).
    live_up fuel rows counted p q below there lives)
  where
    by : (o : Option ℕ) → r.parent ≡ o → IsBelow number o
        → ((p : ℕ) (q : Row) → p < fuel → slice_get rows p ≡ Some q → row_live q ≡ true
        → 0 < root_sum (slice_get rows 0))
        → 0 < root_sum (slice_get rows 0)
    by None is first up =
        let here : slice_get rows 0 ≡ Some r = ap (slice_get rows) (sym first) ∙ at in
        subst (λ (o : Option Row). 0 < root_sum o) (sym here) (some_live r.holds r.live live)
    by (Some p) is below up =
        let within = slice_get_within rows number r at in
        let q = row_at rows p (omega (arith, below, within)) in
        let counts = (counted p q.0 q.1).live in
        let some : 0 < q.0.live = omega (arith, counts, one_live rows p number r at is live) in
        up p q.0 (omega (arith, below, lt)) q.1 (live-kept q.0 some)

-- a nest of which a view is held counts its root
pub counts_at : (root : RootId) (bound : ℕ) (rows : List Row) (v : ℕ) (r : Row) → AreCounted rows
    → slice_get rows v ≡ Some r → 0 < r.holds → 0 < root_counts (nest_of root bound (map shown rows))
counts_at root bound rows v r counted at held =
    subst (λ (k : ℕ). 0 < k) (sym (root_counts-rows root bound rows counted))
    (live_up (v + 1) rows counted v r (omega arith) at (live-held r held))
