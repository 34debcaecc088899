-- Sums over the logs, and over the histories.
use Rattle.std.proofs.Common.{eqb-true, eq-eqb, ne_eqb, ◌≡◌, ◌≢◌, ℕ, zero, suc, ◌+◌, ◌<◌, ◌≤◌, [], ◌∷◌, length, refl, sym, ap, arith, true, false, Some, ◌∙◌}
use Rattle.std.specs.Prelude.{◌==◌, if◌then◌else◌, slice_get}
use Rattle.pool_law.specs.declared.note.Object.{Object}
use Rattle.pool_law.specs.declared.note.Did.{Did}
use Rattle.run_laws.specs.CacheCounts.{total_by}
use Rattle.pool_law.specs.Logs.{Logs, History, dids, numbered}
use Rattle.run_laws.specs.Regroup.{total_of_notes, total_at, SumsAgree}
use Rattle.pool_law.proofs.HistoryLemmas.{over_lanes, over-same, over-add, lesser-or_same, AreOf, are-of, lane-inside}
use Rattle.std.proofs.lemmas.Bool.{cond_both}

abbrev pub weight_at : ℕ → ℕ → ℕ → ℕ
weight_at w a l = if a == l then w else 0

pub weights-none : (w k n a : ℕ) → a < k → over_lanes k n (weight_at w a) ≡ 0
weights-none w k zero a h = refl
weights-none w k (suc n) a h =
    let other : (a == k) ≡ false = ne_eqb a k (λ e. omega (arith, e)) in
    rw other (omega (arith, weights-none w (k + 1) n a (omega arith)))

pub weights-one : (w k n a : ℕ) → k ≤ a → a < k + n → over_lanes k n (weight_at w a) ≡ w
weights-one w k zero a low high = absurd (omega arith)
weights-one w k (suc n) a low high =
    cond_both (a == k) w 0 (λ z. z + over_lanes (k + 1) n (weight_at w a) ≡ w)
    (λ same. let e : a ≡ k = eqb-true a k same in omega (arith, weights-none w (k + 1) n a (omega (arith, e))))
    (λ other. let ne : a ≢ k = (λ e. let both : true ≡ false = sym (eq-eqb a k e) ∙ other in cc both) in
    let rest : over_lanes (k + 1) n (weight_at w a)
    ≡ w = weights-one w (k + 1) n a (omega (arith, lesser-or_same k a low ne)) (omega arith) in
    omega (arith, rest))

pub total-numbered : (f : Did → ℕ) (l n : ℕ) (e : ℕ × Did) (h : History)
    → total_of_notes f (numbered l n (e ∷ h)) ≡ weight_at (f e.1) e.0 l + total_of_notes f (numbered l (n + 1) h)
total-numbered f l n e h =
    cond_both (e.0 == l) ((n, e.1) ∷ numbered l (n + 1) h) (numbered l (n + 1) h)
    (λ z. total_of_notes f z ≡ weight_at (f e.1) e.0 l + total_of_notes f (numbered l (n + 1) h))
    (λ same. rw same refl)
    (λ other. rw other (omega arith))

pub totals-numbered : (f : Did → ℕ) (k m n : ℕ) (h : History)
    → ((j : ℕ) (e : ℕ × Did) → slice_get h j ≡ Some e → (k ≤ e.0) × (e.0 < k + m))
    → over_lanes k m (λ l. total_of_notes f (numbered l n h)) ≡ total_by f (dids h)
totals-numbered f k m n [] inside = zeros k m
  where
    zeros : (k m : ℕ) → over_lanes k m (λ l. 0) ≡ 0
    zeros k zero = refl
    zeros k (suc m) = omega (arith, zeros (k + 1) m)
totals-numbered f k m n (e ∷ h) inside =
    let split : over_lanes k m (λ l. total_of_notes f (numbered l n (e ∷ h)))
    ≡ over_lanes k m (λ l. weight_at (f e.1) e.0 l + total_of_notes f (numbered l (n + 1) h)) =
    over-same k m (λ l. total_of_notes f (numbered l n (e ∷ h)))
    (λ l. weight_at (f e.1) e.0 l + total_of_notes f (numbered l (n + 1) h))
    (λ l. total-numbered f l n e h) in
    let sums : over_lanes k m (λ l. weight_at (f e.1) e.0 l + total_of_notes f (numbered l (n + 1) h))
    ≡ over_lanes k m (weight_at (f e.1) e.0) + over_lanes k m (λ l. total_of_notes f (numbered l (n + 1) h)) =
    over-add k m (weight_at (f e.1) e.0) (λ l. total_of_notes f (numbered l (n + 1) h)) in
    let one : over_lanes k m (weight_at (f e.1) e.0)
    ≡ f e.1 = weights-one (f e.1) k m e.0 (inside 0 e refl).0 (inside 0 e refl).1 in
    let ih : over_lanes k m (λ l. total_of_notes f (numbered l (n + 1) h))
    ≡ total_by f (dids h) = totals-numbered f k m (n + 1) h (λ j x is. inside (suc j) x is) in
    omega (arith, split, sums, one, ih)

pub total_at-over : (f : Did → ℕ) (object : Object) (h : History) (k : ℕ) (logs : Logs) → AreOf object h k logs
    → total_at f object logs ≡ over_lanes k (length logs) (λ l. total_of_notes f (numbered l 1 h))
total_at-over f object h k [] are = refl
total_at-over f object h k (log ∷ logs) are =
    omega (arith, ap (total_of_notes f) are.0, total_at-over f object h (k + 1) logs are.1)

pub sums-agree : SumsAgree
sums-agree f object logs h whole =
    total_at-over f object h 0 logs (are-of object logs h whole)
    ∙ totals-numbered f 0 (length logs) 1 h
    (λ j e is. (omega arith, omega (arith, lane-inside object logs h whole j e is)))
