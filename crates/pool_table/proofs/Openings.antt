-- The table as it is made, and the first seats that are cut from the opening view.
use Rattle.std.proofs.Common.{◌≡◌, ℕ, zero, suc, ◌+◌, ◌<◌, ◌≤◌, [], Bool, cond, eqb, refl, ap, arith, eq-eqb, ne_eqb}
use Rattle.std.specs.Prelude.{Some, All, count_by}
use Rattle.std.proofs.lemmas.List.Elements.{All-cons, All-nil}
use Rattle.std.proofs.lemmas.List.Sums.{sum_by-cons}
use mathlib.Core.Logic.{dite}
use native.Mathlib.Decide.{ℕ_discrete}
use Rattle.pool_table.specs.declared.views.Part.{Part}
use Rattle.pool_table.specs.Views.{is_lane, empty_part}
use Rattle.pool_table.specs.Sound.{OnceBelow}
use Rattle.pool_table.specs.Steps.{lane_parts}

lane_none : (m i n : ℕ) → m < i → count_by (λ (p : Part). is_lane m p.number) (lane_parts i n) ≡ 0
lane_none m i zero lt = refl
lane_none m i (suc n) lt =
    let c = sum_by-cons (λ (p : Part). cond {A = ℕ} (is_lane m p.number) 1 0) (empty_part (Some i))
    (lane_parts (suc i) n) in
    let a : cond {A = ℕ} (eqb i m) 1 0 ≡ 0 = ap (λ (b : Bool). cond {A = ℕ} b 1 0)
    (ne_eqb i m (λ e. omega (arith, e, lt))) in
    let b = lane_none m (suc i) n (omega (arith, lt)) in omega (arith, a, b, c)

-- a number stands once among the parts from its lane's on, if they go so far
pub lane_once : (m i n : ℕ) → i ≤ m → OnceBelow (i + n) m (count_by (λ (p : Part). is_lane m p.number) (lane_parts i n))
lane_once m i zero le = ((λ lt. omega (arith, lt, le)), (λ _. refl))
lane_once m i (suc n) le =
    let c = sum_by-cons (λ (p : Part). cond {A = ℕ} (is_lane m p.number) 1 0) (empty_part (Some i))
    (lane_parts (suc i) n) in
    dite (ℕ_discrete i m)
    (λ e. let a : cond {A = ℕ} (eqb i m) 1 0 ≡ 1 = ap (λ (b : Bool). cond {A = ℕ} b 1 0) (eq-eqb i m e) in let b =
    lane_none m (suc i) n (omega (arith, e)) in
    ((λ lt. omega (arith, a, b, c)), (λ (over : i + suc n ≤ m). omega (arith, over, e))))
    (λ ne. let a : cond {A = ℕ} (eqb i m) 1 0 ≡ 0 = ap (λ (b : Bool). cond {A = ℕ} b 1 0) (ne_eqb i m ne) in let more =
    lane_once m (suc i) n (omega (arith, le, ne)) in (
      (λ (lt : m < i + suc n). let b = more.0 (omega (arith, lt)) in omega (arith, a, b, c)),
      (λ (over : i + suc n ≤ m). let b = more.1 (omega (arith, over)) in omega (arith, a, b, c)),
    ))

pub none_numbered : (i n : ℕ) → All (λ (p : Part). p.notes ≡ []) (lane_parts i n)
none_numbered i zero = All-nil (λ (p : Part). p.notes ≡ [])
none_numbered i (suc n) =
    All-cons (λ (p : Part). p.notes ≡ []) (empty_part (Some i)) (lane_parts (suc i) n) refl (none_numbered (suc i) n)
