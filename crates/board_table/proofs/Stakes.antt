-- The stakes of one view: read and changed by composite.
use Rattle.std.proofs.Common.{◌≡◌, ℕ, ◌+◌, ◌<◌, ◌≤◌, length, get_or, set, sym, ap, subst, arith, lt_of_not-le, get_or-set_same, get_or-set_other}
use Rattle.std.specs.Prelude.{sum_by}
use Rattle.std.proofs.lemmas.List.{get_or_past}
use Rattle.std.proofs.lemmas.List.Sums.{get_or-le-sum_by}
use mathlib.Core.Logic.{dite}
use native.Mathlib.Decide.{ℕ_discrete, dec_le}
use Rattle.board_table.specs.declared.views.Stake.{Stake}
use Rattle.board_table.specs.declared.views.BoardView.{BoardView}
use Rattle.board_table.specs.Views.{no_stake, stake_of}

-- a view that counts a composite, or has its mark, has a stake of it
pub within : (k : ℕ) (v : BoardView) → 0 < (stake_of k v).counts + (stake_of k v).marks → k < length v.stakes
within k v has =
    dite (dec_le (length v.stakes) k)
    (λ past. let e : get_or v.stakes k no_stake ≡ no_stake = get_or_past v.stakes k no_stake past in
    let a : (stake_of k v).counts + (stake_of k v).marks ≡ 0 = ap (λ (x : Stake). x.counts + x.marks) e in
    absurd (omega (arith, a, has)))
    (λ ne. lt_of_not-le ne)

-- what holds of the stake that changes, and of each that doesn't, holds of all
pub each_stake : (P : Stake → Stake → Type 0) (k : ℕ) (v : BoardView) (x : Stake) → k < length v.stakes
    → ((y : Stake) → P y y) → P (stake_of k v) x → (j : ℕ) → P (stake_of j v) (get_or (set v.stakes k x) j no_stake)
each_stake P k v x lt same here j =
    dite (ℕ_discrete j k)
    (λ e. subst (λ (n : ℕ). P (stake_of n v) (get_or (set v.stakes k x) n no_stake)) (sym e)
    (subst (P (stake_of k v)) (sym (get_or-set_same v.stakes k x no_stake lt)) here))
    (λ ne. subst (P (stake_of j v)) (sym (get_or-set_other v.stakes k j x no_stake ne)) (same (stake_of j v)))

-- one stake is no more than all
pub one_of : (f : Stake → ℕ) → f no_stake ≡ 0 → (k : ℕ) (v : BoardView) → f (stake_of k v) ≤ sum_by f v.stakes
one_of f none k v =
    dite (dec_le (length v.stakes) k)
    (λ past. let e = ap f (get_or_past v.stakes k no_stake past) in omega (arith, e, none))
    (λ ne. get_or-le-sum_by f v.stakes k no_stake (lt_of_not-le ne))

-- a view that counts it may enter its section
pub may_enter : (k : ℕ) (v : BoardView) → 0 < (stake_of k v).counts → 0 < (stake_of k v).counts + (stake_of k v).marks
may_enter k v has = let n : ℕ = (stake_of k v).counts in let m : ℕ = (stake_of k v).marks in let has' : 0 < n = has in
    let goal : 0 < n + m = omega (arith, has') in goal
