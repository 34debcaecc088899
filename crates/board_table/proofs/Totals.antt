-- What all views together have of a composite, where one view changes.
use Rattle.std.proofs.Common.{◌≡◌, ℕ, zero, suc, ◌+◌, ◌<◌, ◌≤◌, List, [], ◌∷◌, set, refl, ap, arith}
use Rattle.std.specs.Prelude.{sum_by}
use Rattle.std.proofs.lemmas.List.Sums.{sum_by-cons}
use mathlib.Core.Logic.{dite}
use native.Mathlib.Decide.{ℕ_discrete}
use mathlib.Core.Option.{some}
use lib.ListN.{get_elem?}
use Rattle.step_law.proofs.Changes.{sum_set, sum_same}
use Rattle.board_table.specs.declared.views.Stake.{Stake}
use Rattle.board_table.specs.declared.views.BoardView.{BoardView}
use Rattle.board_table.specs.Views.{stake_of, total, inside_total, is_in, turns_left}

-- an element that adds something to a sum
pub adds : {A : Type 0} (f : A → ℕ) (l : List A) → 0 < sum_by f l
    → (j : ℕ) × (x : A) × (get_elem? l j ≡ some x) × (0 < f x)
adds f [] p = absurd (omega (arith, p))
adds f (x ∷ xs) p =
    dite (ℕ_discrete (f x) 0)
    (λ z. let c = sum_by-cons f x xs in let r = adds f xs (omega (arith, c, z, p)) in (suc r.0, r.1, r.2, r.3))
    (λ ne. (zero, x, refl, omega (arith, ne)))

module _ (views : List BoardView) (id : ℕ) (v w : BoardView) (at : get_elem? views id ≡ some v) where
  pub total_same : (k : ℕ) → stake_of k w ≡ stake_of k v → total k (set views id w) ≡ total k views
  total_same k e i =
      record {
        counts = sum_same (λ (u : BoardView). (stake_of k u).counts) views id v w at (ap (λ (x : Stake). x.counts) e) i;
        marks = sum_same (λ (u : BoardView). (stake_of k u).marks) views id v w at (ap (λ (x : Stake). x.marks) e) i;
        retained =
            sum_same (λ (u : BoardView). (stake_of k u).retained) views id v w at (ap (λ (x : Stake). x.retained) e) i;
        sections =
            sum_same (λ (u : BoardView). (stake_of k u).sections) views id v w at (ap (λ (x : Stake). x.sections) e) i;
        taken = sum_same (λ (u : BoardView). (stake_of k u).taken) views id v w at (ap (λ (x : Stake). x.taken) e) i;
      }

  pub inside_same : (k : ℕ) → is_in k w ≡ is_in k v → inside_total k (set views id w) ≡ inside_total k views
  inside_same k e = sum_same (is_in k) views id v w at e

  -- one field of the total
  pub field : (f : Stake → ℕ) (k : ℕ)
      → sum_by (λ (u : BoardView). f (stake_of k u)) (set views id w) + f (stake_of k v)
      ≡ sum_by (λ (u : BoardView). f (stake_of k u)) views + f (stake_of k w)
  field f k = sum_set (λ (u : BoardView). f (stake_of k u)) views id v w at

  pub inside : (k : ℕ) → inside_total k (set views id w) + is_in k v ≡ inside_total k views + is_in k w
  inside k = sum_set (is_in k) views id v w at

  pub fewer_turns : w.turns ≤ v.turns → turns_left (set views id w) ≤ turns_left views
  fewer_turns le =
      let a = sum_set (λ (u : BoardView). u.turns) views id v w at in
      let x : ℕ = turns_left (set views id w) in let y : ℕ = turns_left views in let m : ℕ = v.turns in let n : ℕ =
      w.turns in let a' : x + m ≡ y + n = a in let le' : n ≤ m = le in omega (arith, a', le')
