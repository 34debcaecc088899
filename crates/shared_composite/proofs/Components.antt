-- A component of a core: its root is one of the core's, and its seat counts it.
use Rattle.std.proofs.Common.{◌≡◌, ℕ, zero, suc, ◌+◌, ◌≤◌, List, [], ◌∷◌, ap, ◌∙◌, subst, arith}
use Rattle.std.specs.Prelude.{Contains, Some, slice_get}
use Rattle.std.proofs.lemmas.Option.{get_or_from_slice_get}
use Rattle.pool_law.specs.declared.id.Part.{Part}
use Rattle.pool_law.specs.Composites.{cut}
use Rattle.pool_law.proofs.ListLemmas.{slice_get-below}
use Rattle.pool_table.specs.Capacities.{knows_of}
use Rattle.pool_table.specs.Counts.{HasCount}
use Rattle.shared_pool.specs.declared.pool.SharedPool.{SharedPool}
use Rattle.shared_pool.specs.SeatViews.{view_of}
use Rattle.seat_work.specs.Changes.{one_for, times}
use Rattle.seat_work.proofs.Counting.{times-cons, one_self}
use Rattle.shared_composite.specs.declared.cores.Core.{Core}
use Rattle.shared_composite.specs.Cores.{IsCore, IsKnown, roots_of}

-- the part of a number
part_is : (ps : List Part) (q p : Part) → slice_get (q ∷ ps) 0 ≡ Some p → q ≡ p
part_is ps q p there = get_or_from_slice_get (q ∷ ps) 0 p p there

contains_root : (ps : List Part) (k : ℕ) (p : Part) → slice_get ps k ≡ Some p → Contains (roots_of ps) p.root
contains_root [] k p there = absurd (cc there)
contains_root (q ∷ ps) zero p there = (0, omega arith, ap (λ (x : Part). x.root) (part_is ps q p there))
contains_root (q ∷ ps) (suc k) p there =
    let c = contains_root ps k p there in (suc c.0, (let lt = c.1 in omega (arith, lt)), c.2)

counts_root : (ps : List Part) (k : ℕ) (p : Part) → slice_get ps k ≡ Some p → 1 ≤ times p.root (roots_of ps)
counts_root [] k p there = absurd (cc there)
counts_root (q ∷ ps) zero p there =
    let one : one_for q.root p.root ≡ 1 = ap (λ (x : Part). one_for x.root p.root) (part_is ps q p there)
    ∙ one_self p.root in
    let a = times-cons p.root q.root (roots_of ps) in omega (arith, one, a)
counts_root (q ∷ ps) (suc k) p there =
    let a = times-cons p.root q.root (roots_of ps) in let b = counts_root ps k p there in omega (arith, a, b)

module _ (pool : SharedPool) (c : Core) (core : IsCore pool c) (k : ℕ) (p : Part)
    (there : slice_get c.parts k ≡ Some p) where
  pub root_there : Contains (roots_of c.parts) p.root
  root_there = contains_root c.parts k p there

  pub root_counted : HasCount p.root (view_of c.seat)
  root_counted =
      let a = core.fit.counted p.root in let b = counts_root c.parts k p there in omega (arith, a, b)

  -- and what is cut of it is known
  pub cut_known : (s t : ℕ) → s + t ≤ p.len → IsKnown (view_of c.seat) (cut p s t)
  cut_known s t inside =
      let n : ℕ = knows_of p.root (view_of c.seat) in
      let known : p.offset + p.len ≤ n = subst (IsKnown (view_of c.seat)) (get_or_from_slice_get c.parts k p p there)
      (core.fit.known k p (slice_get-below c.parts k p there)) in
      let g : (p.offset + s) + t ≤ n = omega (arith, known, inside) in
      g
