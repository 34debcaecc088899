-- What a thread was told of the capacity of roots, where it was told nothing, and once what is kept at a
-- place has changed.
use Rattle.std.proofs.Common.{◌≡◌, ◌≢◌, ℕ, ◌<◌, ◌≤◌, max, Bool, true, false, List, refl, sym, ap, ◌∙◌, subst, ⊎_elim, arith, Some}
use Rattle.std.specs.Prelude.{if◌then◌else◌, slice_get, slice_set}
use Rattle.std.proofs.lemmas.Bool.{cases_eq, cases_Bool}
use Rattle.pool_law.specs.declared.id.RootId.{RootId}
use Rattle.pool_law.specs.Same.{same_root}
use Rattle.pool_law.proofs.ListLemmas.{slice_get-set_same, slice_get-set_other, slice_get-below}
use Rattle.pool_law.proofs.SameLemmas.{same_root-is}
use Rattle.pool_member.specs.declared.counts.Counted.{Counted}
use Rattle.pool_member.specs.Counting.{counted, if_counted, if_told, known, told}
use Rattle.pool_member.proofs.CountLaws.{written}
use Rattle.seat_work.proofs.Counting.{other_place, zero_if}

-- orders of what is equal to other things
pub same_least : (a b : ℕ) → a ≡ b → a ≤ b
same_least a b e = omega (arith, e)

pub most_by : (k a b : ℕ) → a ≤ b → max k a ≤ max k b
most_by k a b le = omega (arith, le)

pub least_by : (a b c d : ℕ) → a ≡ b → b ≤ c → c ≡ d → a ≤ d
least_by a b c d e le f = omega (arith, e, le, f)

module _ (cs : List Counted) (root : RootId) (c : Counted) (at : slice_get cs root.place ≡ Some c) where
  told_here : (other : RootId) → other.place ≡ root.place
      → told cs other ≡ (if same_root c.root other then c.told else 0)
  told_here other e = ap (λ o. if_told o other) (ap (slice_get cs) e ∙ at)

  told_there : (x : Counted) (other : RootId) → other.place ≡ root.place
      → told (slice_set cs root.place x) other ≡ (if same_root x.root other then x.told else 0)
  told_there x other e =
      ap (λ o. if_told o other) (ap (slice_get (slice_set cs root.place x)) e
      ∙ slice_get-set_same cs root.place x (slice_get-below cs root.place c at))

  told_else : (x : Counted) (other : RootId) → other.place ≢ root.place
      → told (slice_set cs root.place x) other ≡ told cs other
  told_else x other ne = ap (λ o. if_told o other) (slice_get-set_other cs root.place other.place x ne)

  -- as much was told of the same root
  pub told_same : (x : Counted) → x.root ≡ c.root → x.told ≡ c.told → (other : RootId)
      → told (slice_set cs root.place x) other ≡ told cs other
  told_same x is same other = ⊎_elim
      (λ (e : other.place ≡ root.place). told_there x other e
      ∙ (λ i. if same_root (is i) other then same i else 0) ∙ sym (told_here other e))
      (λ (ne : other.place ≢ root.place). told_else x other ne)
      (cases_eq other.place root.place)

  -- nothing was told of the root that takes the place of another one
  pub told_less : (x : Counted) → x.told ≡ 0 → (other : RootId)
      → told (slice_set cs root.place x) other ≤ told cs other
  told_less x none other = ⊎_elim
      (λ (e : other.place ≡ root.place). let a = told_there x other e in
      let b = zero_if (same_root x.root other) x.told none in omega (arith, a, b))
      (λ (ne : other.place ≢ root.place). let a = told_else x other ne in omega (arith, a))
      (cases_eq other.place root.place)

  none_other : (x : Counted) → x.root ≡ root → (other : RootId) → other.place ≡ root.place
      → same_root root other ≡ false → counted (slice_set cs root.place x) other ≡ 0
  none_other x is other e apart =
      written cs root c at x other e ∙ ap (λ (r : RootId). if same_root r other then x.count else 0) is
      ∙ ap (λ (b : Bool). if b then x.count else 0) apart

  pub told_kept : (x : Counted) → x.root ≡ root → same_root c.root root ≡ false → (other : RootId)
      → 0 < counted (slice_set cs root.place x) other → told cs other ≤ told (slice_set cs root.place x) other
  told_kept x is differs other lt = ⊎_elim same
      (λ (ne : other.place ≢ root.place). let a = told_else x other ne in omega (arith, a))
      (cases_eq other.place root.place)
    where
      same : other.place ≡ root.place → told cs other ≤ told (slice_set cs root.place x) other
      same e = ⊎_elim
          (λ (equal : same_root root other ≡ true). let before : told cs other ≡ 0 = told_here other e
          ∙ ap (λ (r : RootId). if same_root c.root r then c.told else 0) (sym (same_root-is root other equal))
          ∙ ap (λ (b : Bool). if b then c.told else 0) differs in omega (arith, before))
          (λ (apart : same_root root other ≡ false). absurd (omega (arith, none_other x is other e apart, lt)))
          (cases_Bool (same_root root other))

  -- no more was told of the root that takes the place than its name says
  pub known_kept : (x : Counted) → x.root ≡ root → told cs root ≤ root.capacity → (other : RootId)
      → 0 < counted (slice_set cs root.place x) other → known cs other ≤ known (slice_set cs root.place x) other
  known_kept x is low other lt = ⊎_elim same
      (λ (ne : other.place ≢ root.place). most_by _ _ _ (same_least _ _ (sym (told_else x other ne))))
      (cases_eq other.place root.place)
    where
      least : known cs root ≤ known (slice_set cs root.place x) root
      least = omega (arith, low)

      same : other.place ≡ root.place → known cs other ≤ known (slice_set cs root.place x) other
      same e = ⊎_elim
          (λ (equal : same_root root other ≡ true).
          subst (λ (r : RootId). known cs r ≤ known (slice_set cs root.place x) r) (same_root-is root other equal)
          least)
          (λ (apart : same_root root other ≡ false). absurd (omega (arith, none_other x is other e apart, lt)))
          (cases_Bool (same_root root other))

  -- more was told of the root
  pub told_more : (x : Counted) (capacity : ℕ) → c.root ≡ root → x.root ≡ c.root → x.told ≡ max c.told capacity
      → (other : RootId) → told (slice_set cs root.place x) other
      ≡ max (told cs other) (if same_root root other then capacity else 0)
  told_more x capacity here is more other = ⊎_elim same different (cases_eq other.place root.place)
    where
      different : other.place ≢ root.place → told (slice_set cs root.place x) other
          ≡ max (told cs other) (if same_root root other then capacity else 0)
      different ne =
          let a = told_else x other ne in
          let none : (if same_root root other then capacity else 0) ≡ 0 =
          ap (λ (b : Bool). if b then capacity else 0) (other_place root other ne) in
          omega (arith, a, none)

      same : other.place ≡ root.place → told (slice_set cs root.place x) other
          ≡ max (told cs other) (if same_root root other then capacity else 0)
      same e =
          go (same_root root other)
          (told_there x other e ∙ ap (λ (r : RootId). if same_root r other then x.told else 0) (is ∙ here))
          (told_here other e ∙ ap (λ (r : RootId). if same_root r other then c.told else 0) here)
        where
          go : (b : Bool) → told (slice_set cs root.place x) other ≡ (if b then x.told else 0)
              → told cs other ≡ (if b then c.told else 0)
              → told (slice_set cs root.place x) other ≡ max (told cs other) (if b then capacity else 0)
          go true new old = omega (arith, new, old, more)
          go false new old = omega (arith, new, old)

-- what is at the place of a root that is counted is that root
pub counted_here : (cs : List Counted) (root : RootId) (c : Counted) → slice_get cs root.place ≡ Some c
    → 0 < counted cs root → c.root ≡ root
counted_here cs root c at lt = go (same_root c.root root) refl (subst (λ o. 0 < if_counted o root) at lt)
  where
    go : (b : Bool) → same_root c.root root ≡ b → 0 < (if b then c.count else 0) → c.root ≡ root
    go true equal lt = same_root-is c.root root equal
    go false differs lt = absurd (omega (arith, lt))
