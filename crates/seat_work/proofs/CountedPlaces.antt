-- Lists that count one root a place: where they count nothing, and once the count at a place has changed.
use Rattle.std.proofs.Common.{◌≡◌, ◌≢◌, ℕ, zero, suc, ◌+◌, ◌<◌, Bool, true, false, List, [], ◌∷◌, length, refl, sym, ap, ◌∙◌, subst, ⊎_elim, arith, Some, None}
use Rattle.std.specs.Prelude.{Option, if◌then◌else◌, slice_get, slice_set}
use Rattle.std.proofs.lemmas.Bool.{cases_eq, cases_Bool}
use Rattle.pool_law.specs.declared.id.RootId.{RootId}
use Rattle.pool_law.specs.Same.{same_root}
use Rattle.pool_law.proofs.ListLemmas.{slice_get-set_same, slice_get-set_other, slice_get-below}
use Rattle.pool_law.proofs.SameLemmas.{same_root-is}
use Rattle.seat_work.specs.Changes.{one_for}
use Rattle.seat_work.proofs.Counting.{other_place, other_root}

-- what a list counts of a root is told by the item at the root's place, which counts its own root alone
module _ {C : Type 0} (root_of : C → RootId) (count_of : C → ℕ) (value : Option C → RootId → ℕ)
    (no_item : (root : RootId) → value None root ≡ 0)
    (item : (c : C) (root : RootId) → value (Some c) root ≡ (if same_root (root_of c) root then count_of c else 0))
  where
    abbrev pub counted : List C → RootId → ℕ
    counted cs root = value (slice_get cs root.place) root

    -- the place of a root that is counted is there
    within_by : (cs : List C) (n : ℕ) (root : RootId) → 0 < value (slice_get cs n) root → n < length cs
    within_by [] n root lt =
        let some : 0 < value None root = lt in let none = no_item root in absurd (omega (arith, some, none))
    within_by (c ∷ cs) zero root lt = omega arith
    within_by (c ∷ cs) (suc n) root lt = let ih : n < length cs = within_by cs n root lt in omega arith

    pub counted_within : (cs : List C) (root : RootId) → 0 < counted cs root → root.place < length cs
    counted_within cs root lt = within_by cs root.place root lt

    -- what is at the place of a root that is counted is counted
    pub at_counted : (cs : List C) (root : RootId) (c : C) → slice_get cs root.place ≡ Some c → 0 < counted cs root
        → 0 < count_of c
    at_counted cs root c at lt =
        go (same_root (root_of c) root)
        (subst (λ (k : ℕ). 0 < k) (item c root) (subst (λ (o : Option C). 0 < value o root) at lt))
      where
        go : (b : Bool) → 0 < (if b then count_of c else 0) → 0 < count_of c
        go true lt = lt
        go false lt = absurd (omega (arith, lt))

    module _ (cs : List C) (root : RootId) (c : C) (at : slice_get cs root.place ≡ Some c) where
      within : root.place < length cs
      within = slice_get-below cs root.place c at

      -- what is counted at the root's place before and after a write there, and elsewhere
      pub here : (other : RootId) → other.place ≡ root.place
          → counted cs other ≡ (if same_root (root_of c) other then count_of c else 0)
      here other e = ap (λ o. value o other) (ap (slice_get cs) e ∙ at) ∙ item c other

      pub written : (x : C) (other : RootId) → other.place ≡ root.place
          → counted (slice_set cs root.place x) other ≡ (if same_root (root_of x) other then count_of x else 0)
      written x other e =
          ap (λ o. value o other) (ap (slice_get (slice_set cs root.place x)) e
          ∙ slice_get-set_same cs root.place x within) ∙ item x other

      elsewhere : (x : C) (other : RootId) → other.place ≢ root.place
          → counted (slice_set cs root.place x) other ≡ counted cs other
      elsewhere x other ne = ap (λ o. value o other) (slice_get-set_other cs root.place other.place x ne)

      -- the root is counted once more, and was the only one that is counted there
      pub added : ((other : RootId) → other.place ≡ root.place → 0 < counted cs other → other ≡ root) → (x : C)
          → root_of x ≡ root → count_of x ≡ counted cs root + 1 → (other : RootId)
          → counted (slice_set cs root.place x) other ≡ counted cs other + one_for root other
      added alone x is count other = ⊎_elim same different (cases_eq other.place root.place)
        where
          different : other.place ≢ root.place → counted (slice_set cs root.place x) other
              ≡ counted cs other + one_for root other
          different ne =
              let none : one_for root other ≡ 0 = ap (λ (b : Bool). if b then 1 else 0) (other_place root other ne) in
              let kept = elsewhere x other ne in
              omega (arith, none, kept)

          same : other.place ≡ root.place → counted (slice_set cs root.place x) other
              ≡ counted cs other + one_for root other
          same e = ⊎_elim itself another (cases_Bool (same_root root other))
            where
              new : counted (slice_set cs root.place x) other ≡ (if same_root root other then count_of x else 0)
              new = written x other e ∙ ap (λ r. if same_root r other then count_of x else 0) is

              itself : same_root root other ≡ true → counted (slice_set cs root.place x) other
                  ≡ counted cs other + one_for root other
              itself equal =
                  let now : counted (slice_set cs root.place x) other ≡ count_of x = new
                  ∙ ap (λ (b : Bool). if b then count_of x else 0) equal in
                  let one : one_for root other ≡ 1 = ap (λ (b : Bool). if b then 1 else 0) equal in
                  let before = ap (counted cs) (same_root-is root other equal) in
                  omega (arith, now, one, before, count)

              another : same_root root other ≡ false → counted (slice_set cs root.place x) other
                  ≡ counted cs other + one_for root other
              another differs =
                  let now : counted (slice_set cs root.place x) other ≡ 0 = new
                  ∙ ap (λ (b : Bool). if b then count_of x else 0) differs in
                  let none : one_for root other ≡ 0 = ap (λ (b : Bool). if b then 1 else 0) differs in
                  let before : counted cs other ≡ 0 = ⊎_elim (λ (z : counted cs other ≡ 0). z)
                  (λ (ne : counted cs other ≡ 0 → ⊥). absurd
                  (other_root root other differs (alone other e (omega (arith, ne)))))
                  (cases_eq (counted cs other) 0) in
                  omega (arith, now, none, before)

      -- the same root is counted as often as it was
      pub counted_same : (x : C) → root_of x ≡ root_of c → count_of x ≡ count_of c → (other : RootId)
          → counted (slice_set cs root.place x) other ≡ counted cs other
      counted_same x is same other = ⊎_elim
          (λ (e : other.place ≡ root.place). written x other e ∙ (λ i. if same_root (is i) other then same i else 0)
          ∙ sym (here other e))
          (λ (ne : other.place ≢ root.place). elsewhere x other ne)
          (cases_eq other.place root.place)

      -- the root is counted, and is now counted once less
      pub taken : 0 < counted cs root → (x : C) → root_of x ≡ root_of c → count_of x + 1 ≡ count_of c → (other : RootId)
          → counted (slice_set cs root.place x) other + one_for root other ≡ counted cs other
      taken lt x is count other = ⊎_elim same different (cases_eq other.place root.place)
        where
          root_is : root_of c ≡ root
          root_is = ⊎_elim
              (λ (equal : same_root (root_of c) root ≡ true). same_root-is (root_of c) root equal)
              (λ (differs : same_root (root_of c) root ≡ false). let none : counted cs root ≡ 0 = here root refl
              ∙ ap (λ (b : Bool). if b then count_of c else 0) differs in absurd (omega (arith, none, lt)))
              (cases_Bool (same_root (root_of c) root))

          different : other.place ≢ root.place → counted (slice_set cs root.place x) other + one_for root other
              ≡ counted cs other
          different ne =
              let none : one_for root other ≡ 0 = ap (λ (b : Bool). if b then 1 else 0) (other_place root other ne) in
              let kept = elsewhere x other ne in
              omega (arith, none, kept)

          same : other.place ≡ root.place → counted (slice_set cs root.place x) other + one_for root other
              ≡ counted cs other
          same e = go (same_root root other) refl
            where
              go : (b : Bool) → same_root root other ≡ b
                  → counted (slice_set cs root.place x) other + one_for root other ≡ counted cs other
              go b equal =
                  sums b
                  (written x other e ∙ ap (λ (r : RootId). if same_root r other then count_of x else 0) (is ∙ root_is)
                  ∙ ap (λ (t : Bool). if t then count_of x else 0) equal)
                  (here other e ∙ ap (λ (r : RootId). if same_root r other then count_of c else 0) root_is
                  ∙ ap (λ (t : Bool). if t then count_of c else 0) equal)
                  (ap (λ (t : Bool). if t then 1 else 0) equal)
                where
                  sums : (b : Bool) → counted (slice_set cs root.place x) other ≡ (if b then count_of x else 0)
                      → counted cs other ≡ (if b then count_of c else 0) → one_for root other ≡ (if b then 1 else 0)
                      → counted (slice_set cs root.place x) other + one_for root other ≡ counted cs other
                  sums true new old one = omega (arith, new, old, one, count)
                  sums false new old one = omega (arith, new, old, one)
