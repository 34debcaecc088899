-- What a lane counts, where it counts nothing, and once the count at a place has changed.
use Rattle.std.proofs.Common.{◌≡◌, ℕ, ◌+◌, ◌<◌, Bool, true, false, List, length, refl, ap, ◌∙◌, arith, Some}
use Rattle.std.specs.Prelude.{if◌then◌else◌, slice_get, slice_set}
use Rattle.pool_law.specs.declared.id.RootId.{RootId}
use Rattle.pool_law.specs.Same.{same_root}
use Rattle.pool_law.proofs.SameLemmas.{same_root-is}
use Rattle.pool_member.specs.declared.counts.Counted.{Counted}
use Rattle.seat_work.specs.Changes.{one_for}
use Rattle.seat_work.proofs.CountedPlaces as places
use Rattle.pool_member.specs.Counting.{if_counted, counted}

-- what an item counts, and of which root
abbrev root_of : Counted → RootId
root_of c = c.root

abbrev count_of : Counted → ℕ
count_of c = c.count

pub counted_within : (cs : List Counted) (root : RootId) → 0 < counted cs root → root.place < length cs
counted_within cs root lt = places.counted_within root_of count_of if_counted (λ _. refl) (λ _ _. refl) cs root lt

module _ (cs : List Counted) (root : RootId) (c : Counted) (at : slice_get cs root.place ≡ Some c) where
  pub written : (x : Counted) (other : RootId) → other.place ≡ root.place
      → counted (slice_set cs root.place x) other ≡ (if same_root x.root other then x.count else 0)
  written = places.written root_of count_of if_counted (λ _. refl) (λ _ _. refl) cs root c at

  -- what is there is this root, or another one
  pub added_again : ((other : RootId) → other.place ≡ root.place → 0 < counted cs other → other ≡ root)
      → same_root c.root root ≡ true → (other : RootId)
      → counted (slice_set cs root.place (record c { count = c.count + 1 })) other
      ≡ counted cs other + one_for root other
  added_again alone equal =
      let before : counted cs root ≡ c.count =
      places.here root_of count_of if_counted (λ _. refl) (λ _ _. refl) cs root c at root refl
      ∙ ap (λ (b : Bool). if b then c.count else 0) equal in
      places.added root_of count_of if_counted (λ _. refl) (λ _ _. refl) cs root c at alone
      (record c { count = c.count + 1 }) (same_root-is c.root root equal)
      (omega (arith, before))

  pub added_first : ((other : RootId) → other.place ≡ root.place → 0 < counted cs other → other ≡ root)
      → same_root c.root root ≡ false → (other : RootId)
      → counted (slice_set cs root.place (record { root = root; count = 1; told = 0; alone = false })) other
      ≡ counted cs other + one_for root other
  added_first alone differs =
      let before : counted cs root ≡ 0 =
      places.here root_of count_of if_counted (λ _. refl) (λ _ _. refl) cs root c at root refl
      ∙ ap (λ (b : Bool). if b then c.count else 0) differs in
      places.added root_of count_of if_counted (λ _. refl) (λ _ _. refl) cs root c at alone
      (record { root = root; count = 1; told = 0; alone = false }) refl (omega (arith, before))

  -- nothing is counted at the place
  pub added_fresh : ((other : RootId) → other.place ≡ root.place → counted cs other ≡ 0)
      → (x : Counted) → x.root ≡ root → x.count ≡ 1 → (other : RootId)
      → counted (slice_set cs root.place x) other ≡ counted cs other + one_for root other
  added_fresh fresh x same one =
      let before : counted cs root ≡ 0 = fresh root refl in
      places.added root_of count_of if_counted (λ _. refl) (λ _ _. refl) cs root c at
      (λ other here some. absurd (let a = fresh other here in omega (arith, a, some))) x same
      (omega (arith, before, one))

  -- the same root is counted as often as it was
  pub counted_same : (x : Counted) → x.root ≡ c.root → x.count ≡ c.count → (other : RootId)
      → counted (slice_set cs root.place x) other ≡ counted cs other
  counted_same = places.counted_same root_of count_of if_counted (λ _. refl) (λ _ _. refl) cs root c at

  -- the root is counted, and is now counted once less
  pub taken : 0 < counted cs root → (x : Counted) → x.root ≡ c.root → x.count + 1 ≡ c.count → (other : RootId)
      → counted (slice_set cs root.place x) other + one_for root other ≡ counted cs other
  taken = places.taken root_of count_of if_counted (λ _. refl) (λ _ _. refl) cs root c at

-- what is at the place of a root that is counted is counted
pub at_counted : (cs : List Counted) (root : RootId) (c : Counted) → slice_get cs root.place ≡ Some c
    → 0 < counted cs root → 0 < c.count
at_counted cs root c at lt = places.at_counted root_of count_of if_counted (λ _. refl) (λ _ _. refl) cs root c at lt
