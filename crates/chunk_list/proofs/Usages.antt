-- Usages: wherever a chunk settles, its usage lies between the least and the greatest of the list.
use Rattle.std.proofs.Common.{◌≡◌, ℕ, ◌<◌, ◌≤◌, List, [], ◌∷◌, subst, arith, true, false, Some, None}
use Rattle.std.specs.Prelude.{nat_le, nat_lt}
use Rattle.std.proofs.lemmas.Bool.{cond_both, leb-true}
use Rattle.std.proofs.lemmas.Bool.Decides.{nat_tests}
use Rattle.pool_law.specs.declared.report.ListName.{ListName}
use Rattle.pool_law.specs.declared.report.ListName.TheVariants.{QInit, Q000, Q025, Q050, Q075, Q100}
use Rattle.pool_law.specs.ChunkLists.{greatest, least, lists_above, lists_below, risen, sunk, down_to}
use Rattle.chunk_list.specs.Settling.{goes_to, IsWithin}
use Rattle.chunk_list.proofs.SettlingLaws.{below-le}

is-below : (n m : ℕ) → nat_lt m n ≡ true → m < n
is-below n m e = grind (arith, nat_tests, e)

not-below : (n m : ℕ) → nat_lt m n ≡ false → n ≤ m
not-below n m e = grind (arith, nat_tests, e)

-- one step up, to a list that begins where this one ends or before
rise : (percent : ℕ) (here next : ListName) (above : List ListName) → least here ≤ percent →
    (greatest here ≤ percent → IsWithin percent (risen percent next above)) →
    IsWithin percent (risen percent here (next ∷ above))
rise percent here next above le further =
    cond_both (nat_le (greatest here) percent) (risen percent next above) here (IsWithin percent)
    (λ up. further (leb-true (greatest here) percent up))
    (λ stays. (le, below-le (greatest here) percent stays))

module _ (percent : ℕ) (most : percent ≤ 100) where
  from_q075 : 75 ≤ percent → IsWithin percent (risen percent Q075 (lists_above Q075))
  from_q075 le = rise percent Q075 Q100 [] le (λ up. (up, omega arith))

  from_q050 : 50 ≤ percent → IsWithin percent (risen percent Q050 (lists_above Q050))
  from_q050 le = rise percent Q050 Q075 (lists_above Q075) le (λ up. from_q075 (omega (arith, up)))

  from_q025 : 25 ≤ percent → IsWithin percent (risen percent Q025 (lists_above Q025))
  from_q025 le = rise percent Q025 Q050 (lists_above Q050) le (λ up. from_q050 (omega (arith, up)))

  from_q000 : 1 ≤ percent → IsWithin percent (risen percent Q000 (lists_above Q000))
  from_q000 le = rise percent Q000 Q025 (lists_above Q025) le (λ up. from_q025 (omega (arith, up)))

  -- a chunk that goes up stops where its usage is within
  pub risen_within : (here : ListName) → least here ≤ percent → IsWithin percent (risen percent here (lists_above here))
  risen_within QInit le = rise percent QInit Q000 (lists_above Q000) le (λ up. from_q000 (omega (arith, up)))
  risen_within Q000 le = from_q000 le
  risen_within Q025 le = from_q025 le
  risen_within Q050 le = from_q050 le
  risen_within Q075 le = from_q075 le
  risen_within Q100 le = (le, omega arith)

-- one step down, to a list that ends where this one begins or after
sink : (percent : ℕ) (here next there : ListName) (below : List ListName) → percent < greatest here →
    (percent < least here → sunk percent next below ≡ Some there → IsWithin percent there) →
    sunk percent here (next ∷ below) ≡ Some there → IsWithin percent there
sink percent here next there below lt further =
    cond_both (nat_lt percent (least here)) (sunk percent next below) (Some here)
    (λ z. z ≡ Some there → IsWithin percent there)
    (λ down e. further (is-below (least here) percent down) e)
    (λ stays e.
    let same : here ≡ there = cc e in
    subst (IsWithin percent) same (not-below (least here) percent stays, lt))

sink-last : (percent : ℕ) (here there : ListName) → percent < greatest here →
    sunk percent here [] ≡ Some there → IsWithin percent there
sink-last percent here there lt =
    cond_both (nat_lt percent (least here)) None (Some here) (λ z. z ≡ Some there → IsWithin percent there)
    (λ _ e. absurd (cc e))
    (λ stays e.
    let same : here ≡ there = cc e in
    subst (IsWithin percent) same (not-below (least here) percent stays, lt))

module _ (percent : ℕ) (there : ListName) where
  to_q000 : percent < 50 → sunk percent Q000 (lists_below Q000) ≡ Some there → IsWithin percent there
  to_q000 lt = sink-last percent Q000 there lt

  to_q025 : percent < 75 → sunk percent Q025 (lists_below Q025) ≡ Some there → IsWithin percent there
  to_q025 lt = sink percent Q025 Q000 there (lists_below Q000) lt (λ down. to_q000 (omega (arith, down)))

  to_q050 : percent < 100 → sunk percent Q050 (lists_below Q050) ≡ Some there → IsWithin percent there
  to_q050 lt = sink percent Q050 Q025 there (lists_below Q025) lt (λ down. to_q025 (omega (arith, down)))

  to_q075 : percent < 100 → sunk percent Q075 (lists_below Q075) ≡ Some there → IsWithin percent there
  to_q075 lt = sink percent Q075 Q050 there (lists_below Q050) lt (λ down. to_q050 (omega (arith, down)))

  -- a chunk that goes down stops where its usage is within
  pub sunk_within : (here : ListName) → percent < greatest here → sunk percent here (lists_below here) ≡ Some there →
      IsWithin percent there
  sunk_within QInit lt = sink-last percent QInit there lt
  sunk_within Q000 lt = to_q000 lt
  sunk_within Q025 lt = to_q025 lt
  sunk_within Q050 lt = to_q050 lt
  sunk_within Q075 lt = to_q075 lt
  sunk_within Q100 lt = sink percent Q100 Q075 there (lists_below Q075) lt (λ down. to_q075 (omega (arith, down)))

least-greatest : (here : ListName) → least here ≤ greatest here
least-greatest QInit = omega arith
least-greatest Q000 = omega arith
least-greatest Q025 = omega arith
least-greatest Q050 = omega arith
least-greatest Q075 = omega arith
least-greatest Q100 = omega arith

-- a chunk that rises stops where its usage is within
pub rises_within : (percent : ℕ) (here : ListName) → percent ≤ 100 → greatest here ≤ percent →
    IsWithin percent (risen percent here (lists_above here))
rises_within percent here most up =
    let order : least here ≤ greatest here = least-greatest here in
    risen_within percent most here (omega (arith, order, up))

-- wherever a chunk goes, its usage is within the list where it stops
pub goes_within : (percent : ℕ) (here there : ListName) → percent ≤ 100 → goes_to percent (Some here) ≡ Some there →
    IsWithin percent there
goes_within percent here there most =
    cond_both (nat_le (greatest here) percent)
    (Some (risen percent here (lists_above here)))
    (down_to percent (Some here))
    (λ z. z ≡ Some there → IsWithin percent there)
    (λ up e.
    let same : risen percent here (lists_above here) ≡ there = cc e in
    subst (IsWithin percent) same (rises_within percent here most (leb-true (greatest here) percent up)))
    (λ stays e. sunk_within percent there here (below-le (greatest here) percent stays) e)
