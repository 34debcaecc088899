-- The numbers of one list: they differ, so there is room for one that is not among them.
use Rattle.std.proofs.Common.{◌≡◌, ℕ, ◌<◌, ◌≤◌, ⊎_elim, List, [], ◌∷◌, length, refl, sym, ap, arith, true, false, nat_eq, ◌∙◌, eqb-true}
use Rattle.std.specs.Prelude.{◌==◌, ◌||◌, not, if◌then◌else◌}
use Rattle.std.specs.List.{IsDistinct, AllByRecursion, list_any}
use Rattle.std.proofs.lemmas.Bool.{cases_Bool, cond_both, or_parts}
use Rattle.std.proofs.lemmas.Cmp.{nat_eq_equiv}
use Rattle.std.proofs.lemmas.Map.Keys.{IsDistinct-cons}
use Rattle.pool_law.specs.ChunkLists.{has, without}
use Rattle.pool_law.proofs.NumberLemmas.{listed-turned, different-within, none_distinct}
use Rattle.chunk_list.specs.Kept.{AreDifferent, AreBelow}

-- a number that is not in the list differs from each that is
all-apart : (c : ℕ) (xs : List ℕ) → has c xs ≡ false → AllByRecursion (λ x. nat_eq c x ≡ false) xs
all-apart c [] none = tt
all-apart c (x ∷ xs) none =
    let parts = or_parts (x == c) (has c xs) none in
    (nat_eq_equiv.symm c x ∙ parts.0, all-apart c xs parts.1)

as-distinct : (xs : List ℕ) → AreDifferent xs → IsDistinct nat_eq xs
as-distinct [] d = none_distinct
as-distinct (x ∷ xs) d = IsDistinct-cons nat_eq x xs (all-apart x xs d.0) (as-distinct xs d.1)

-- what is in the list is below its limit
member-below : (limit q : ℕ) (xs : List ℕ) → AreBelow limit xs → list_any (nat_eq q) xs ≡ true → q < limit
member-below limit q [] below there = absurd (cc there)
member-below limit q (x ∷ xs) below there =
    ⊎_elim
    (λ same. let is : q ≡ x = eqb-true q x same in omega (arith, is, below.0))
    (λ other. member-below limit q xs below.1 (sym (ap (λ b. b || list_any (nat_eq q) xs) other) ∙ there))
    (cases_Bool (nat_eq q x))

pub below_limit : (limit c : ℕ) (xs : List ℕ) → AreBelow limit xs → has c xs ≡ true → c < limit
below_limit limit c xs below there = member-below limit c xs below (listed-turned c xs ∙ there)

-- there are no more numbers than places
pub most_places : (places : ℕ) (xs : List ℕ) → AreDifferent xs → AreBelow places xs → length xs ≤ places
most_places places xs different below =
    omega (
      arith,
      different-within 0 places xs (as-distinct xs different)
          (λ q there.
          let within : q < places = member-below places q xs below there in
          (omega arith, omega (arith, within))),
    )

-- there is a place for a number that is not in the list
pub has_room : (places c : ℕ) (xs : List ℕ) → AreDifferent xs → AreBelow places xs → c < places → has c xs ≡ false →
    length xs < places
has_room places c xs different below place new =
    let most : length (c ∷ xs) ≤ places =
    different-within 0 places (c ∷ xs) (as-distinct (c ∷ xs) (new, different))
    (λ q there.
    let within : q < places = member-below places q (c ∷ xs) (place, below) there in
    (omega arith, omega (arith, within))) in
    omega (arith, most)

-- a number that is not in the list is not in a part of it
pub has-without_other : (c d : ℕ) (xs : List ℕ) → has d xs ≡ false → has d (without c xs) ≡ false
has-without_other c d [] none = refl
has-without_other c d (x ∷ xs) none =
    let rest : has d (without c xs) ≡ false = has-without_other c d xs (or_parts (x == d) (has d xs) none).1 in
    cond_both (not (x == c)) (x ∷ without c xs) (without c xs) (λ z. has d z ≡ false)
    (λ _. ap (λ b. b || has d (without c xs)) (or_parts (x == d) (has d xs) none).0 ∙ rest)
    (λ _. rest)

-- a number that is not in the list leaves it as it is
pub without-absent : (c : ℕ) (xs : List ℕ) → has c xs ≡ false → without c xs ≡ xs
without-absent c [] none = refl
without-absent c (x ∷ xs) none =
    ap (λ b. if not b then x ∷ without c xs else without c xs) (or_parts (x == c) (has c xs) none).0
    ∙ ap (λ ys. x ∷ ys) (without-absent c xs (or_parts (x == c) (has c xs) none).1)

pub different-without : (c : ℕ) (xs : List ℕ) → AreDifferent xs → AreDifferent (without c xs)
different-without c [] d = tt
different-without c (x ∷ xs) d =
    cond_both (not (x == c)) (x ∷ without c xs) (without c xs) AreDifferent
    (λ _. (has-without_other c x xs d.0, different-without c xs d.1))
    (λ _. different-without c xs d.1)

pub below-without : (limit c : ℕ) (xs : List ℕ) → AreBelow limit xs → AreBelow limit (without c xs)
below-without limit c [] b = tt
below-without limit c (x ∷ xs) b =
    cond_both (not (x == c)) (x ∷ without c xs) (without c xs) (AreBelow limit)
    (λ _. (b.0, below-without limit c xs b.1))
    (λ _. below-without limit c xs b.1)
