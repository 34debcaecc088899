-- A table of machines of which one place changes.
use Rattle.std.proofs.Common.{◌≡◌, ◌≢◌, ◌<◌, ⊎_elim, inl, inr, ℕ, zero, suc, ◌+◌, List, [], ◌∷◌, ◌++◌, drop, set, take, map, Option, Some, None, refl, sym, ap, ◌∙◌, subst, arith}
use Rattle.std.specs.Prelude.{All, slice_get}
use Rattle.std.proofs.lemmas.Bool.{cases_lt}
use Rattle.std.proofs.lemmas.Option.{same_Some}
use Rattle.work_table.specs.Places.{AllStand, BelongsAt, EachCame, IsSameRelation, empties}
use Rattle.work_table.proofs.Places.{at_all, set_cases}

-- a machine goes out
pub empties_out : {M : Type 0} (places : List (Option M)) (i : ℕ) (m : M) → slice_get places i ≡ Some (Some m)
    → empties (set places i None) ≡ empties places + 1
empties_out [] i m e = absurd (cc)
empties_out (Some x ∷ ps) zero m e = omega arith
empties_out (None ∷ ps) zero m e = absurd (cc)
empties_out (Some x ∷ ps) (suc i) m e = empties_out ps i m e
empties_out (None ∷ ps) (suc i) m e = omega (arith, empties_out ps i m e)

-- a machine comes in
pub empties_in : {M : Type 0} (places : List (Option M)) (i : ℕ) (m : M) → slice_get places i ≡ Some None
    → empties (set places i (Some m)) + 1 ≡ empties places
empties_in [] i m e = absurd (cc)
empties_in (Some x ∷ ps) zero m e = absurd (cc)
empties_in (None ∷ ps) zero m e = omega arith
empties_in (Some x ∷ ps) (suc i) m e = empties_in ps i m e
empties_in (None ∷ ps) (suc i) m e = omega (arith, empties_in ps i m e)

pub stand_out : {M : Type 0} (comes : M → M → Type 0) (firsts : List M) (places : List (Option M)) (i : ℕ)
    → AllStand comes firsts places → AllStand comes firsts (set places i None)
stand_out comes firsts places i all j m e =
    ⊎_elim (λ h. absurd (cc)) (λ before. all j m before) (set_cases places i None j (Some m) e)

pub stand_in : {M : Type 0} (comes : M → M → Type 0) (firsts : List M) (places : List (Option M)) (i : ℕ) (m : M)
    → AllStand comes firsts places → BelongsAt comes firsts i m → AllStand comes firsts (set places i (Some m))
stand_in {M} comes firsts places i m all belongs j x e =
    ⊎_elim
    (λ (h : (j ≡ i) × (Some m ≡ Some x)).
    subst (λ (p : ℕ × M). BelongsAt comes firsts p.0 p.1) (λ k. (sym h.0 k, same_Some m x h.1 k)) belongs)
    (λ before. all j x before)
    (set_cases places i (Some m) j (Some x) e)

-- all machines stand at their places
pub all_stand : {M : Type 0} (comes : M → M → Type 0) (firsts machines : List M)
    → EachCame comes firsts machines → AllStand comes firsts (map Some machines)
all_stand {M} comes firsts machines all i m e = all i m (taken machines i m e)
  where
    taken : (machines : List M) (i : ℕ) (m : M) → slice_get (map Some machines) i ≡ Some (Some m)
        → slice_get machines i ≡ Some m
    taken [] i m e = absurd (cc)
    taken (x ∷ xs) zero m e = same_Some _ _ e
    taken (x ∷ xs) (suc i) m e = taken xs i m e

pub empties_full : {M : Type 0} (machines : List M) → empties (map Some machines) ≡ 0
empties_full [] = refl
empties_full (x ∷ xs) = empties_full xs

-- and come out of them
pub each_came : {M : Type 0} (comes : M → M → Type 0) (firsts machines : List M) (places : List (Option M))
    → map Some machines ≡ places → AllStand comes firsts places → EachCame comes firsts machines
each_came {M} comes firsts machines places is all i m e =
    all i m (sym (ap (λ ps. slice_get ps i) is) ∙ put machines i m e)
  where
    put : (machines : List M) (i : ℕ) (m : M) → slice_get machines i ≡ Some m
        → slice_get (map Some machines) i ≡ Some (Some m)
    put [] i m e = absurd (cc)
    put (x ∷ xs) zero m e = ap Some e
    put (x ∷ xs) (suc i) m e = put xs i m e

-- ---- Machines that are moved one by one.

-- the front of a list, and one more
take_more : {X : Type 0} (xs : List X) (n : ℕ) (x : X) → slice_get xs n ≡ Some x → take (suc n) xs ≡ take n xs ++ x ∷ []
take_more [] n x e = absurd (cc)
take_more (y ∷ ys) zero x e = λ k. same_Some y x e k ∷ []
take_more (y ∷ ys) (suc n) x e = λ k. y ∷ take_more ys n x e k

next_take : {X : Type 0} (xs : List X) (n : ℕ) → take (suc n) xs ≡ take (n + 1) xs
next_take xs n =
    let e : suc n ≡ n + 1 = omega arith in
    ap (λ m. take m xs) e

map_snoc : {X : Type 0} (xs : List X) (x : X) → map Some (xs ++ x ∷ []) ≡ map Some xs ++ Some x ∷ []
map_snoc [] x = refl
map_snoc (y ∷ ys) x = λ k. Some y ∷ map_snoc ys x k

-- one more goes to its place
pub seat_more : {X : Type 0} (xs : List X) (n : ℕ) (x : X) → slice_get xs n ≡ Some x
    → map Some (take n xs) ++ Some x ∷ [] ≡ map Some (take (n + 1) xs)
seat_more xs n x e =
    sym (map_snoc (take n xs) x) ∙ ap (λ ys. map Some ys) (sym (take_more xs n x e) ∙ next_take xs n)

-- one more comes out of its place
pub unseat_more : {X : Type 0} (xs : List X) (all : List (Option X)) (n : ℕ) (x : X) → map Some xs ≡ take n all
    → slice_get all n ≡ Some (Some x) → map Some (xs ++ x ∷ []) ≡ take (n + 1) all
unseat_more xs all n x is e =
    map_snoc xs x ∙ ap (λ ys. ys ++ Some x ∷ []) is ∙ sym (take_more all n (Some x) e) ∙ next_take all n

pub empties_rest : {M : Type 0} (places : List (Option M)) → empties places ≡ 0 → empties (drop 1 places) ≡ 0
empties_rest [] e = refl
empties_rest (Some x ∷ ps) e = e
empties_rest (None ∷ ps) e = absurd (omega (arith, e))

-- ---- Machines that have come of others.

-- each machine stands as it stood first
pub came_at_first : {M : Type 0} (comes : M → M → Type 0) (machines : List M) → All (λ m. comes m m) machines
    → EachCame comes machines machines
came_at_first {M} comes machines all i m e = (m, e, at_all (λ (m : M). comes m m) machines all i m e)

-- by another relation that says the same
pub came_by : {M : Type 0} (R S : M → M → Type 0) (firsts machines : List M) → IsSameRelation R S
    → EachCame R firsts machines → EachCame S firsts machines
came_by R S firsts machines same all i m e =
    let at = all i m e in
    (at.0, at.1, (same at.0 m).0 at.2)

pub came_back : {M : Type 0} (R S : M → M → Type 0) (firsts machines : List M) → IsSameRelation R S
    → EachCame S firsts machines → EachCame R firsts machines
came_back R S firsts machines same all i m e =
    let at = all i m e in
    (at.0, at.1, (same at.0 m).1 at.2)

-- ---- Machines that have finished.

-- the machines before a place had finished, and so has the one at it
pub one_more : {M : Type 0} (finished : M → Type 0) (old new : List M) (i k : ℕ) (m : M) → k < i + 1
    → slice_get new k ≡ Some m → ((j : ℕ) → j ≢ i → slice_get new j ≡ slice_get old j)
    → ((j : ℕ) (x : M) → j < i → slice_get old j ≡ Some x → finished x)
    → ((x : M) → slice_get new i ≡ Some x → finished x) → finished m
one_more finished old new i k m below e others before here = elim (cases_lt k i) [
  | inl less ↦
      let apart : k ≢ i = λ same. absurd (omega (arith, less, same)) in
      before k m less (sym (others k apart) ∙ e)
  | inr past ↦
      let at : k ≡ i = omega (arith, below, past) in
      here m (ap (slice_get new) (sym at) ∙ e)
]
