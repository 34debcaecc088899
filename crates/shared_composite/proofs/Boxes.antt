-- Cores in boxes, in the slots of a board: in order, and as home values.
use Rattle.std.proofs.Common.{◌≡◌, ℕ, zero, suc, ◌<◌, List, [], ◌∷◌, length, map, sym, refl, ap, ◌∙◌, subst, arith}
use Rattle.std.specs.Prelude.{Option, Some, None, All, filter_map, slice_get, box_value}
use Rattle.std.proofs.lemmas.List.Elements.{All-head, All-tail}
use Rattle.shared_composite.specs.declared.cores.Core.{Core}
use Rattle.shared_composite.specs.declared.home.Home.{Home}
use Rattle.shared_composite.specs.Homes.{core_in_slot, cores_in}

-- the places of slots
pub places_are : (slots : List (Option Home))
    → cores_in slots ≡ filter_map (λ (x : Option Core). x) (map core_in_slot slots)
places_are [] = refl
places_are (None ∷ ys) = places_are ys
places_are (Some home ∷ ys) = ap (λ (l : List Core). box_value home.core ∷ l) (places_are ys)

pub place_at : (slots : List (Option Home)) (k : ℕ) (x : Option Home) → slice_get slots k ≡ Some x
    → slice_get (map core_in_slot slots) k ≡ Some (core_in_slot x)
place_at [] k x e = absurd (cc e)
place_at (y ∷ ys) zero x e = ap (λ (z : Option (Option Home)). at z) e
  where
    at : Option (Option Home) → Option (Option Core)
    at None = None
    at (Some z) = Some (core_in_slot z)
place_at (y ∷ ys) (suc k) x e = place_at ys k x e

-- ---- Of each core its slot.

none_some : {A : Type 0} (x : A) → ◌≡◌ {A = Option A} None (Some x) → ⊥
none_some x e = cc e

some_same : {A : Type 0} (x y : A) → ◌≡◌ {A = Option A} (Some x) (Some y) → x ≡ y
some_same x y e = cc e

first_same : {A : Type 0} (x y : A) (xs ys : List A) → ◌≡◌ {A = List A} (x ∷ xs) (y ∷ ys) → x ≡ y
first_same x y xs ys e = cc e

rest_same : {A : Type 0} (x y : A) (xs ys : List A) → ◌≡◌ {A = List A} (x ∷ xs) (y ∷ ys) → xs ≡ ys
rest_same x y xs ys e = cc e

-- where each element of one list comes to that of the other, the elements at one place do
place_of : {A B : Type 0} (f : A → Option B) (P : B → Type 0) (ys : List B) (xs : List A) → map f xs ≡ map Some ys
    → All P ys → (k : ℕ) → k < length xs
    → (x : A) × (y : B) × (slice_get xs k ≡ Some x) × (slice_get ys k ≡ Some y) × (f x ≡ Some y) × P y
place_of f P ys [] e all k lt = absurd (omega (arith, lt))
place_of f P [] (x ∷ xs) e all k lt = absurd (cc e)
place_of f P (y ∷ ys) (x ∷ xs) e all zero lt =
    (x, y, refl, refl, first_same (f x) (Some y) (map f xs) (map Some ys) e, All-head P y ys all)
place_of f P (y ∷ ys) (x ∷ xs) e all (suc k) lt =
    let same = rest_same (f x) (Some y) (map f xs) (map Some ys) e in
    place_of f P ys xs same (All-tail P y ys all) k (omega (arith, lt))

-- a slot that has a core
slot_of : (slot : Option Home) (core : Core) → core_in_slot slot ≡ Some core
    → (x : Home) × (slot ≡ Some x) × (box_value x.core ≡ core)
slot_of None core e = absurd (none_some core e)
slot_of (Some x) core e = (x, refl, some_same (box_value x.core) core e)

-- the home value of each core
pub box_at : (P : Core → Type 0) (cores : List Core) (slots : List (Option Home))
    → map core_in_slot slots ≡ map Some cores → All P cores → (k : ℕ) → k < length slots
    → (x : Home) × (slice_get slots k ≡ Some (Some x)) × (slice_get cores k ≡ Some (box_value x.core))
    × P (box_value x.core)
box_at P cores slots e all k lt =
    let at = place_of core_in_slot P cores slots e all k lt in let slot = slot_of at.0 at.1 at.4 in
    (slot.0, at.2 ∙ ap Some slot.1, at.3 ∙ ap Some (sym slot.2), subst P (sym slot.2) at.5)

-- as many slots as cores
pub boxed_length : (cores : List Core) (slots : List (Option Home)) → map core_in_slot slots ≡ map Some cores
    → length slots ≡ length cores
boxed_length [] [] e = refl
boxed_length [] (y ∷ ys) e = absurd (cc e)
boxed_length (c ∷ cs) [] e = absurd (cc e)
boxed_length (c ∷ cs) (y ∷ ys) e =
    let f : map core_in_slot ys ≡ map Some cs = cc e in ap suc (boxed_length cs ys f)

-- and just these cores are in them
pub boxed_cores : (cores : List Core) (slots : List (Option Home)) → map core_in_slot slots ≡ map Some cores
    → cores_in slots ≡ cores
boxed_cores [] [] e = refl
boxed_cores [] (y ∷ ys) e = absurd (cc e)
boxed_cores (c ∷ cs) [] e = absurd (cc e)
boxed_cores (c ∷ cs) (None ∷ ys) e = absurd (let f : ◌≡◌ {A = Option Core} None (Some c) = cc e in cc f)
boxed_cores (c ∷ cs) (Some x ∷ ys) e =
    let f : ◌≡◌ {A = Option Core} (Some (box_value x.core)) (Some c) = cc e in let g : box_value x.core ≡ c = cc f in
    let t : map core_in_slot ys ≡ map Some cs = cc e in λ i. g i ∷ boxed_cores cs ys t i

-- ---- One core out of its slot, and one into it.
