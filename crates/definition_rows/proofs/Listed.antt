-- The objects and the roots that the notes of a run name, and what holds of the others.
use Rattle.std.proofs.Common.{◌≡◌, List, [], ◌∷◌, Bool, true, false, refl, sym, ap, subst, ◌∙◌}
use Rattle.std.specs.Prelude.{◌||◌, if◌then◌else◌, map}
use Rattle.pool_law.specs.declared.note.Object.{Object}
use Rattle.pool_law.specs.Same.{same_object}
use Rattle.pool_law.proofs.SameLemmas.{same_object-is}

-- an item is in a list, by a test of the same items
abbrev pub listed : {X : Type 0} → (X → X → Bool) → List X → X → Bool
listed same [] x = false
listed same (y ∷ ys) x = same x y || listed same ys x

-- a list with an item that it did not have
abbrev pub added : {X : Type 0} → (X → X → Bool) → X → List X → List X
added same x xs = if listed same xs x then xs else x ∷ xs

module _ {X : Type 0} (same : X → X → Bool) (is : (x y : X) → same x y ≡ true → x ≡ y) where
  -- what two functions have in common for each item of a list
  pub each_listed : {Y : Type 0} (f h : X → Y) (xs : List X) (x : X) → map f xs ≡ map h xs →
      listed same xs x ≡ true → f x ≡ h x
  each_listed f h [] x e in_list = absurd (cc in_list)
  each_listed f h (y ∷ ys) x e in_list =
      let rest : map f ys ≡ map h ys = cc e in
      go (same x y) refl in_list (each_listed f h ys x rest)
    where
      go : (b : Bool) → same x y ≡ b → (b || listed same ys x) ≡ true → (listed same ys x ≡ true → f x ≡ h x) →
          f x ≡ h x
      go true here there later = let first : f y ≡ h y = cc e in subst (λ z. f z ≡ h z) (sym (is x y here)) first
      go false here there later = later there

  -- an item that is not in a list is none of it
  pub not_listed : (xs : List X) (x y : X) → listed same xs x ≡ false → listed same xs y ≡ true → same x y ≡ false
  not_listed xs x y absent present = go (same x y) refl
    where
      go : (b : Bool) → same x y ≡ b → b ≡ false
      go false e = refl
      go true e =
          let both : true ≡ false = sym present ∙ sym (ap (listed same xs) (is x y e)) ∙ absent in absurd (cc both)

  pub not_listed-back : (xs : List X) (x y : X) → listed same xs x ≡ false → listed same xs y ≡ true →
      same y x ≡ false
  not_listed-back xs x y absent present = go (same y x) refl
    where
      go : (b : Bool) → same y x ≡ b → b ≡ false
      go false e = refl
      go true e =
          let both : true ≡ false = sym present ∙ ap (listed same xs) (is y x e) ∙ absent in absurd (cc both)

-- an object that is not in a list is none of it
pub another_object : (objects : List Object) (object other : Object) → listed same_object objects object ≡ false →
    listed same_object objects other ≡ true → same_object object other ≡ false
another_object = not_listed same_object same_object-is

-- what two functions have in common for each object of a list
pub each_object : {X : Type 0} (f h : Object → X) (objects : List Object) (object : Object) →
    map f objects ≡ map h objects → listed same_object objects object ≡ true → f object ≡ h object
each_object f h = each_listed same_object same_object-is f h
