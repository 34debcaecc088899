-- A list whose first item is taken out, and a `Vec` that is written over with its own items.
use Rattle.std.proofs.Common.{◌≡◌, ℕ, ◌<◌, ◌≤◌, List, [], ◌∷◌, length, sym, ap, ◌∙◌, subst, arith, eqb-true}
use Rattle.std.specs.Prelude.{true, false, ◌==◌, remove, slice_index_or}
use Rattle.std.specs.Coded.{le_prop, Coded-set, coded_ℕ}
use Rattle.std.specs.Global.{Vec}
use Rattle.std.specs.Vec.{with_items}
use Rattle.std.proofs.lemmas.List.{with_items_is, nil_from_length}

-- the first of a list, and those behind it
pub first-is : {X : Type 0} (xs : List X) (x : X) (rest : List X) → 0 < length xs → x ≡ slice_index_or xs 0 x
    → rest ≡ remove xs 0 → xs ≡ x ∷ rest
first-is [] x rest lt is behind = absurd (omega (arith, lt))
first-is (y ∷ ys) x rest lt is behind = λ i. sym is i ∷ sym behind i

module _ (v : Vec ℕ) where
  once : IsProp ((v.len ≡ length v.items) × (v.len ≤ v.cap))
  once = hlevel (le_prop, Coded-set coded_ℕ)

  -- one that differs in how it is known that its items have room
  known_anew : (xs : List ℕ) → v.items ≡ xs → (ok : (v.len ≡ length xs) × (v.len ≤ v.cap))
      → v ≡ record v { items = xs; ok = ok }
  known_anew xs same =
      subst (λ (ys : List ℕ). (ok : (v.len ≡ length ys) × (v.len ≤ v.cap)) → v ≡ record v { items = ys; ok = ok }) same
      (λ ok i. record v { ok = once v.ok ok i })

  pub with_own_items : (xs : List ℕ) → xs ≡ v.items → with_items v xs ≡ v
  with_own_items xs same =
      let whole : (with_items v xs).items ≡ v.items =
      with_items_is v xs (ap (λ (ys : List ℕ). length ys) same ∙ sym v.ok.0) ∙ same in
      sym (known_anew (with_items v xs).items (sym whole) (with_items v xs).ok)

-- one of which the length is told to be 0 is empty
pub none-in : {X : Type 0} (v : Vec X) → (v.len == 0) ≡ true → v.items ≡ []
none-in v none = nil_from_length v.items (sym v.ok.0 ∙ eqb-true v.len 0 none)

-- and one of which it isn't has an item
pub some-in : {X : Type 0} (v : Vec X) → (v.len == 0) ≡ false → 0 < length v.items
some-in v some = go v.items (sym some ∙ ap (λ (n : ℕ). n == 0) v.ok.0)
  where
    go : {X : Type 0} (xs : List X) → false ≡ (length xs == 0) → 0 < length xs
    go [] same = absurd (cc same)
    go (x ∷ xs) same = omega arith
