-- A chain: where each thing but the first comes next behind one other, and one thing comes next behind each that
-- does not stop, a chain from the first goes through all.
use Rattle.std.proofs.Common.{⊎_elim, inl, inr, ◌≡◌, ℕ, zero, suc, ◌+◌, ◌≤◌, List, [], ◌∷◌, sym, subst, arith}
use Rattle.std.specs.Prelude.{◌⊎◌, ◌<◌}
use Rattle.pool_law.specs.Lives.{IsAmong}

-- each thing but the first comes next behind another, with a higher measure
pub record Rooted (X : Type 0) (Is First : X → Type 0) (Next : X → X → Type 0) (measure : X → ℕ) (bound : ℕ) : Type 0
  where
    pub low : (x : X) → Is x → measure x < bound
    pub rises : (x y : X) → Is x → Is y → Next x y → measure x < measure y
    pub back : (y : X) → Is y → First y ⊎ ((x : X) × Is x × Next x y)

-- behind each that does not stop one thing comes next
pub record Onward (X : Type 0) (Is First Stops : X → Type 0) (Next : X → X → Type 0) : Type 0
  where
    pub step : (x : X) → Is x → Stops x ⊎ ((y : X) × Is y × Next x y)
    pub one : (x y z : X) → Is x → Is y → Is z → Next x y → Next x z → y ≡ z
    pub stops : (x y : X) → Is x → Is y → Stops x → Next x y → ⊥
    pub first : (x y : X) → Is x → Is y → First x → First y → x ≡ y

module _ {X : Type 0} {Is First : X → Type 0} {Next : X → X → Type 0} {measure : X → ℕ} {bound : ℕ}
    (c : Rooted X Is First Next measure bound) where
  -- behind each thing everything begins somewhere
  pub origin : (n : ℕ) (x : X) → Is x → measure x < n → (y : X) × Is y × First y
  origin zero x is less = absurd (omega (arith, less))
  origin (suc n) x is less =
      ⊎_elim (λ f. (x, is, f))
      (λ b. origin n b.0 b.1 (omega (arith, less, c.rises b.0 x b.1 is b.2))) (c.back x is)

module _ {X : Type 0} {Is First Stops : X → Type 0} {Next : X → X → Type 0} {measure : X → ℕ} {bound : ℕ}
    (c : Rooted X Is First Next measure bound) (on : Onward X Is First Stops Next) where
  -- each of these comes next behind the one before it, and the last one stops
  abbrev pub Linked : X → List X → Type 0
  Linked x [] = Stops x
  Linked x (y ∷ ys) = Next x y × (Is y × Linked y ys)

  -- the chain behind a thing
  pub record Behind (x : X) : Type 0 where
    pub later : List X
    pub linked : Linked x later

  pub behind : (fuel : ℕ) (x : X) → Is x → bound ≤ fuel + measure x → Behind x
  behind zero x is enough = absurd (omega (arith, enough, c.low x is))
  behind (suc fuel) x is enough =
      ⊎_elim (λ s. record { later = []; linked = s })
      (λ n.
      let r : Behind n.0 = behind fuel n.0 n.1 (omega (arith, enough, c.rises x n.0 is n.1 n.2)) in
      record { later = n.0 ∷ r.later; linked = (n.2, (n.1, r.linked)) })
      (on.step x is)

  -- with a thing in the chain, what comes next behind it is there too
  next-among : (x : X) (xs : List X) → Is x → Linked x xs → (y z : X) → Is y → Is z → Next y z
      → IsAmong y (x ∷ xs) → IsAmong z xs
  next-among x [] is l y z iy iz n (inl same) =
      absurd (on.stops y z iy iz (subst Stops (sym same) l) n)
  next-among x [] is l y z iy iz n (inr none) = absurd none
  next-among x (u ∷ us) is l y z iy iz n (inl same) =
      inl (on.one x z u is iz l.1.0 (subst (λ w. Next w z) same n) l.0)
  next-among x (u ∷ us) is l y z iy iz n (inr among) = inr (next-among u us l.1.0 l.1.1 y z iy iz n among)

  -- so all is in the chain from the first
  all-among : (t : X) (ts : List X) → Is t → First t → Linked t ts → (n : ℕ) (x : X) → Is x → measure x < n
      → IsAmong x (t ∷ ts)
  all-among t ts it f l zero x is less = absurd (omega (arith, less))
  all-among t ts it f l (suc n) x is less =
      ⊎_elim (λ g. inl (on.first x t is it g f))
      (λ b. inr (next-among t ts it l b.0 x b.1 is b.2
      (all-among t ts it f l n b.0 b.1 (omega (arith, less, c.rises b.0 x b.1 is b.2)))))
      (c.back x is)

  pub record Whole (t : X) : Type 0 where
    pub later : List X
    pub linked : Linked t later
    pub all : (x : X) → Is x → IsAmong x (t ∷ later)

  pub whole : (t : X) → Is t → First t → Whole t
  whole t is f =
      let b : Behind t = behind bound t is (omega arith) in
      record {
        later = b.later;
        linked = b.linked;
        all = λ x ix. all-among t b.later is f b.linked bound x ix (c.low x ix);
      }
