-- Lists that are made or changed item by item, as a new pool's ends are dealt.
use Rattle.std.proofs.Common.{◌≡◌, ℕ, ◌+◌, ◌<◌, ◌≤◌, List, [], ◌∷◌, ◌++◌, length, get_or, set, map, sym, ap, ◌∙◌, subst, arith, ◌⊎◌, inl, inr}
use Rattle.std.specs.Prelude.{HoldsAt}
use Rattle.std.proofs.lemmas.Bool.{cases_lt}
use Rattle.std.proofs.lemmas.List.{get_or_append_left, get_or_push, get_or-set_same, get_or-set_other, get_or-map, length-set}

-- up to a place each item is done, and from there on it is still as it was
pub record SoFar {X : Type 0} (Done Still : ℕ → X → Type 0) (n i : ℕ) (xs : List X) : Type 0 where
  pub many : length xs ≡ n
  pub done : (k : ℕ) → k < i → HoldsAt (Done k) xs k
  pub still : (k : ℕ) → i ≤ k → k < n → HoldsAt (Still k) xs k

module _ {X : Type 0} where
  -- what holds at each place of a list holds at each place of the longer one, if it holds of its last item
  pub holds_push : (P : ℕ → X → Type 0) (n : ℕ) (xs ys : List X) (x : X) → length xs ≡ n
      → ((k : ℕ) → k < n → HoldsAt (P k) xs k) → P n x → ys ≡ xs ++ x ∷ [] →
      (k : ℕ) → k < n + 1 → HoldsAt (P k) ys k
  holds_push P n xs ys x many each here is k lt d = go (cases_lt k n)
    where
      go : (k < n) ⊎ (n ≤ k) → P k (get_or ys k d)
      go (inl below) =
          subst (P k)
          (sym (ap (λ zs. get_or zs k d) is ∙ get_or_append_left xs (x ∷ []) d k (omega (arith, below, many))))
          (each k below d)
      go (inr at) =
          let e : n ≡ k = omega (arith, at, lt) in
          subst (P k) (sym (ap (λ zs. get_or zs k d) is ∙ get_or_push xs x d k (many ∙ e)))
          (subst (λ j. P j x) e here)

  -- one more item is done
  pub so_far_more : (Done Still : ℕ → X → Type 0) (n i : ℕ) (xs ys : List X) (x : X) → SoFar Done Still n i xs → i < n
      → Done i x → ys ≡ set xs i x → SoFar Done Still n (i + 1) ys
  so_far_more Done Still n i xs ys x so lt here is =
      record {
        many = ap length is ∙ (length-set xs i x ∙ so.many);
        done = λ k below d. go k below d (cases_lt k i);
        still = λ k above within d.
            subst (Still k) (sym (other k d (λ e. absurd (omega (arith, e, above)))))
            (so.still k (omega (arith, above)) within d);
      }
    where
      other : (k : ℕ) (d : X) → (k ≡ i → ⊥) → get_or ys k d ≡ get_or xs k d
      other k d off = ap (λ zs. get_or zs k d) is ∙ get_or-set_other xs i k x d off

      go : (k : ℕ) → k < i + 1 → (d : X) → (k < i) ⊎ (i ≤ k) → Done k (get_or ys k d)
      go k below d (inl lower) =
          subst (Done k) (sym (other k d (λ e. absurd (omega (arith, e, lower))))) (so.done k lower d)
      go k below d (inr at) =
          let e : i ≡ k = omega (arith, at, below) in
          subst (λ j. Done j (get_or ys j d)) e
          (subst (Done i)
          (sym (ap (λ zs. get_or zs i d) is ∙ get_or-set_same xs i x d (omega (arith, lt, so.many)))) here)

-- what holds of a list at a place holds of the items of which it is read
pub holds_map : {X Y : Type 0} (f : X → Y) (P : Y → Type 0) (xs : List X) (ys : List Y) (k : ℕ) → map f xs ≡ ys
    → k < length xs → HoldsAt P ys k → HoldsAt (λ x. P (f x)) xs k
holds_map f P xs ys k is lt at d =
    subst P (ap (λ zs. get_or zs k (f d)) (sym is) ∙ get_or-map f xs k d (f d) lt) (at (f d))
