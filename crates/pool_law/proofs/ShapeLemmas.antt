-- The limits of a shape hold in one way, so that a struct can keep that they do.
use Rattle.std.proofs.Common.{◌≡◌, ◌⊎◌, ℕ, ap, arith}
use Rattle.std.specs.Coded.{le_prop, Coded-set, coded_ℕ}
use Rattle.size_classes.specs.Sizes.{IsPage}
use Rattle.pool_law.specs.declared.run.Shape.{Shape}
use Rattle.pool_law.specs.Limits.{IsShape}
use mathlib.Core.Logic.{inl, inr}

-- of two facts that exclude each other, one holds in one way
either-prop : {A B : Type 0} → IsProp A → IsProp B → (A → B → ⊥) → IsProp (A ⊎ B)
either-prop p q apart (inl x) (inl y) = ap inl (p x y)
either-prop p q apart (inl x) (inr y) = absurd (apart x y)
either-prop p q apart (inr x) (inl y) = absurd (apart y x)
either-prop p q apart (inr x) (inr y) = ap inr (q x y)

module _ (page : ℕ) where
  is-prop : (n : ℕ) → IsProp (page ≡ n)
  is-prop n = Coded-set coded_ℕ page n

  last_two : IsProp ((page ≡ 16384) ⊎ (page ≡ 32768))
  last_two = either-prop (is-prop 16384) (is-prop 32768) (λ x y. omega (arith, x, y))

  last_three : IsProp ((page ≡ 8192) ⊎ ((page ≡ 16384) ⊎ (page ≡ 32768)))
  last_three = either-prop (is-prop 8192) last_two apart
    where
      apart : page ≡ 8192 → (page ≡ 16384) ⊎ (page ≡ 32768) → ⊥
      apart x (inl y) = omega (arith, x, y)
      apart x (inr y) = omega (arith, x, y)

  -- a page has one of its sizes in one way
  pub page-prop : IsProp (IsPage page)
  page-prop = either-prop (is-prop 4096) last_three apart
    where
      apart : page ≡ 4096 → (page ≡ 8192) ⊎ ((page ≡ 16384) ⊎ (page ≡ 32768)) → ⊥
      apart x (inl y) = omega (arith, x, y)
      apart x (inr (inl y)) = omega (arith, x, y)
      apart x (inr (inr y)) = omega (arith, x, y)

pub shape-prop : (s : Shape) → IsProp (IsShape s)
shape-prop s = hlevel (le_prop, page-prop s.page)
