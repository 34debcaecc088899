-- The pages and chunks that a pool can have, one by one.
use Rattle.std.proofs.Common.{◌≡◌, ◌⊎◌, ℕ, zero, suc, ◌+◌, ◌*◌, ◌^◌, ◌<◌, ◌≤◌, refl, sym, ap, ◌∙◌, subst, arith, lit<, lit≤}
use Rattle.std.proofs.Math.Nat.{pow-le-pow_right, mul_comm}
use Rattle.std.proofs.lemmas.Nat.{pow-add}
use Rattle.std.proofs.lemmas.Bool.{cases_lt}
use Rattle.std.specs.Int.{w32, trailing_zeros}
use lib.Count.{count_trailing_zeros}
use Rattle.size_classes.specs.Sizes.{Geometry, IsGeometry, IsPage, page_shift, chunk_bytes, class_count}
use mathlib.Core.Logic.{inl, inr}

-- what holds of each of the four pages, holds of every page
pub by_page : (P : ℕ → Type 0) → P 4096 → P 8192 → P 16384 → P 32768 → (page : ℕ) → IsPage page → P page
by_page P a b c d page (inl e) = subst P (sym e) a
by_page P a b c d page (inr (inl e)) = subst P (sym e) b
by_page P a b c d page (inr (inr (inl e))) = subst P (sym e) c
by_page P a b c d page (inr (inr (inr e))) = subst P (sym e) d

-- what holds of 3 to 11, each by itself, holds of every order
pub by_order : (P : ℕ → Type 0) → P 3 → P 4 → P 5 → P 6 → P 7 → P 8 → P 9 → P 10 → P 11 →
    (order : ℕ) → 3 ≤ order → order ≤ 11 → P order
by_order P a b c d e f g h i zero least most = absurd (omega (arith, least))
by_order P a b c d e f g h i (suc zero) least most = absurd (omega (arith, least))
by_order P a b c d e f g h i (suc (suc zero)) least most = absurd (omega (arith, least))
by_order P a b c d e f g h i (suc (suc (suc n))) least most = from n (omega (arith, most))
  where
    from : (n : ℕ) → n ≤ 8 → P (suc (suc (suc n)))
    from zero most = a
    from (suc zero) most = b
    from (suc (suc zero)) most = c
    from (suc (suc (suc zero))) most = d
    from (suc (suc (suc (suc zero)))) most = e
    from (suc (suc (suc (suc (suc zero))))) most = f
    from (suc (suc (suc (suc (suc (suc zero)))))) most = g
    from (suc (suc (suc (suc (suc (suc (suc zero))))))) most = h
    from (suc (suc (suc (suc (suc (suc (suc (suc zero)))))))) most = i
    from (suc (suc (suc (suc (suc (suc (suc (suc (suc n))))))))) most = absurd (omega (arith, most))

-- the page is that power of two
pub record IsShift (page shift : ℕ) : Type 0 where
  pub least : 12 ≤ shift
  pub most : shift ≤ 15
  pub power : 2 ^ shift ≡ page

pub page_shift-is : (page : ℕ) → IsPage page → IsShift page (page_shift page)
page_shift-is =
    by_page (λ page. IsShift page (page_shift page))
    (record { least = lit≤ tt; most = lit≤ tt; power = refl })
    (record { least = lit≤ tt; most = lit≤ tt; power = refl })
    (record { least = lit≤ tt; most = lit≤ tt; power = refl })
    (record { least = lit≤ tt; most = lit≤ tt; power = refl })

-- which the machine counts
pub page_shift-zeros : (page : ℕ) → IsPage page → trailing_zeros w32 page ≡ page_shift page
unfolding count_trailing_zeros
page_shift-zeros = by_page (λ page. trailing_zeros w32 page ≡ page_shift page) refl refl refl refl

-- a chunk is a power of two
pub chunk-power : (g : Geometry) → IsGeometry g → 2 ^ (g.order + page_shift g.page) ≡ chunk_bytes g
chunk-power g h =
    let power = (page_shift-is g.page h.page).power in
    pow-add 2 g.order (page_shift g.page) ∙ mul_comm (2 ^ g.order) (2 ^ page_shift g.page)
    ∙ ap (λ (p : ℕ). p * 2 ^ g.order) power

-- of 24 at most
pub chunk-small : (g : Geometry) → IsGeometry g → g.order + page_shift g.page ≤ 24
chunk-small g h = go (cases_lt 24 (g.order + page_shift g.page))
  where
    go : (24 < g.order + page_shift g.page) ⊎ (g.order + page_shift g.page ≤ 24) → g.order + page_shift g.page ≤ 24
    go (inl more) =
        absurd (omega (
          arith,
          pow-le-pow_right {n = 2} (lit< tt) {i = 25} {j = g.order + page_shift g.page} (omega (arith, more)),
          chunk-power g h,
          h.chunk,
        ))
    go (inr fine) = fine

-- so there are 40 to 76 classes
pub class_count-least : (g : Geometry) → IsGeometry g → 40 ≤ class_count g
class_count-least g h = omega (arith, h.least, (page_shift-is g.page h.page).least)

pub class_count-most : (g : Geometry) → IsGeometry g → class_count g ≤ 76
class_count-most g h = omega (arith, chunk-small g h)
