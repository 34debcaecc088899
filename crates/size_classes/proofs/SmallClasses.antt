-- Which classes are small, and that the others are whole pages.
use Rattle.std.proofs.Common.{◌≡◌, ◌⊎◌, ℕ, ◌+◌, ◌-◌, ◌*◌, ◌/◌, ◌%◌, ◌^◌, ◌<◌, ◌≤◌, true, false, refl, sym, ap, ◌∙◌, subst, arith, lit<, eq-eqb}
use Rattle.std.specs.Prelude.{nat_lt}
use Rattle.std.proofs.Math.Nat.{pow-le-pow_right, mul_left_comm, mul_comm}
use Rattle.std.proofs.lemmas.Nat.{pow-add, pow_pos, div-mul-add, shl-shr, mod-mul-add}
use Rattle.std.proofs.lemmas.Bool.{ltb-true, le-ltb, cases_lt, cases_eq, both_ways, agree_below_at}
use Rattle.size_classes.specs.Sizes.{Geometry, IsPage, IsPageClass, of_pages, page_of, page_shift, size_at, sizes, class_count, is_small, small_count, pages_of}
use Rattle.size_classes.proofs.Powers.{length-first_sizes, first_sizes-at}
use Rattle.size_classes.proofs.Geometries.{by_page, page_shift-is}
use Rattle.size_classes.proofs.PageClasses.{Contains-whole_pages}
use mathlib.Core.Logic.{inl, inr}

-- the first classes are small
pub small_at : (g : Geometry) → IsPage g.page → (class : ℕ) → class < small_count g → is_small g class ≡ true
small_at g h =
    by_page (λ page. (class : ℕ) → class < small_count (of_pages g.order page)
    → is_small (of_pages g.order page) class ≡ true)
    (λ class few. agree_below_at (λ class. nat_lt (size_at class) (4 * 4096)) (λ _. true) 35 class refl few)
    (λ class few. agree_below_at (λ class. nat_lt (size_at class) (4 * 8192)) (λ _. true) 39 class refl few)
    (λ class few. agree_below_at (λ class. nat_lt (size_at class) (4 * 16384)) (λ _. true) 43 class refl few)
    (λ class few. agree_below_at (λ class. nat_lt (size_at class) (4 * 32768)) (λ _. true) 47 class refl few)
    g.page h

-- the next is four pages
four_pages : (s class : ℕ) → 12 ≤ s → class ≡ 4 * s - 13 → size_at class ≡ 2 ^ s * 4
four_pages s class least e =
    let past : nat_lt class 4 ≡ false = le-ltb class 4 (omega (arith, least, e)) in
    let doubling : (class - 4) / 4 ≡ s - 5 = omega (arith, least, e) in
    let step : (class - 4) % 4 ≡ 3 = omega (arith, least, e) in
    let base : 2 ^ (6 + (s - 5)) ≡ 2 ^ s * 2 = ap (λ (k : ℕ). 2 ^ k) (omega (arith, least)) ∙ pow-add 2 s 1 in
    let part : 2 ^ (4 + (s - 5)) * 2 ≡ 2 ^ s =
    sym (pow-add 2 (4 + (s - 5)) 1) ∙ ap (λ (k : ℕ). 2 ^ k) (omega (arith, least)) in
    rw (past, doubling, step) (omega (arith, base, part))

-- and those after it are whole pages, in terms of the pages of their doubling
later_size : (s class : ℕ) → 12 ≤ s → 4 * s - 12 ≤ class →
    size_at class ≡ 2 ^ s * (4 * 2 ^ ((class - 4) / 4 + 4 - s) + ((class - 4) % 4 + 1) * 2 ^ ((class - 4) / 4 + 4 - s))
later_size s class least more =
    let j : ℕ = (class - 4) / 4 + 4 - s in
    let step : ℕ = (class - 4) % 4 + 1 in
    let q_from : s ≤ (class - 4) / 4 + 4 = omega (arith, least, more) in
    let past : nat_lt class 4 ≡ false = le-ltb class 4 (omega (arith, least, more)) in
    let base : 2 ^ (6 + (class - 4) / 4) ≡ 2 ^ s * 2 ^ (2 + j) =
    ap (λ (k : ℕ). 2 ^ k) (omega (arith, q_from)) ∙ pow-add 2 s (2 + j) in
    let four : 2 ^ (2 + j) ≡ 4 * 2 ^ j = pow-add 2 2 j in
    let part : 2 ^ (4 + (class - 4) / 4) ≡ 2 ^ s * 2 ^ j =
    ap (λ (k : ℕ). 2 ^ k) (omega (arith, q_from)) ∙ pow-add 2 s j in
    let parts : step * 2 ^ (4 + (class - 4) / 4) ≡ 2 ^ s * (step * 2 ^ j) =
    ap (λ (k : ℕ). step * k) part ∙ mul_left_comm step (2 ^ s) (2 ^ j) in
    rw past (omega (arith, base, parts, ap (λ (k : ℕ). 2 ^ s * k) four))

-- a size from there on, in pages
pub size_at-pages : (s class : ℕ) → 12 ≤ s → 4 * s - 13 ≤ class → (pages : ℕ) × (size_at class ≡ 2 ^ s * pages)
size_at-pages s class least more = go (cases_eq class (4 * s - 13))
  where
    go : (class ≡ 4 * s - 13) ⊎ (class ≡ 4 * s - 13 → ⊥) → (pages : ℕ) × (size_at class ≡ 2 ^ s * pages)
    go (inl e) = (4, four_pages s class least e)
    go (inr ne) =
        let j : ℕ = (class - 4) / 4 + 4 - s in
        (4 * 2 ^ j + ((class - 4) % 4 + 1) * 2 ^ j, later_size s class least (omega (arith, more, ne)))

-- which is at least four of them
normal_from : (s class : ℕ) → 12 ≤ s → 4 * s - 13 ≤ class → 4 * 2 ^ s ≤ size_at class
normal_from s class least more = go (cases_eq class (4 * s - 13))
  where
    go : (class ≡ 4 * s - 13) ⊎ (class ≡ 4 * s - 13 → ⊥) → 4 * 2 ^ s ≤ size_at class
    go (inl e) = omega (arith, four_pages s class least e)
    go (inr ne) =
        let base = pow-le-pow_right {n = 2} (lit< tt) {i = 2 + s} {j = 6 + (class - 4) / 4}
        (omega (arith, least, more, ne)) in
        rw (le-ltb class 4 (omega (arith, least, more))) (omega (arith, base, pow-add 2 2 s))

-- so the small ones are those first ones
pub small_below : (g : Geometry) → IsPage g.page → (class : ℕ) → is_small g class ≡ true → class < small_count g
small_below g h class small = go (cases_lt class (small_count g))
  where
    go : (class < small_count g) ⊎ (small_count g ≤ class) → class < small_count g
    go (inl few) = few
    go (inr more) =
        let shift = page_shift-is g.page h in
        absurd (omega (
          arith,
          ltb-true (size_at class) (4 * page_of g) small,
          normal_from (page_shift g.page) class shift.least more,
          shift.power,
        ))

-- a class that is not small is past them
pub normal_past : (g : Geometry) → IsPage g.page → (class : ℕ) → is_small g class ≡ false → small_count g ≤ class
normal_past g h class normal = go (cases_lt class (small_count g))
  where
    go : (class < small_count g) ⊎ (small_count g ≤ class) → small_count g ≤ class
    go (inl few) = absurd (both_ways (is_small g class) normal (small_at g h class few))
    go (inr more) = more

-- a class that is not small is whole pages
pub normal_pages : (g : Geometry) → IsPage g.page → (class : ℕ) → is_small g class ≡ false →
    (pages : ℕ) × (size_at class ≡ pages * g.page)
normal_pages g h class normal =
    let shift = page_shift-is g.page h in
    let whole = size_at-pages (page_shift g.page) class shift.least (normal_past g h class normal) in
    (whole.0, whole.1 ∙ mul_comm (2 ^ page_shift g.page) whole.0 ∙ ap (λ (p : ℕ). whole.0 * p) shift.power)

-- a page has bytes
pub page-some : (g : Geometry) → IsPage g.page → 0 < g.page
page-some g h = let shift = page_shift-is g.page h in omega (arith, shift.power, pow_pos (page_shift g.page))

-- so many pages rounded up are as many
pages_of-is : (g : Geometry) → IsPage g.page → (class pages : ℕ) → size_at class ≡ pages * g.page
    → pages_of g class ≡ pages
pages_of-is g h class pages e =
    ap (λ (n : ℕ). (n + (g.page - 1)) / g.page) e
    ∙ div-mul-add pages g.page (g.page - 1) (omega (arith, page-some g h))

-- it fills its pages
pub pages_of-whole : (g : Geometry) → IsPage g.page → (class : ℕ) → is_small g class ≡ false →
    pages_of g class * page_of g ≡ size_at class
pages_of-whole g h class normal =
    let whole = normal_pages g h class normal in
    ap (λ (n : ℕ). n * g.page) (pages_of-is g h class whole.0 whole.1) ∙ sym whole.1

-- and they are what a shift gives
pub pages_of-shift : (g : Geometry) → IsPage g.page → (class : ℕ) → is_small g class ≡ false →
    size_at class / 2 ^ page_shift g.page ≡ pages_of g class
pages_of-shift g h class normal =
    let whole = normal_pages g h class normal in
    let shift = page_shift-is g.page h in
    ap (λ (n : ℕ). n / 2 ^ page_shift g.page) (whole.1 ∙ ap (λ (p : ℕ). whole.0 * p) (sym shift.power))
    ∙ shl-shr whole.0 (page_shift g.page)
    ∙ sym (pages_of-is g h class whole.0 whole.1)

-- and a page class
pub pages_of-class : (g : Geometry) → IsPage g.page → (class : ℕ) → class < class_count g → is_small g class ≡ false →
    IsPageClass g (pages_of g class)
pages_of-class g h class there normal =
    let whole = normal_pages g h class normal in
    let size : ℕ = size_at class in
    let multiple : size % g.page ≡ 0 =
    ap (λ (n : ℕ). n % g.page) (whole.1 ∙ omega arith) ∙ mod-mul-add whole.0 g.page 0 (page-some g h) in
    let quotient : size / g.page ≡ pages_of g class =
    ap (λ (n : ℕ). n / g.page) (whole.1 ∙ omega arith) ∙ div-mul-add whole.0 g.page 0 (page-some g h)
    ∙ sym (pages_of-is g h class whole.0 whole.1) in
    subst (IsPageClass g) quotient
    (Contains-whole_pages g.page size class (sizes g) (omega (arith, there, length-first_sizes (class_count g)))
    (first_sizes-at (class_count g) class size there) (eq-eqb (size % g.page) 0 multiple))
