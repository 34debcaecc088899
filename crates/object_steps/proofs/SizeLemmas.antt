-- Sizes of classes that are no classes of a chunk.
use Rattle.std.proofs.Common.{◌≡◌, ◌⊎◌, ℕ, ◌+◌, ◌-◌, ◌*◌, ◌/◌, ◌^◌, ◌<◌, ◌≤◌, Bool, true, false, refl, sym, arith, lit<, lit≤, inl, inr, ◌∙◌}
use Rattle.std.specs.Prelude.{nat_lt}
use Rattle.std.proofs.Math.Nat.{pow-le-pow_right, mul-le-mul_left, mul-le-mul_right, div-le_of_le-mul}
use Rattle.std.proofs.lemmas.Bool.{ltb-true, lt-ltb, le-ltb, cases_lt, agree_below_at}
use Rattle.size_classes.specs.Sizes.{Geometry, IsGeometry, IsPage, of_pages, page_shift, class_count, small_count, size_at, is_small, pages_of, element_count}
use Rattle.size_classes.proofs.Geometries.{by_page, page_shift-is}
use Rattle.size_classes.proofs.SmallClasses.{small_at, small_below}
use Rattle.object_steps.specs.Runs.{IsCapped}

-- what a doubling adds to its base
pub doubling-fits : (step i : ℕ) → step ≤ 4 → i < 112 → step * 2 ^ (4 + (i - 4) / 4) ≤ 2 ^ 32
doubling-fits step i few h =
    let power = pow-le-pow_right {n = 2} (lit< tt) {i = 4 + (i - 4) / 4} {j = 30} (omega arith) in
    let first = mul-le-mul_right {m = step} {n = 4} (2 ^ (4 + (i - 4) / 4)) few in
    let second = mul-le-mul_left {m = 2 ^ (4 + (i - 4) / 4)} {n = 2 ^ 30} 4 power in
    omega (arith, first, second)

pub base-fits : (i : ℕ) → i < 112 → 2 ^ (6 + (i - 4) / 4) ≤ 2 ^ 32
base-fits i h = pow-le-pow_right {n = 2} (lit< tt) {i = 6 + (i - 4) / 4} {j = 32} (omega arith)

-- from here on a size has more than 33 bits
pub size_at-great : (class : ℕ) → 112 ≤ class → 2 ^ 33 ≤ size_at class
size_at-great class more =
    let base = pow-le-pow_right {n = 2} (lit< tt) {i = 33} {j = 6 + (class - 4) / 4} (omega (arith, more)) in
    rw (le-ltb class 4 (omega (arith, more))) (omega (arith, base))

-- the small classes are those below a number
pub small-is : (g : Geometry) → IsPage g.page → (class : ℕ) → nat_lt class (small_count g) ≡ is_small g class
small-is g h class = go (cases_lt class (small_count g)) (is_small g class) refl
  where
    go : (class < small_count g) ⊎ (small_count g ≤ class) → (b : Bool) → is_small g class ≡ b →
        nat_lt class (small_count g) ≡ is_small g class
    go (inl few) b e = lt-ltb class (small_count g) few ∙ sym (small_at g h class few)
    go (inr more) true e = absurd (omega (arith, small_below g h class e, more))
    go (inr more) false e = le-ltb class (small_count g) more ∙ sym e

-- which are at most 47
pub small-few : (g : Geometry) → IsPage g.page → small_count g ≤ 47
small-few g h = omega (arith, (page_shift-is g.page h).most)

-- each of them is a class
pub small-class : (g : Geometry) → IsGeometry g → (class : ℕ) → is_small g class ≡ true → class < class_count g
small-class g h class small =
    omega (arith, small_below g h.page class small, h.least, (page_shift-is g.page h.page).least)

-- a page has at most 2 ^ 15 bytes, and some
pub page-most : (page : ℕ) → IsPage page → page ≤ 2 ^ 15
page-most = by_page (λ page. page ≤ 2 ^ 15) (lit≤ tt) (lit≤ tt) (lit≤ tt) (lit≤ tt)

pages-many : (size page : ℕ) → IsPage page → 2 ^ 33 ≤ size → 2 ^ 16 < (size + (page - 1)) / page
pages-many size page h more =
    by_page (λ page. 2 ^ 16 < (size + (page - 1)) / page)
    (omega (arith, more)) (omega (arith, more)) (omega (arith, more)) (omega (arith, more)) page h

pub pages-capped : (g : Geometry) → IsPage g.page → (class : ℕ) → 112 ≤ class → IsCapped (pages_of g class) 131072
pages-capped g h class more = inr (pages-many (size_at class) g.page h (size_at-great class more), lit< tt)

-- whether a subpage has elements
abbrev has_some : ℕ → ℕ → ℕ → Bool
has_some order page class = nat_lt 0 (element_count (of_pages order page) class)

-- those of the small classes have
some-below : (order page : ℕ) → IsPage page → (class : ℕ) → class < 4 * page_shift page - 13 →
    has_some order page class ≡ true
some-below order =
    by_page (λ page. (class : ℕ) → class < 4 * page_shift page - 13 → has_some order page class ≡ true)
    (λ class few. agree_below_at (has_some order 4096) (λ _. true) 35 class refl few)
    (λ class few. agree_below_at (has_some order 8192) (λ _. true) 39 class refl few)
    (λ class few. agree_below_at (has_some order 16384) (λ _. true) 43 class refl few)
    (λ class few. agree_below_at (has_some order 32768) (λ _. true) 47 class refl few)

pub some-elements : (g : Geometry) → IsPage g.page → (class : ℕ) → class < small_count g → 0 < element_count g class
some-elements g h class few = ltb-true 0 (element_count g class) (some-below g.order g.page h class few)

-- few pages have few bytes
pub bytes-fit : (page pages most : ℕ) → page ≤ 2 ^ 15 → pages ≤ most → page * pages ≤ 2 ^ 15 * most
bytes-fit page pages most h few =
    let first = mul-le-mul_right {m = page} {n = 2 ^ 15} pages h in
    let second = mul-le-mul_left {m = pages} {n = most} (2 ^ 15) few in
    omega (arith, first, second)

-- so a subpage has few elements
pub elements-fit : (page pages size : ℕ) → page ≤ 2 ^ 15 → pages ≤ 7 → 16 ≤ size → page * pages / size ≤ 2 ^ 16
elements-fit page pages size most few more =
    let bytes = bytes-fit page pages 7 most few in
    div-le_of_le-mul size {m = page * pages} {n = 2 ^ 16} (omega (arith, bytes, more))

-- and a small size is small
pub size-few : (class : ℕ) → class < 47 → size_at class < 2 ^ 18
size-few class few =
    ltb-true (size_at class) (2 ^ 18)
    (agree_below_at (λ class. nat_lt (size_at class) (2 ^ 18)) (λ _. true) 47 class refl few)

-- the bytes of elements of such a size are few
pub product-fits : (element size : ℕ) → element ≤ 2 ^ 32 → size ≤ 2 ^ 18 → element * size ≤ 2 ^ 50
product-fits element size few small =
    let first = mul-le-mul_right {m = element} {n = 2 ^ 32} size few in
    omega (arith, first, small)
