-- The class of a request: the first that holds it, and none exactly above the chunk.
use Rattle.std.proofs.Common.{◌≡◌, ℕ, ◌+◌, ◌-◌, ◌*◌, ◌/◌, ◌%◌, ◌^◌, ◌<◌, ◌≤◌, sym, ap, ◌∙◌, arith, Some, None}
use Rattle.std.specs.Prelude.{nat_le}
use Rattle.std.specs.Int.{div_ceil}
use Rattle.std.proofs.lemmas.Nat.{pow-add}
use Rattle.std.proofs.lemmas.Bool.{le-leb, lt-leb, le-ltb}
use Rattle.size_classes.specs.Sizes.{Geometry, IsGeometry, page_shift, chunk_bytes, class_count, size_at, sizes, class_of}
use Rattle.size_classes.specs.PageCounts.{page_count_at, IsFirstAtLeast}
use Rattle.size_classes.proofs.Powers.{length-first_sizes, first_sizes-at, size_at-within}
use Rattle.size_classes.proofs.Searches.{position-at, position-none}
use Rattle.size_classes.proofs.CountLaws.{before-first, size_at-count}
use Rattle.size_classes.proofs.Geometries.{page_shift-is, chunk-power, class_count-most, class_count-least}

-- the last size is the chunk
pub size_at-last : (g : Geometry) → IsGeometry g → size_at (class_count g - 1) ≡ chunk_bytes g
size_at-last g h =
    let o : ℕ = g.order in
    let s : ℕ = page_shift g.page in
    let least = (page_shift-is g.page h.page).least in
    let doubling : (class_count g - 1 - 4) / 4 ≡ o + s - 7 = omega (arith, h.least, least) in
    let step : (class_count g - 1 - 4) % 4 ≡ 3 = omega (arith, h.least, least) in
    let base : 2 ^ (6 + (o + s - 7)) * 2 ≡ 2 ^ (o + s) =
    sym (pow-add 2 (6 + (o + s - 7)) 1) ∙ ap (λ (k : ℕ). 2 ^ k) (omega (arith, h.least, least)) in
    let part : 2 ^ (4 + (o + s - 7)) * 8 ≡ 2 ^ (o + s) =
    sym (pow-add 2 (4 + (o + s - 7)) 3) ∙ ap (λ (k : ℕ). 2 ^ k) (omega (arith, h.least, least)) in
    rw (le-ltb (class_count g - 1) 4 (omega (arith, class_count-least g h)), doubling, step)
    (omega (arith, base, part, chunk-power g h))

-- and no size is more
pub size_at-within_chunk : (g : Geometry) → IsGeometry g → (class : ℕ) → class < class_count g →
    size_at class ≤ chunk_bytes g
size_at-within_chunk g h class there =
    let o : ℕ = g.order in
    let s : ℕ = page_shift g.page in
    let least = (page_shift-is g.page h.page).least in
    let power : 64 * 2 ^ (o + s - 6) ≡ 2 ^ (o + s) =
    sym (pow-add 2 6 (o + s - 6)) ∙ ap (λ (k : ℕ). 2 ^ k) (omega (arith, h.least, least)) in
    omega (arith, size_at-within class (o + s - 6) (omega (arith, there, h.least, least)), power, chunk-power g h)

-- n bytes in units of 16
units-hold : (n : ℕ) → n ≤ 16 * div_ceil n 16
units-hold n = omega arith

units-fit : (n u : ℕ) → u < div_ceil n 16 → 16 * u < n
units-fit n u h = omega (arith, h)

-- the classes before that of the units are less than the request
before-class : (n k j : ℕ) → k ≤ 256 → IsFirstAtLeast (div_ceil n 16) k → j < k → j < 80 → size_at j < n
before-class n k j few first less there =
    let count = before-first (div_ceil n 16) k j few first less in
    omega (arith, size_at-count j there, units-fit n (page_count_at j) count)

-- so it is the class of the request, if the chunk has it
pub class_of-is : (g : Geometry) → IsGeometry g → (n k : ℕ) → k ≤ 256 → IsFirstAtLeast (div_ceil n 16) k →
    k < class_count g → class_of g n ≡ Some k
class_of-is g h n k few first there =
    let count = class_count g in
    let most = class_count-most g h in
    let holds : n ≤ size_at k =
    omega (arith, size_at-count k (omega (arith, there, most)), first.holds, units-hold n) in
    position-at (λ size. nat_le n size) (sizes g) k (omega (arith, there, length-first_sizes count))
    (rw (first_sizes-at count k 0 there) (le-leb n (size_at k) holds))
    (λ j less. rw (first_sizes-at count j 0 (omega (arith, less, there)))
    (lt-leb n (size_at j) (before-class n k j few first less (omega (arith, less, there, most)))))

-- and else there is none
pub class_of-past : (g : Geometry) → IsGeometry g → (n k : ℕ) → k ≤ 256 → IsFirstAtLeast (div_ceil n 16) k →
    class_count g ≤ k → class_of g n ≡ None
class_of-past g h n k few first past =
    let count = class_count g in
    let most = class_count-most g h in
    position-none (λ size. nat_le n size) (sizes g)
    (λ j less.
    let there : j < count = omega (arith, less, length-first_sizes count) in
    rw (first_sizes-at count j 0 there)
    (lt-leb n (size_at j) (before-class n k j few first (omega (arith, there, past)) (omega (arith, there, most)))))

-- a request within the chunk has one
pub class_of-within : (g : Geometry) → IsGeometry g → (n k : ℕ) → k ≤ 256 → IsFirstAtLeast (div_ceil n 16) k →
    k < class_count g → n ≤ chunk_bytes g
class_of-within g h n k few first there =
    let holds : n ≤ size_at k =
    omega (arith, size_at-count k (omega (arith, there, class_count-most g h)), first.holds, units-hold n) in
    omega (arith, holds, size_at-within_chunk g h k there)

-- and one above it none
pub class_of-above : (g : Geometry) → IsGeometry g → (n k : ℕ) → k ≤ 256 → IsFirstAtLeast (div_ceil n 16) k →
    class_count g ≤ k → chunk_bytes g < n
class_of-above g h n k few first past =
    let most = class_count-most g h in
    let least = class_count-least g h in
    omega (
      arith,
      size_at-last g h,
      before-class n k (class_count g - 1) few first (omega (arith, past, least)) (omega (arith, most)),
    )
