-- The page classes of each geometry, as the check computes them.
use Rattle.std.proofs.Common.{◌≡◌, ℕ, ◌+◌, ◌-◌, ◌*◌, ◌^◌, ◌<◌, ◌≤◌, Bool, true, List, length, get_or, refl, arith, lit<}
use Rattle.std.specs.Prelude.{nat_lt}
use Rattle.std.specs.List.Sorted.{IsStrictlyIncreasing}
use Rattle.std.proofs.lemmas.Bool.{ltb-true, agree_below, agree_below_at}
use Rattle.size_classes.specs.Sizes.{Geometry, IsGeometry, of_pages, page_classes}
use Rattle.size_classes.specs.PageCounts.{page_count_at, page_counts}
use Rattle.size_classes.proofs.Geometries.{by_page, by_order}

-- the page classes are the sizes that are whole pages, and so the counts of pages
pub page_classes_counted : (g : Geometry) → IsGeometry g → page_classes g ≡ page_counts g.order
page_classes_counted g h =
    by_page (λ page. page_classes (of_pages g.order page) ≡ page_counts g.order)
    (by_order (λ order. page_classes (of_pages order 4096) ≡ page_counts order)
    refl refl refl refl refl refl refl refl refl g.order h.least h.most)
    (by_order (λ order. page_classes (of_pages order 8192) ≡ page_counts order)
    refl refl refl refl refl refl refl refl refl g.order h.least h.most)
    (by_order (λ order. page_classes (of_pages order 16384) ≡ page_counts order)
    refl refl refl refl refl refl refl refl refl g.order h.least h.most)
    (by_order (λ order. page_classes (of_pages order 32768) ≡ page_counts order)
    refl refl refl refl refl refl refl refl refl g.order h.least h.most)
    g.page h.page

-- the last is the chunk
pub last_page_count : (order : ℕ) → 3 ≤ order → order ≤ 11 → page_count_at (4 * order - 5) ≡ 2 ^ order
last_page_count =
    by_order (λ order. page_count_at (4 * order - 5) ≡ 2 ^ order)
    refl refl refl refl refl refl refl refl refl

-- and one more would be past it
pub page_counts-past : (order : ℕ) → 3 ≤ order → order ≤ 11
    → page_count_at (4 * order - 5) < page_count_at (4 * order - 4)
page_counts-past =
    by_order (λ order. page_count_at (4 * order - 5) < page_count_at (4 * order - 4))
    (lit< tt) (lit< tt) (lit< tt) (lit< tt) (lit< tt) (lit< tt) (lit< tt) (lit< tt) (lit< tt)

-- whether the number at a place is below the next
abbrev pub rises_at : List ℕ → ℕ → Bool
rises_at classes k = nat_lt (get_or classes k 0) (get_or classes (k + 1) 0)

-- how many page classes there are; the last is the chunk, the first is one page, and they rise
pub record Shape (order : ℕ) (classes : List ℕ) : Type 0 where
  pub count : length classes ≡ 4 * order - 4
  pub last : get_or classes (4 * order - 5) 0 ≡ 2 ^ order
  pub first : get_or classes 0 0 ≡ 1
  pub rises : agree_below (rises_at classes) (λ _. true) (4 * order - 5) ≡ true

-- this holds of the counts of pages
counted : (order : ℕ) → 3 ≤ order → order ≤ 11 → Shape order (page_counts order)
counted order least most =
    by_order (λ order. Shape order (page_counts order))
    (record { count = refl; last = refl; first = refl; rises = refl })
    (record { count = refl; last = refl; first = refl; rises = refl })
    (record { count = refl; last = refl; first = refl; rises = refl })
    (record { count = refl; last = refl; first = refl; rises = refl })
    (record { count = refl; last = refl; first = refl; rises = refl })
    (record { count = refl; last = refl; first = refl; rises = refl })
    (record { count = refl; last = refl; first = refl; rises = refl })
    (record { count = refl; last = refl; first = refl; rises = refl })
    (record { count = refl; last = refl; first = refl; rises = refl })
    order least most

-- the counts of pages rise
pub page_counts-rise : (order : ℕ) → 3 ≤ order → order ≤ 11 → IsStrictlyIncreasing (page_counts order)
page_counts-rise order least most k there =
    let classes = page_counts order in
    let shape = counted order least most in
    let below : k < 4 * order - 5 = omega (arith, shape.count, there) in
    ltb-true (get_or classes k 0) (get_or classes (k + 1) 0)
    (agree_below_at (rises_at classes) (λ _. true) (4 * order - 5) k shape.rises below)
