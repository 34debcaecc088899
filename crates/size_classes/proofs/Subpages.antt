-- The pages of a subpage: seven at most for a small class, as they are reckoned.
use Rattle.std.proofs.Common.{◌≡◌, ℕ, ◌*◌, ◌%◌, ◌-◌, ◌≤◌, ◌<◌, Bool, true, ◌==◌, refl, sym, arith, eqb-true}
use Rattle.std.specs.Prelude.{nat_lt}
use Rattle.std.proofs.lemmas.Bool.{agree_below_at, ltb-true}
use lib.Count.{count_trailing_zeros}
use Rattle.size_classes.specs.Sizes.{Geometry, IsPage, of_pages, page_shift, size_at, is_small, subpage_pages}
use Rattle.size_classes.specs.Subpages.{reckoned_pages}
use Rattle.size_classes.proofs.Searches.{least_from-from}
use Rattle.size_classes.proofs.Geometries.{by_page}
use Rattle.size_classes.proofs.SmallClasses.{small_below}

-- whether what is reckoned for a class is right
abbrev pub is_reckoned : ℕ → ℕ → ℕ → Bool
is_reckoned page shift class =
    subpage_pages (of_pages 9 page) class == reckoned_pages (size_at class) shift

-- the pages of a subpage of a class of the first ones
reckoned_below : (page : ℕ) → IsPage page → (class : ℕ) → class < 4 * page_shift page - 13 →
    is_reckoned page (page_shift page) class ≡ true
unfolding count_trailing_zeros
reckoned_below =
    by_page (λ page. (class : ℕ) → class < 4 * page_shift page - 13 → is_reckoned page (page_shift page) class ≡ true)
    (λ class few. agree_below_at (is_reckoned 4096 12) (λ _. true) 35 class refl few)
    (λ class few. agree_below_at (is_reckoned 8192 13) (λ _. true) 39 class refl few)
    (λ class few. agree_below_at (is_reckoned 16384 14) (λ _. true) 43 class refl few)
    (λ class few. agree_below_at (is_reckoned 32768 15) (λ _. true) 47 class refl few)

-- what is reckoned for a small class are the least pages that its elements fill
pub subpage_pages-reckoned : (g : Geometry) → IsPage g.page → (class : ℕ) → is_small g class ≡ true →
    reckoned_pages (size_at class) (page_shift g.page) ≡ subpage_pages g class
subpage_pages-reckoned g h class small =
    sym (eqb-true (subpage_pages g class) (reckoned_pages (size_at class) (page_shift g.page))
    (reckoned_below g.page h class (small_below g h class small)))

-- they are seven at most
few_below : (page : ℕ) → IsPage page → (class : ℕ) → class < 4 * page_shift page - 13 →
    nat_lt (subpage_pages (of_pages 9 page) class) 8 ≡ true
few_below =
    by_page (λ page. (class : ℕ) → class < 4 * page_shift page - 13
    → nat_lt (subpage_pages (of_pages 9 page) class) 8 ≡ true)
    (λ class few. agree_below_at (λ class. nat_lt (subpage_pages (of_pages 9 4096) class) 8) (λ _. true) 35 class refl
    few)
    (λ class few. agree_below_at (λ class. nat_lt (subpage_pages (of_pages 9 8192) class) 8) (λ _. true) 39 class refl
    few)
    (λ class few. agree_below_at (λ class. nat_lt (subpage_pages (of_pages 9 16384) class) 8) (λ _. true) 43 class refl
    few)
    (λ class few. agree_below_at (λ class. nat_lt (subpage_pages (of_pages 9 32768) class) 8) (λ _. true) 47 class refl
    few)

-- and of any class at least one
pub subpage_pages-least : (g : Geometry) (class : ℕ) → 1 ≤ subpage_pages g class
subpage_pages-least g class =
    least_from-from 1 (size_at class) (λ pages. pages * g.page % size_at class == 0)

-- the runs of subpages have one to seven pages
pub subpage_pages_within : (g : Geometry) → IsPage g.page → (class : ℕ) → is_small g class ≡ true →
    (1 ≤ subpage_pages g class) × (subpage_pages g class ≤ 7)
subpage_pages_within g h class small = (
  subpage_pages-least g class,
  omega (arith, ltb-true (subpage_pages g class) 8 (few_below g.page h class (small_below g h class small))),
)
