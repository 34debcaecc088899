-- The subpages of the small classes: whole elements, and few enough for the bits of a subpage.
use Rattle.std.proofs.Common.{◌≡◌, ℕ, ◌-◌, ◌*◌, ◌%◌, ◌<◌, ◌≤◌, Bool, true, ◌==◌, refl, eqb-true, leb-true}
use Rattle.std.specs.Prelude.{◌&&◌, nat_le}
use Rattle.std.proofs.lemmas.Bool.{agree_below_at, and_parts}
use Rattle.size_classes.specs.Sizes.{Geometry, IsPage, of_pages, page_shift, page_of, size_at, is_small, subpage_pages, element_count}
use Rattle.size_classes.proofs.Geometries.{by_page}
use Rattle.size_classes.proofs.SmallClasses.{small_below}

abbrev passes : Geometry → ℕ → Bool
passes g class =
    (subpage_pages g class * page_of g % size_at class == 0)
    && ((element_count g class * size_at class == page_of g * subpage_pages g class) && nat_le (element_count g class)
    2048)

-- each of the first classes passes
first_pass : (page : ℕ) → IsPage page → (class : ℕ) → class < 4 * page_shift page - 13
    → passes (of_pages 9 page) class ≡ true
first_pass =
    by_page (λ page. (class : ℕ) → class < 4 * page_shift page - 13 → passes (of_pages 9 page) class ≡ true)
    (λ class few. agree_below_at (passes (of_pages 9 4096)) (λ _. true) 35 class refl few)
    (λ class few. agree_below_at (passes (of_pages 9 8192)) (λ _. true) 39 class refl few)
    (λ class few. agree_below_at (passes (of_pages 9 16384)) (λ _. true) 43 class refl few)
    (λ class few. agree_below_at (passes (of_pages 9 32768)) (λ _. true) 47 class refl few)

-- so does each small class
all_pass : (g : Geometry) → IsPage g.page → (class : ℕ) → is_small g class ≡ true → passes g class ≡ true
all_pass g h class small = first_pass g.page h class (small_below g h class small)

module _ (g : Geometry) (h : IsPage g.page) (class : ℕ) (small : is_small g class ≡ true) where
  pub whole_elements : subpage_pages g class * page_of g % size_at class ≡ 0
  whole_elements =
      eqb-true (subpage_pages g class * page_of g % size_at class) 0
      (and_parts (subpage_pages g class * page_of g % size_at class == 0) _ (all_pass g h class small)).0

  others : ((element_count g class * size_at class == page_of g * subpage_pages g class) && nat_le
      (element_count g class) 2048) ≡ true
  others = (and_parts (subpage_pages g class * page_of g % size_at class == 0) _ (all_pass g h class small)).1

  pub elements_fill : element_count g class * size_at class ≡ page_of g * subpage_pages g class
  elements_fill =
      eqb-true (element_count g class * size_at class) (page_of g * subpage_pages g class)
      (and_parts (element_count g class * size_at class == page_of g * subpage_pages g class) _ others).0

  pub few_elements : element_count g class ≤ 2048
  few_elements =
      leb-true (element_count g class) 2048
      (and_parts (element_count g class * size_at class == page_of g * subpage_pages g class) _ others).1
