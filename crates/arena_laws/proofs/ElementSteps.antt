-- Which elements of a subpage are out, and when it has a free one.
use Rattle.std.proofs.Common.{◌≡◌, ℕ, zero, suc, ◌<◌, ◌≤◌, List, [], ◌∷◌, refl, arith, Bool, true, false, Some, ◌∙◌}
use Rattle.std.specs.Prelude.{◌-◌, ◌*◌, not, nat_lt, slice_get, replicate, if◌then◌else◌}
use Rattle.std.specs.List.{list_all}
use Rattle.std.proofs.lemmas.Bool.{agree_below_at, ltb-true}
use Rattle.size_classes.specs.Sizes.{Geometry, is_small, element_count, IsPage, of_pages, page_shift}
use Rattle.size_classes.specs.Elements.{new_elements, is_full}
use Rattle.size_classes.proofs.Geometries.{by_page}
use Rattle.size_classes.proofs.SmallClasses.{small_below}

-- a subpage of which an element is not out is not full
pub not-full : (bs : List Bool) (k : ℕ) → slice_get bs k ≡ Some false → list_all (λ out. out) bs ≡ false
not-full [] k e = absurd (cc e)
not-full (true ∷ bs) zero e = absurd (cc e)
not-full (false ∷ bs) zero e = refl
not-full (true ∷ bs) (suc k) e = not-full bs k e
not-full (false ∷ bs) (suc k) e = refl

-- of new elements none is out
pub none-out : (n k : ℕ) → slice_get (replicate n false) k ≡ Some true → ⊥
none-out zero k e = cc e
none-out (suc n) zero e = cc e
none-out (suc n) (suc k) e = none-out n k e

pub new-room : (n : ℕ) → 0 < n → is_full (new_elements n) ≡ false
new-room zero some = absurd (omega (arith, some))
new-room (suc n) some = refl

-- whether a subpage of a class has an element
abbrev pub has_some : ℕ → ℕ → Bool
has_some page class = nat_lt 0 (element_count (of_pages 9 page) class)

-- that of one of the first classes has
some_below : (page : ℕ) → IsPage page → (class : ℕ) → class < 4 * page_shift page - 13 → has_some page class ≡ true
some_below =
    by_page (λ page. (class : ℕ) → class < 4 * page_shift page - 13 → has_some page class ≡ true)
    (λ class few. agree_below_at (has_some 4096) (λ _. true) 35 class refl few)
    (λ class few. agree_below_at (has_some 8192) (λ _. true) 39 class refl few)
    (λ class few. agree_below_at (has_some 16384) (λ _. true) 43 class refl few)
    (λ class few. agree_below_at (has_some 32768) (λ _. true) 47 class refl few)

-- a subpage of a small class has one
pub some-elements : (g : Geometry) → IsPage g.page → (class : ℕ) → is_small g class ≡ true → 0 < element_count g class
some-elements g page class small =
    ltb-true 0 (element_count g class) (some_below g.page page class (small_below g page class small))

pub new-has_room : (g : Geometry) → IsPage g.page → (class : ℕ) → is_small g class ≡ true
    → is_full (new_elements (element_count g class)) ≡ false
new-has_room g page class small = new-room (element_count g class) (some-elements g page class small)

-- a subpage of which no element is out is idle
pub idle-where : (bs : List Bool) → ((k : ℕ) → slice_get bs k ≡ Some true → ⊥) → list_all not bs ≡ true
idle-where [] none = refl
idle-where (true ∷ bs) none = absurd (none 0 refl)
idle-where (false ∷ bs) none = idle-where bs (λ k. none (suc k))
