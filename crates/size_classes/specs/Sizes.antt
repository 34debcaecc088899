-- The size classes of a chunk: the class of a request, the page classes, the pages of a subpage.
use Rattle.std.specs.Prelude.{◌≡◌, ◌⊎◌, ℕ, zero, suc, ◌+◌, ◌-◌, ◌*◌, ◌/◌, ◌%◌, ◌^◌, ◌≤◌, Bool, nat_lt, nat_le, ◌==◌, if◌then◌else◌, List, [], ◌∷◌, ◌++◌, map, filter, count_by, fold, position, Option, max, Contains}
use Rattle.size_classes.specs.declared.TheConstants.{DEFAULT_PAGE}

-- what the sizes of a pool are made from
pub record Geometry : Type 0 where
  pub order : ℕ
  pub page : ℕ

-- that of chunks of 2 ^ order pages of so many bytes
abbrev pub of_pages : ℕ → ℕ → Geometry
of_pages order page = record { order = order; page = page }

-- that of chunks of 2 ^ order pages of the default size
abbrev pub of_order : ℕ → Geometry
of_order order = of_pages order DEFAULT_PAGE

-- the bytes of a page
abbrev pub page_of : Geometry → ℕ
page_of g = g.page

-- the power of two that a page is
abbrev pub page_shift : ℕ → ℕ
page_shift page =
    if page == 4096
    then 12
    else (if page == 8192 then 13 else (if page == 16384 then 14 else 15))

-- the pages of a chunk
abbrev pub chunk_pages : Geometry → ℕ
chunk_pages g = 2 ^ g.order

-- the bytes of a chunk
abbrev pub chunk_bytes : Geometry → ℕ
chunk_bytes g = page_of g * chunk_pages g

-- a page has 4,096, 8,192, 16,384 or 32,768 bytes
abbrev pub IsPage : ℕ → Type 0
IsPage page = (page ≡ 4096) ⊎ ((page ≡ 8192) ⊎ ((page ≡ 16384) ⊎ (page ≡ 32768)))

-- the pages and chunks that a pool can have
pub record IsGeometry (g : Geometry) : Type 0 where
  pub least : 3 ≤ g.order
  pub most : g.order ≤ 11
  pub page : IsPage g.page
  pub chunk : chunk_bytes g ≤ 2 ^ 24

-- the size of a class: four sizes up to 64, and from there four in each doubling
abbrev pub size_at : ℕ → ℕ
size_at class =
    if nat_lt class 4
    then 16 * (class + 1)
    else 2 ^ (6 + (class - 4) / 4) + ((class - 4) % 4 + 1) * 2 ^ (4 + (class - 4) / 4)

-- how many classes there are, of which the last is the chunk
abbrev pub class_count : Geometry → ℕ
class_count g = 4 * (g.order + page_shift g.page - 13) + 32

-- the numbers below n, in ascending order
abbrev pub below : ℕ → List ℕ
below zero = []
below (suc n) = below n ++ n ∷ []

-- the sizes of the first n classes
abbrev pub first_sizes : ℕ → List ℕ
first_sizes zero = []
first_sizes (suc n) = first_sizes n ++ size_at n ∷ []

-- the sizes of the classes, in ascending order
abbrev pub sizes : Geometry → List ℕ
sizes g = first_sizes (class_count g)

-- the class of a request: the first that holds it
abbrev pub class_of : Geometry → ℕ → Option ℕ
class_of g n = position (λ size. nat_le n size) (sizes g)

-- a class of elements of a subpage: below four pages
abbrev pub is_small : Geometry → ℕ → Bool
is_small g class = nat_lt (size_at class) (4 * page_of g)

-- how many classes are small
abbrev pub small_count : Geometry → ℕ
small_count g = 4 * page_shift g.page - 13

-- the pages of a class that is not small: the fewest that hold it, and it fills them
abbrev pub pages_of : Geometry → ℕ → ℕ
pages_of g class = (size_at class + (page_of g - 1)) / page_of g

-- those of the sizes that are whole pages, in pages
abbrev pub whole_pages : ℕ → List ℕ → List ℕ
whole_pages page sizes = map (λ size. size / page) (filter (λ size. size % page == 0) sizes)

-- the page classes: the sizes of the classes that are whole pages, in pages
abbrev pub page_classes : Geometry → List ℕ
page_classes g = whole_pages (page_of g) (sizes g)

-- so many pages are a page class
abbrev pub IsPageClass : Geometry → ℕ → Type 0
IsPageClass g pages = Contains (page_classes g) pages

-- the first page class of at least so many pages, by its place among the page classes
abbrev pub page_class_up : Geometry → ℕ → Option ℕ
page_class_up g pages = position (λ class. nat_le pages class) (page_classes g)

-- how many page classes have at most so many pages
abbrev pub page_classes_up_to : Geometry → ℕ → ℕ
page_classes_up_to g pages = count_by (λ class. nat_le class pages) (page_classes g)

-- the greatest of the classes that are at most n, and 0 where there is none
abbrev pub greatest_at_most : ℕ → List ℕ → ℕ
greatest_at_most n classes = fold max 0 (filter (λ class. nat_le class n) classes)

-- the pages of the greatest page class that a run of so many pages holds
abbrev pub page_class_under : Geometry → ℕ → ℕ
page_class_under g pages = greatest_at_most pages (page_classes g)

-- the least number from n on that passes, if one of so many does
abbrev pub least_from : ℕ → ℕ → (ℕ → Bool) → ℕ
least_from n zero passes = n
least_from n (suc more) passes =
    let next = least_from (n + 1) more passes in
    if passes n then n else next

-- the pages of a subpage: the least number, from one on, whose bytes are a multiple of the size
-- (as many pages as the size has bytes always are)
abbrev pub subpage_pages : Geometry → ℕ → ℕ
subpage_pages g class =
    least_from 1 (size_at class) (λ pages. pages * page_of g % size_at class == 0)

-- how many elements a subpage has
abbrev pub element_count : Geometry → ℕ → ℕ
element_count g class = (page_of g * subpage_pages g class) / size_at class
