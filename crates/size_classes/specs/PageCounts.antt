-- The page classes by their number: one, two and three pages, and from there four in each doubling.
-- They are those of `Sizes`, as proofs/Tables.antt shows for each geometry; the sizes of the classes
-- are the same numbers of 16 bytes, as proofs/CountLaws.antt shows.
use Rattle.std.specs.Prelude.{ℕ, zero, suc, ◌+◌, ◌-◌, ◌*◌, ◌/◌, ◌%◌, ◌^◌, ◌<◌, ◌≤◌, nat_lt, if◌then◌else◌, List, [], ◌∷◌, ◌++◌}

-- the pages of a page class
abbrev pub page_count_at : ℕ → ℕ
page_count_at i = if nat_lt i 3 then i + 1 else 2 ^ ((i - 3) / 4) * ((i - 3) % 4 + 4)

-- the pages of the first n page classes
abbrev pub first_page_counts : ℕ → List ℕ
first_page_counts zero = []
first_page_counts (suc n) = first_page_counts n ++ page_count_at n ∷ []

-- how many there are in a chunk of 2 ^ order pages
abbrev pub page_class_count : ℕ → ℕ
page_class_count order = 4 * order - 4

-- those of a chunk of 2 ^ order pages
abbrev pub page_counts : ℕ → List ℕ
page_counts order = first_page_counts (page_class_count order)

-- i is the first of them that holds n pages
pub record IsFirstAtLeast (n i : ℕ) : Type 0 where
  pub holds : n ≤ page_count_at i
  pub before : 0 < i → page_count_at (i - 1) < n

-- i is the last of them that n pages hold
pub record IsLastAtMost (n i : ℕ) : Type 0 where
  pub holds : page_count_at i ≤ n
  pub next : n < page_count_at (i + 1)
