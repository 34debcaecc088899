-- The free runs of a chunk alone, in order of offset, and what taking and giving back make of them.
-- A map of free runs knows no more of its chunk; `Pages` says the same of all runs of the chunk.
-- proofs/SpanLaws.antt proves that the two agree: these are the free runs of that chunk.
use Rattle.std.specs.Prelude.{ℕ, ◌+◌, ◌-◌, ◌<◌, ◌≤◌, ◌⊎◌, ◌==◌, nat_lt, if◌then◌else◌, List, [], ◌∷◌, ◌++◌, map, All}
pub use Rattle.size_classes.specs.Pages.{Span}

-- the pages of each run
abbrev pub run_lengths : List Span → List ℕ
run_lengths runs = map (λ r. r.1) runs

-- the rest of a run once so many pages are taken from its front
abbrev pub rest_of : ℕ → Span → List Span
rest_of pages r = if r.1 == pages then [] else (r.0 + pages, r.1 - pages) ∷ []

-- the runs once so many pages are taken from the front of the one that begins at a page
abbrev pub taken_from : ℕ → ℕ → List Span → List Span
taken_from at pages [] = []
taken_from at pages (r ∷ runs) =
    if r.0 == at then rest_of pages r ++ runs else r ∷ taken_from at pages runs

-- a run before others, which it is merged with where they meet
abbrev pub merged_before : Span → List Span → List Span
merged_before r [] = r ∷ []
merged_before r (s ∷ runs) = if r.0 + r.1 == s.0 then (r.0, r.1 + s.1) ∷ runs else r ∷ s ∷ runs

-- runs with each two that meet merged
abbrev pub merged : List Span → List Span
merged [] = []
merged (r ∷ runs) = merged_before r (merged runs)

-- a run put in its place by offset
abbrev pub placed_in : Span → List Span → List Span
placed_in r [] = r ∷ []
placed_in r (s ∷ runs) = if nat_lt r.0 s.0 then r ∷ s ∷ runs else s ∷ placed_in r runs

-- the runs once r is given back
abbrev pub given_back : Span → List Span → List Span
given_back r runs = merged (placed_in r runs)

-- r has no page of s
abbrev pub AreApart : Span → Span → Type 0
AreApart r s = (r.0 + r.1 ≤ s.0) ⊎ (s.0 + s.1 ≤ r.0)

-- r lies in a chunk of so many pages, and none of its pages is free
abbrev pub IsOut : ℕ → List Span → Span → Type 0
IsOut pages runs r = (0 < r.1) × (r.0 + r.1 ≤ pages) × All (AreApart r) runs

-- every run is shorter than so many pages
abbrev pub AreShorter : ℕ → List Span → Type 0
AreShorter pages runs = All (λ r. r.1 < pages) runs

-- runs in order of offset, from a page on: none is empty, and no two are side by side
abbrev pub AreSpacedFrom : ℕ → List Span → Type 0
AreSpacedFrom low [] = Unit {0}
AreSpacedFrom low (r ∷ runs) = (low ≤ r.0) × (0 < r.1) × AreSpacedFrom (r.0 + r.1 + 1) runs
