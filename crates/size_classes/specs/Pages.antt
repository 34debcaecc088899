-- A chunk as the list of its runs of pages, free or in use, in order of offset: which free run an
-- allocation takes, and what taking and giving back make of the chunk.
-- `Spans` says the same of the free runs alone; proofs/SpanLaws.antt proves that the two agree.
use Rattle.std.specs.Prelude.{◌≡◌, ℕ, zero, suc, ◌+◌, ◌-◌, ◌<◌, Bool, true, false, nat_lt, nat_le, min, ◌==◌, ◌&&◌, if◌then◌else◌, List, [], ◌∷◌, ◌++◌, map, filter, fold, find, Option, Some, None}
use Rattle.size_classes.specs.Sizes.{Geometry, page_class_under}

-- a run of pages, free or in use for something
pub data Run (U : Type 0) : Type 0 where
  Free : (pages : ℕ) → Run U
  Used : (pages : ℕ) (what : U) → Run U

-- the pages of a run
abbrev pub pages_in : {U : Type 0} → Run U → ℕ
pages_in (Free n) = n
pages_in (Used n what) = n

-- the pages of all runs
abbrev pub total_pages : {U : Type 0} → List (Run U) → ℕ
total_pages [] = 0
total_pages (r ∷ rs) = pages_in r + total_pages rs

-- the free pages of a run
abbrev pub free_in : {U : Type 0} → Run U → ℕ
free_in (Free n) = n
free_in (Used n what) = 0

-- the free pages of all runs
abbrev pub free_pages : {U : Type 0} → List (Run U) → ℕ
free_pages [] = 0
free_pages (r ∷ rs) = free_in r + free_pages rs

-- a run by its first page and its pages
abbrev pub Span : Type 0
Span = ℕ × ℕ

-- a run that begins at a page, put before others if it is free
abbrev pub add_free : {U : Type 0} → ℕ → Run U → List Span → List Span
add_free at (Free n) rest = (at, n) ∷ rest
add_free at (Used n what) rest = rest

-- the free runs of a chunk, whose first run begins at a page
abbrev pub free_runs : {U : Type 0} → ℕ → List (Run U) → List Span
free_runs at [] = []
free_runs at (r ∷ rs) = add_free at r (free_runs (at + pages_in r) rs)

-- the lower of two, where 0 stands for none
abbrev pub lower : ℕ → ℕ → ℕ
lower a n = if a == 0 then n else min a n

-- the least page class under which a run of at least so many pages stands, and 0 for none
abbrev pub least_class : Geometry → ℕ → List Span → ℕ
least_class g pages runs =
    fold lower 0 (map (λ run. page_class_under g run.1) (filter (λ run. nat_le pages run.1) runs))

-- the free run that an allocation of so many pages takes:
-- the first that holds them and stands under the least page class
abbrev pub chosen : Geometry → ℕ → List Span → Option Span
chosen g pages runs =
    find (λ run. nat_le pages run.1 && (page_class_under g run.1 == least_class g pages runs)) runs

-- the run that begins at a page is replaced by others
abbrev pub replaced : {U : Type 0} → ℕ → (Run U → List (Run U)) → List (Run U) → List (Run U)
replaced at by [] = []
replaced at by (r ∷ rs) = if at == 0 then by r ++ rs else r ∷ replaced (at - pages_in r) by rs

-- the run that begins at a page
abbrev pub run_at : {U : Type 0} → ℕ → List (Run U) → Option (Run U)
run_at at [] = None
run_at at (r ∷ rs) =
    if at == 0
    then Some r
    else (if nat_lt at (pages_in r) then None else run_at (at - pages_in r) rs)

-- the first page of the run in which a page lies
abbrev pub run_start : {U : Type 0} → ℕ → List (Run U) → ℕ
run_start page [] = 0
run_start page (r ∷ rs) =
    if nat_lt page (pages_in r) then 0 else pages_in r + run_start (page - pages_in r) rs

-- the rest of a free run, if any
abbrev pub rest_of : {U : Type 0} → ℕ → List (Run U)
rest_of zero = []
rest_of (suc n) = Free (suc n) ∷ []

-- the front pages of a run come into use, and what is left of it is free
abbrev pub front_used : {U : Type 0} → ℕ → U → Run U → List (Run U)
front_used pages what r = Used pages what ∷ rest_of (pages_in r - pages)

-- a run becomes free
abbrev pub freed : {U : Type 0} → Run U → List (Run U)
freed r = Free (pages_in r) ∷ []

-- a free run before others takes in a free run that begins them
abbrev pub joined : {U : Type 0} → Run U → List (Run U) → List (Run U)
joined (Free n) (Free m ∷ rs) = Free (n + m) ∷ rs
joined (Free n) (Used m what ∷ rs) = Free n ∷ Used m what ∷ rs
joined (Free n) [] = Free n ∷ []
joined (Used n what) rs = Used n what ∷ rs

-- free runs that are side by side become one
abbrev pub merged : {U : Type 0} → List (Run U) → List (Run U)
merged [] = []
merged (r ∷ rs) = joined r (merged rs)

-- the chunk once the front pages of the run that begins at a page are taken for something
abbrev pub taken_at : {U : Type 0} → ℕ → ℕ → U → List (Run U) → List (Run U)
taken_at at pages what runs = replaced at (front_used pages what) runs

-- the chunk once the run that begins at a page is given back,
-- merged with the free runs directly before and after it
abbrev pub given_at : {U : Type 0} → ℕ → List (Run U) → List (Run U)
given_at at runs = merged (replaced at freed runs)

-- no run is empty
abbrev pub NoneEmpty : {U : Type 0} → List (Run U) → Type 0
NoneEmpty [] = Unit {0}
NoneEmpty (r ∷ rs) = (0 < pages_in r) × NoneEmpty rs

-- whether the first run is free
abbrev pub begins_free : {U : Type 0} → List (Run U) → Bool
begins_free [] = false
begins_free (Free n ∷ rs) = true
begins_free (Used n what ∷ rs) = false

-- no two free runs are side by side
abbrev pub NoneSideBySide : {U : Type 0} → List (Run U) → Type 0
NoneSideBySide [] = Unit {0}
NoneSideBySide (Free n ∷ rs) = (begins_free rs ≡ false) × NoneSideBySide rs
NoneSideBySide (Used n what ∷ rs) = NoneSideBySide rs
