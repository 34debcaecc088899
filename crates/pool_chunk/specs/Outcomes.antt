-- What the calls of a `Chunk` make of it, in the law's words.
use Rattle.std.specs.Prelude.{◌≡◌, ℕ, if◌then◌else◌, Some}
use Rattle.ground.specs.Ground.{Segment}
use Rattle.size_classes.specs.Sizes.{Geometry, size_at, subpage_pages, element_count}
use Rattle.size_classes.specs.Pages.{Span, free_runs, chosen, taken_at, given_at}
use Rattle.size_classes.specs.Elements.{Elements, new_elements, next_element, with_out, with_back, is_idle}
use Rattle.pool_law.specs.Chunks.{Use, Whole, Sub}
use Rattle.pool_chunk.specs.declared.chunk.Freed.{Freed}
use Rattle.pool_chunk.specs.PlaceWords.{run_word, element_word}
use Rattle.pool_chunk.specs.ChunkStates.{ChunkState, with_runs, with_elements, IsBytesAt, page_start, element_start, HasSubpage}

-- the free run that so many pages are taken from is this one
abbrev pub IsChosen : ChunkState → ℕ → Span → Type 0
IsChosen c pages run = chosen c.geometry pages (free_runs 0 c.runs) ≡ Some run

-- the front pages of the chosen run come into use as a whole: s is their bytes
pub record TakesRun (before after : ChunkState) (pages : ℕ) (s : Segment) (word : ℕ) : Type 0 where
  pub page : ℕ
  pub long : ℕ
  pub run : IsChosen before pages (page, long)
  pub piece : IsBytesAt before (page_start before page) (page_start before pages) s
  pub place : word ≡ run_word page pages
  pub rest : after ≡ with_runs before (taken_at page pages Whole before.runs)

-- what a new subpage of a class is used for
abbrev pub new_subpage : Geometry → ℕ → Use
new_subpage g class = Sub class (new_elements (element_count g class))

-- the front pages of the chosen run, from the page on, become a subpage of the class
pub record TakesSubpage (before after : ChunkState) (class page : ℕ) : Type 0 where
  pub long : ℕ
  pub run : IsChosen before (subpage_pages before.geometry class) (page, long)
  pub rest : after ≡ with_runs before
      (taken_at page (subpage_pages before.geometry class)
      (new_subpage before.geometry class) before.runs)

-- the next element of the subpage at the page is out from now on: s is its bytes
pub record TakesElement (before after : ChunkState) (page : ℕ) (s : Segment) (word : ℕ) : Type 0
  where
    pub subpage : HasSubpage before page
    pub element : ℕ
    pub next : next_element subpage.elements ≡ Some element
    pub piece :
        IsBytesAt before (element_start before page subpage.class element) (size_at subpage.class) s
    pub place : word ≡ element_word page subpage.pages element
    pub rest : after ≡ with_runs before
        (with_elements page subpage.class (with_out subpage.elements element) before.runs)

-- the chunk once the run that begins at a page is given back
abbrev pub run_back : ChunkState → ℕ → ChunkState
run_back c page = with_runs c (given_at page c.runs)

-- the chunk once an element of the subpage that begins at a page is back
abbrev pub element_back : (c : ChunkState) (page : ℕ) → HasSubpage c page → ℕ → ChunkState
element_back c page subpage element =
    with_runs c (with_elements page subpage.class (with_back subpage.elements element) c.runs)

-- what a give of an element leaves of a subpage: an idle one, or one with others out
abbrev pub freed_by : Elements → ℕ → Freed
freed_by e element = if is_idle (with_back e element) then Freed.Idle else Freed.Element
