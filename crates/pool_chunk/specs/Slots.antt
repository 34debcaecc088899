-- What begins at each page of a chunk, and the list of runs that this makes with the free runs.
-- No public clause cites this module.
use Rattle.std.specs.Prelude.{◌≡◌, ℕ, zero, suc, ◌+◌, ◌-◌, ◌*◌, List, [], ◌∷◌, ◌++◌, replicate, Option, Some, None, ⊤}
use Rattle.ground.specs.Ground.{Origin, Segment}
use Rattle.size_classes.specs.Sizes.{Geometry, size_at}
use Rattle.size_classes.specs.Pages.{Run, Free, Used, Span, free_runs}
use Rattle.subpage_bits.specs.Elements.{SharedRun, HandsOut}
use Rattle.pool_law.specs.Chunks.{Chunk, Use, Whole, Sub, IsChunk}
use Rattle.pool_chunk.specs.PlaceWords.{element_word}
use Rattle.pool_chunk.specs.declared.slot.PageUse.{PageUse}
use Rattle.pool_chunk.specs.declared.slot.CutRun.{CutRun}

-- the pages and the use of the run in use that begins at a page, where one does
abbrev pub PageEntry : Type 0
PageEntry = Option (ℕ × Use)

abbrev pub entry_of : PageUse → PageEntry
entry_of PageUse.Nothing = None
entry_of (PageUse.Run pages) = Some (pages, Whole)
entry_of (PageUse.Cut run) = Some (run.pages, Sub run.class run.subpage.elements)

-- the entries of the pages of a run
abbrev pub entries_in : Run Use → List PageEntry
entries_in (Free n) = replicate n None
entries_in (Used n what) = Some (n, what) ∷ replicate (n - 1) None

-- the entries of the pages of a chunk
abbrev pub entries : Chunk → List PageEntry
entries [] = []
entries (r ∷ rs) = entries_in r ++ entries rs

-- the runs that free runs and entries make, once so many pages are passed
abbrev pub runs_from : ℕ → List Span → List PageEntry → Chunk
runs_from skip spans [] = []
runs_from (suc skip) spans (e ∷ es) = runs_from skip spans es
runs_from zero spans (Some run ∷ es) = Used run.0 run.1 ∷ runs_from (run.0 - 1) spans es
runs_from zero [] (None ∷ es) = []
runs_from zero (s ∷ spans) (None ∷ es) = Free s.1 ∷ runs_from (s.1 - 1) spans es

-- these are the free runs and the entries of a chunk
pub record AreOf (g : Geometry) (spans : List Span) (es : List PageEntry) (runs : Chunk) : Type 0 where
  pub free : free_runs 0 runs ≡ spans
  pub entries : entries runs ≡ es
  pub chunk : IsChunk g runs

-- the elements of a run lie in its pages, which begin at a page of this ground
pub record IsCutAt (stands_on : Origin) (page at : ℕ) (run : CutRun) : Type 0 where
  pub origin : run.subpage.origin ≡ stands_on
  pub start : run.subpage.start ≡ page * at
  pub size : run.subpage.size ≡ size_at run.class

abbrev pub IsPlaced : Origin → ℕ → ℕ → PageUse → Type 0
IsPlaced origin page at PageUse.Nothing = ⊤
IsPlaced origin page at (PageUse.Run pages) = ⊤
IsPlaced origin page at (PageUse.Cut run) = IsCutAt origin page at run

-- what begins at each page, from the page `at` on, lies there
abbrev pub ArePlaced : Origin → ℕ → ℕ → List PageUse → Type 0
ArePlaced origin page at [] = ⊤
ArePlaced origin page at (s ∷ ss) =
    IsPlaced origin page at s × ArePlaced origin page (at + 1) ss

-- a run with other elements
abbrev pub with_subpage : CutRun → SharedRun → CutRun
with_subpage run subpage = record run { subpage = subpage }

-- the next element of a run that begins at a page is handed out as s, and this is its word
pub record HandsOutOf (before after : CutRun) (page : ℕ) (s : Segment) (word : ℕ) : Type 0 where
  pub element : ℕ
  pub out : HandsOut before.subpage after.subpage s element
  pub place : word ≡ element_word page before.pages element
  pub rest : after ≡ with_subpage before after.subpage
