-- A chunk place. No public clause cites this module.
use Rattle.std.specs.Prelude.{◌≡◌, ℕ, ◌<◌, ◌≤◌, Bool, true, false, [], Option, Some, None, unwrap_or}
use Rattle.ground.specs.Ground.{Origin, Segment}
use Rattle.size_classes.specs.Sizes.{Geometry, chunk_pages, size_at, class_count, is_small, IsPageClass, subpage_pages, element_count}
use Rattle.size_classes.specs.Pages.{free_runs, chosen, taken_at}
use Rattle.size_classes.specs.Elements.{new_elements, next_element, with_out}
use Rattle.pool_law.specs.Chunks.{Chunk, Use, Whole, Sub, new_chunk}
use Rattle.pool_chunk.specs.ChunkStates.{ChunkState, with_elements, HasSubpage, IsBytesAt, page_start, element_start}
use Rattle.pool_chunk.specs.Outcomes.{IsChosen}
use Rattle.pool_arena.specs.declared.place.Wanted.{Wanted}
use Rattle.pool_arena.specs.declared.place.Cut.{Cut}
use Rattle.pool_arena.specs.declared.place.ChunkPlace.TheInside.{Inside}

-- the ground of a chunk place, and its chunk if it has one
pub record PlaceState : Type 0 where
  pub origin : Origin
  pub geometry : Geometry
  pub chunk : Option Chunk

-- a place with another chunk
abbrev pub with_chunk : PlaceState → Option Chunk → PlaceState
with_chunk p chunk = record p { chunk = chunk }

-- the runs of its chunk
abbrev pub runs_of : PlaceState → Chunk
runs_of p = unwrap_or p.chunk []

-- its chunk, with the ground
abbrev pub state_of : PlaceState → ChunkState
state_of p = record { origin = p.origin; geometry = p.geometry; runs = runs_of p }

-- a place in use has the chunk
abbrev pub if_used : Bool → Chunk → Option Chunk
if_used false runs = None
if_used true runs = Some runs

abbrev pub place_in : Inside → PlaceState
place_in p =
    record {
      origin = p.chunk.origin;
      geometry = p.chunk.geometry;
      chunk = if_used p.used p.chunk.runs;
    }

-- the chunk of an unused place is all free
pub record IsPlace (p : Inside) : Type 0 where
  pub deed : p.deed ≡ p.chunk.origin
  pub unused : p.used ≡ false → p.chunk.runs ≡ new_chunk p.chunk.geometry

-- the pages that are wanted, and what they are for
abbrev pub pages_wanted : Geometry → Wanted → ℕ
pages_wanted g (Wanted.Run pages) = pages
pages_wanted g (Wanted.Subpage class) = subpage_pages g class

abbrev pub use_wanted : Geometry → Wanted → Use
use_wanted g (Wanted.Run pages) = Whole
use_wanted g (Wanted.Subpage class) = Sub class (new_elements (element_count g class))

-- a run has the pages of a page class, no more than a chunk, and a subpage is of a small class
abbrev pub IsWanted : Geometry → Wanted → Type 0
IsWanted g (Wanted.Run pages) = (pages ≤ chunk_pages g) × IsPageClass g pages
IsWanted g (Wanted.Subpage class) = (class < class_count g) × (is_small g class ≡ true)

-- what is cut off is the run that begins at a page: its bytes, or a subpage
abbrev pub IsCutAt : ChunkState → Wanted → ℕ → Cut → Type 0
IsCutAt c (Wanted.Run pages) page (Cut.Run piece) =
    IsBytesAt c (page_start c page) (page_start c pages) piece
IsCutAt c (Wanted.Run pages) page (Cut.Subpage first) = ⊥
IsCutAt c (Wanted.Subpage class) page (Cut.Run piece) = ⊥
IsCutAt c (Wanted.Subpage class) page (Cut.Subpage first) = first ≡ page

-- the chunk once the pages from one on are taken for what is wanted
abbrev pub cut_at : PlaceState → Wanted → ℕ → Chunk
cut_at p wanted page =
    taken_at page (pages_wanted p.geometry wanted) (use_wanted p.geometry wanted) (runs_of p)

-- the front of the run that is chosen comes into use for what is wanted
pub record Cuts (old : PlaceState) (wanted : Wanted) (new : PlaceState) (cut : Cut) : Type 0 where
  pub page : ℕ
  pub long : ℕ
  pub run : IsChosen (state_of old) (pages_wanted old.geometry wanted) (page, long)
  pub rest : new ≡ with_chunk old (Some (cut_at old wanted page))
  pub given : IsCutAt (state_of old) wanted page cut

-- no free run has the pages
abbrev pub HasNone : PlaceState → Wanted → Type 0
HasNone p wanted =
    chosen p.geometry (pages_wanted p.geometry wanted) (free_runs 0 (runs_of p)) ≡ None

-- the next element of the subpage at the page is out from now on: s is its bytes
pub record HandsOut (old : PlaceState) (page : ℕ) (sub : HasSubpage (state_of old) page)
    (new : PlaceState) (s : Segment) : Type 0 where
  pub element : ℕ
  pub next : next_element sub.elements ≡ Some element
  pub piece : IsBytesAt (state_of old) (element_start (state_of old) page sub.class element)
      (size_at sub.class) s
  pub rest : new ≡ with_chunk old
      (Some (with_elements page sub.class (with_out sub.elements element) (runs_of old)))
