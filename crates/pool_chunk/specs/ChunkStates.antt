-- What contracts see of a `Chunk`: the law's list of its runs, and the ground on which it stands.
use Rattle.std.specs.Prelude.{◌≡◌, ℕ, ◌+◌, ◌*◌, ◌/◌, ◌^◌, ◌<◌, ◌≤◌, ◌⊎◌, true, [], ◌∷◌, length, Some}
use Rattle.ground.specs.Ground.{Origin, Segment, IsWhole}
use Rattle.size_classes.specs.Sizes.{Geometry, of_pages, page_of, chunk_bytes, size_at}
use Rattle.size_classes.specs.Pages.{Used, pages_in, replaced, run_at}
use Rattle.size_classes.specs.Elements.{Elements, is_out, is_idle}
use Rattle.pool_law.specs.Chunks.{Chunk, Use, Whole, Sub, new_chunk}
use Rattle.pool_chunk.specs.PlaceWords.{run_word, element_word}

-- the ground of a chunk, what its sizes are made from, and its runs
pub record ChunkState : Type 0 where
  pub origin : Origin
  pub geometry : Geometry
  pub runs : Chunk

abbrev pub with_runs : ChunkState → Chunk → ChunkState
with_runs c runs = record c { runs = runs }

-- the chunk of a ground that is all free
abbrev pub all_free : Geometry → Segment → ChunkState
all_free g s = record { origin = s.origin; geometry = g; runs = new_chunk g }

-- the sizes of a chunk of 2 ^ order pages that is all of s
abbrev pub geometry_on : ℕ → Segment → Geometry
geometry_on order s = of_pages order (length s.bytes / 2 ^ order)

-- a whole ground of the bytes of a chunk
abbrev pub IsChunkGround : Geometry → Segment → Type 0
IsChunkGround g s = IsWhole s × (length s.bytes ≡ chunk_bytes g)

-- the subpage that begins at a page has these elements
abbrev pub with_elements : ℕ → ℕ → Elements → Chunk → Chunk
with_elements page class e runs = replaced page (λ r. Used (pages_in r) (Sub class e) ∷ []) runs

-- the byte at which a page begins, and the byte at which an element of a subpage does
abbrev pub page_start : ChunkState → ℕ → ℕ
page_start c page = page_of c.geometry * page

abbrev pub element_start : ChunkState → ℕ → ℕ → ℕ → ℕ
element_start c page class element = page_start c page + element * size_at class

-- s is so many bytes of the chunk, from the byte `at` on
pub record IsBytesAt (c : ChunkState) (at bytes : ℕ) (s : Segment) : Type 0 where
  pub origin : s.origin ≡ c.origin
  pub start : s.start ≡ at
  pub size : length s.bytes ≡ bytes

-- a subpage begins at the page
pub record HasSubpage (c : ChunkState) (page : ℕ) : Type 0 where
  pub pages : ℕ
  pub class : ℕ
  pub elements : Elements
  pub run : run_at page c.runs ≡ Some (Used pages (Sub class elements))

-- the page lies in a run in use
pub record IsInUse (c : ChunkState) (page : ℕ) : Type 0 where
  pub start : ℕ
  pub pages : ℕ
  pub what : Use
  pub run : run_at start c.runs ≡ Some (Used pages what)
  pub from : start ≤ page
  pub within : page < start + pages

-- an idle subpage begins at the page
pub record HasIdleSubpage (c : ChunkState) (page : ℕ) : Type 0 where
  pub subpage : HasSubpage c page
  pub idle : is_idle subpage.elements ≡ true

-- the run that begins at the page is out, and s is its bytes
pub record IsRunOut (c : ChunkState) (page : ℕ) (s : Segment) : Type 0 where
  pub pages : ℕ
  pub run : run_at page c.runs ≡ Some (Used pages Whole)
  pub piece : IsBytesAt c (page_start c page) (page_start c pages) s

-- the element of the subpage that begins at the page is out, and s is its bytes
pub record IsElementOut (c : ChunkState) (page element : ℕ) (s : Segment) : Type 0 where
  pub subpage : HasSubpage c page
  pub out : is_out subpage.elements element ≡ true
  pub piece : IsBytesAt c (element_start c page subpage.class element) (size_at subpage.class) s

-- the word is that of the place of a run which is out as s
pub record IsRunPlace (c : ChunkState) (s : Segment) (word : ℕ) : Type 0 where
  pub page : ℕ
  pub run : IsRunOut c page s
  pub place : word ≡ run_word page run.pages

-- the word is that of the place of an element which is out as s
pub record IsElementPlace (c : ChunkState) (s : Segment) (word : ℕ) : Type 0 where
  pub page : ℕ
  pub index : ℕ
  pub element : IsElementOut c page index s
  pub place : word ≡ element_word page element.subpage.pages index

-- the word is that of a place which is out as s
abbrev pub IsPlaceOut : ChunkState → Segment → ℕ → Type 0
IsPlaceOut c s word = IsRunPlace c s word ⊎ IsElementPlace c s word
