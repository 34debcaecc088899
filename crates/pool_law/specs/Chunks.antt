-- A chunk, as the list of its runs.
use Rattle.std.specs.Prelude.{◌≡◌, ℕ, ◌+◌, ◌-◌, ◌*◌, ◌/◌, ◌<◌, true, false, ◌==◌, if◌then◌else◌, List, [], ◌∷◌, length, Option, Some, None}
use Rattle.size_classes.specs.Sizes.{Geometry, page_of, chunk_pages, chunk_bytes, is_small, subpage_pages, element_count}
use Rattle.size_classes.specs.Pages.{Run, Free, Used, total_pages, free_pages, NoneEmpty, NoneSideBySide}
use Rattle.size_classes.specs.Elements.{Elements, is_out}

-- what a run is used for: as a whole, or for the elements of a class
pub data Use : Type 0 where
  Whole : Use
  Sub : (class : ℕ) (elements : Elements) → Use

-- a chunk: its runs in order of offset, which cover it (PoolChunk)
abbrev pub Chunk : Type 0
Chunk = List (Run Use)

-- a chunk at first: one free run
abbrev pub new_chunk : Geometry → Chunk
new_chunk g = Free (chunk_pages g) ∷ []

-- the remembered element, if there is one, is not out
abbrev pub RemembersFree : Elements → Option ℕ → Type 0
RemembersFree e None = Unit {0}
RemembersFree e (Some k) = (k < length e.out) × (is_out e k ≡ false)

-- a subpage has the pages and the elements of its class
pub record IsSubpage (g : Geometry) (pages class : ℕ) (e : Elements) : Type 0 where
  pub small : is_small g class ≡ true
  pub whole : pages ≡ subpage_pages g class
  pub elements : length e.out ≡ element_count g class
  pub remembers : RemembersFree e e.remembered

-- each subpage has the pages and the elements of its class
abbrev pub SubpagesFit : Geometry → Chunk → Type 0
SubpagesFit g [] = Unit {0}
SubpagesFit g (Free n ∷ rs) = SubpagesFit g rs
SubpagesFit g (Used n Whole ∷ rs) = SubpagesFit g rs
SubpagesFit g (Used n (Sub class e) ∷ rs) = IsSubpage g n class e × SubpagesFit g rs

-- the runs cover the chunk, and no two free ones are side by side
pub record IsChunk (g : Geometry) (chunk : Chunk) : Type 0 where
  pub covers : total_pages chunk ≡ chunk_pages g
  pub none_empty : NoneEmpty chunk
  pub none_side_by_side : NoneSideBySide chunk
  pub subpages : SubpagesFit g chunk

-- the pages of a run that is in use
abbrev pub used_in : Run Use → ℕ
used_in (Free n) = 0
used_in (Used n what) = n

-- the pages of all runs in use
abbrev pub used_pages : Chunk → ℕ
used_pages [] = 0
used_pages (r ∷ rs) = used_in r + used_pages rs

-- the bytes of the free runs
abbrev pub free_bytes : Geometry → Chunk → ℕ
free_bytes g chunk = page_of g * free_pages chunk

-- the bytes of the others
abbrev pub used_bytes : Geometry → Chunk → ℕ
used_bytes g chunk = page_of g * used_pages chunk

-- in hundredths, rounded up: 100 only where nothing is free
abbrev pub usage_of : ℕ → ℕ → ℕ
usage_of free size =
    if free == 0
    then 100
    else if (free * 100) / size == 0 then 99 else 100 - (free * 100) / size

-- the usage of a chunk
abbrev pub usage : Geometry → Chunk → ℕ
usage g chunk = usage_of (free_bytes g chunk) (chunk_bytes g)
