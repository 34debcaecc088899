-- What is in use in an arena is the place of a taking that is out.
use Rattle.std.specs.Prelude.{◌≡◌, ℕ, ◌+◌, ◌*◌, true, List, [], Some, slice_get}
use Rattle.size_classes.specs.Sizes.{Geometry, page_of, size_at}
use Rattle.size_classes.specs.Pages.{Used}
use Rattle.size_classes.specs.Runs.{Begins}
use Rattle.size_classes.specs.Elements.{Elements}
use Rattle.pool_law.specs.declared.id.RegionId.{RegionId}
use Rattle.pool_law.specs.declared.note.Did.{Did}
use Rattle.pool_law.specs.declared.run.Shape.{Shape}
use Rattle.pool_law.specs.Chunks.{Whole, Sub}
use Rattle.pool_law.specs.Arenas.{Arena, chunk_at}
use Rattle.pool_law.specs.Histories.{arena_after}
use Rattle.arena_laws.specs.Slots.{IsOne}
use Rattle.arena_laws.specs.Orderly.{ChunkAtRest}

-- a fact of the chunk and the first byte of each run in use as a whole, and each element out
pub record EachUsed (g : Geometry) (a : Arena) (P : ℕ → ℕ → Type 0) : Type 0 where
  pub runs :
      (c page pages : ℕ) → Begins page (Used pages Whole) (chunk_at a c) → P c (page_of g * page)
  pub elements :
      (c page pages class at : ℕ) (e : Elements) →
      Begins page (Used pages (Sub class e)) (chunk_at a c) →
      slice_get e.out at ≡ Some true → P c (page_of g * page + at * size_at class)

-- one of these takings begins there
pub record IsTakenAt (out : List RegionId) (c offset : ℕ) : Type 0 where
  pub region : RegionId
  pub there : IsOne region out
  pub chunk : region.place.chunk ≡ c
  pub starts : region.place.offset ≡ offset

-- each run in use as a whole, and each element that is out, is the place of a taking that is out
abbrev pub IsCovered : Geometry → Arena → Type 0
IsCovered g a = EachUsed g a (IsTakenAt a.out)

-- after a history that gave all back nothing of a chunk is out
abbrev pub RestsWhenAllIsBack : Shape → ℕ → Type 0
RestsWhenAllIsBack shape number =
    (ds : List Did) (a : Arena) → arena_after shape number ds ≡ Some a → a.out ≡ [] →
    (c : ℕ) → ChunkAtRest (chunk_at a c)
