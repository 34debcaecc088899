-- What a call makes of an arena.
use Rattle.std.specs.Prelude.{◌≡◌, ℕ, ◌<◌, length, Option, Some, None}
use Rattle.size_classes.specs.Sizes.{Geometry}
use Rattle.pool_law.specs.Chunks.{Use}
use Rattle.pool_law.specs.Arenas.{Arena, Yielded, chunk_at, with_run}
use Rattle.object_steps.specs.Runs.{HasRoom}

-- a chunk of the arena has a free run of at least so many pages that begins at a page
pub record HasRoomAt (a : Arena) (c at pages : ℕ) : Type 0 where
  pub room : HasRoom at pages (chunk_at a c)
  pub chunk : c < length a.chunks

-- what is yielded is answered, with the arena then; else nothing changes
abbrev pub GivesYielded : Option Yielded → Arena → Arena → Option (ℕ × ℕ) → Type 0
GivesYielded None old new spot = (spot ≡ None) × (new ≡ old)
GivesYielded (Some t) old new spot = (spot ≡ Some (t.0, t.1)) × (new ≡ t.2)

-- the arena once a run of the pages is taken at this chunk and page, if there is one
abbrev pub with_run_at : Geometry → Arena → ℕ → Use → Option (ℕ × ℕ) → Arena
with_run_at g a pages what None = a
with_run_at g a pages what (Some spot) = with_run g a spot.0 spot.1 pages what
