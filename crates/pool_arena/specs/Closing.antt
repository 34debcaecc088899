-- When an arena may give its memory back. No public clause cites this module.
use Rattle.std.specs.Prelude.{◌≡◌, ◌≤◌, ℕ, true, []}
use Rattle.size_classes.specs.Sizes.{is_small}
use Rattle.size_classes.specs.Pages.{total_pages, free_pages}
use Rattle.pool_law.specs.Chunks.{IsChunk}
use Rattle.pool_law.specs.Arenas.{chunk_at, front_of}
use Rattle.arena_laws.specs.Orderly.{IsOrderly, ChunkAtRest}
use Rattle.pool_arena.specs.Places.{PlaceState, runs_of}
use Rattle.pool_arena.specs.Stocks.{StockState, arena_in}

-- each page of the place is free, if its runs are a chunk
abbrev pub IsAllFree : PlaceState → Type 0
IsAllFree p = IsChunk p.geometry (runs_of p) → total_pages (runs_of p) ≤ free_pages (runs_of p)

-- nothing of a chunk is out
pub record IsResting (s : StockState) : Type 0 where
  pub orderly : IsOrderly s.geometry (arena_in s)
  pub rest : (c : ℕ) → ChunkAtRest (chunk_at (arena_in s) c)

-- no small class has a subpage with a free element
abbrev pub HasNoFront : StockState → Type 0
HasNoFront s =
    (class : ℕ) → is_small s.geometry class ≡ true → front_of (arena_in s) class ≡ []
