-- How a `Chunk` holds its runs. No public clause cites this module.
use Rattle.std.specs.Prelude.{◌≡◌, List, map}
use Rattle.size_classes.specs.Sizes.{IsGeometry, page_of, chunk_bytes}
use Rattle.pool_law.specs.Chunks.{Chunk}
use Rattle.pool_chunk.specs.ChunkStates.{ChunkState}
use Rattle.pool_chunk.specs.Slots.{PageEntry, entry_of, runs_from, AreOf, ArePlaced}
use Rattle.pool_chunk.specs.declared.chunk.Chunk.TheInside.{Inside}

abbrev pub entries_in : Inside → List PageEntry
entries_in c = map entry_of c.slots.items

abbrev pub runs_in : Inside → Chunk
runs_in c = runs_from 0 c.map.runs (entries_in c)

abbrev pub state_in : Inside → ChunkState
state_in c = record { origin = c.map.origin; geometry = c.classes; runs = runs_in c }

pub record IsHeld (c : Inside) : Type 0 where
  pub sizes : IsGeometry c.classes
  pub same : c.map.order ≡ c.classes.order
  pub page : c.map.page ≡ page_of c.classes
  pub bytes : c.bytes ≡ chunk_bytes c.classes
  pub runs : AreOf c.classes c.map.runs (entries_in c) (runs_in c)
  pub placed : ArePlaced c.map.origin (page_of c.classes) 0 c.slots.items
