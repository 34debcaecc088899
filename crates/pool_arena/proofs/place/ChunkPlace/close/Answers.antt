use Rattle.std.proofs.Common.{◌≡◌, ◌≤◌, refl, sym, subst, Bool, true, false}
use Rattle.size_classes.specs.Pages.{total_pages, free_pages}
use Rattle.pool_law.specs.Chunks.{IsChunk, new_chunk}
use Rattle.pool_chunk.specs.ChunkStates.{ChunkState}
use Rattle.pool_arena.specs.Closing.{IsAllFree}
use Rattle.pool_arena.specs.Places.{PlaceState, place_in, IsPlace, state_of}
use Rattle.pool_arena.specs.declared.place.ChunkPlace.TheInside.{Inside}
use Rattle.pool_arena.proofs.PlaceLaws.{place-chunk}
use Rattle.pool_arena.proofs.RestLaws.{whole-free}
use Rattle.pool_arena.proofs.place.ChunkPlace.close.Goals as goal

-- the chunk of a place of which all is free is new, be it in use or not
chunk-new : (p : Inside) (v : PlaceState) → place_in p ≡ v → IsPlace p → IsAllFree v
    → IsChunk p.chunk.geometry p.chunk.runs → p.chunk.runs ≡ new_chunk p.chunk.geometry
chunk-new p v seen is free whole = by p.used refl
  where
    by : (used : Bool) → p.used ≡ used → p.chunk.runs ≡ new_chunk p.chunk.geometry
    by false unused = is.unused unused
    by true used =
        let chunk : p.chunk ≡ state_of v = place-chunk p v seen used in
        whole-free p.chunk.geometry p.chunk.runs whole
        (subst (λ (s : ChunkState). total_pages s.runs ≤ free_pages s.runs) (sym chunk)
        (free (subst (λ (s : ChunkState). IsChunk s.geometry s.runs) chunk whole)))

pub into_piece-requires : goal.into_piece-requires
into_piece-requires c =
    chunk-new c.self.inside c.args.self c.self.view_is c.self.invariant c.requires c.free-free.ensures.chunk
