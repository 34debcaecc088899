use Rattle.std.proofs.Common.{◌≡◌, ℕ, ◌<◌, length, refl, sym, ap, ◌∙◌, subst, Some, arith}
use Rattle.std.specs.Prelude.{Option, IsSome, slice_get, slice_index_or}
use Rattle.std.proofs.lemmas.List.{length-map}
use Rattle.pool_law.specs.declared.report.ListName.{ListName}
use Rattle.pool_law.specs.Chunks.{Chunk, used_bytes, free_bytes}
use Rattle.pool_law.specs.ChunkLists.{list_of}
use Rattle.pool_law.specs.Arenas.{chunk_at}
use Rattle.arena_laws.specs.Orderly.{chunk_of}
use Rattle.pool_arena.specs.Places.{PlaceState, runs_of}
use Rattle.pool_arena.specs.Stocks.{StockState, arena_in, HasChunk, AreListed}
use Rattle.pool_arena.specs.Held.{stock_in, IsStock}
use Rattle.pool_arena.specs.declared.stock.ChunkStock.TheInside.{Inside}
use Rattle.pool_arena.proofs.ListLaws.{found-is}
use Rattle.pool_arena.proofs.WalkLaws.{there}
use Rattle.pool_arena.proofs.StockLaws.{place-chunk_of, place-chunk_at, place-geometry}
use Rattle.pool_arena.proofs.stock.ChunkStock.end_of.Goals as goal

-- the place is in use where the chunk is in a list
module _ (s : Inside) (is : IsStock s) (v : StockState) (chunk : ℕ) (x : PlaceState) (seen : stock_in s ≡ v)
    (within : chunk < length v.chunks) (listed : AreListed v)
    (here : x ≡ slice_index_or s.places.items chunk x) where
  found : slice_get s.places.items chunk ≡ Some x
  found =
      let less : chunk < length (stock_in s).chunks =
      subst (λ (w : StockState). chunk < length w.chunks) (sym seen) within in
      found-is s.places.items chunk x (omega (arith, less, length-map s.places.items (λ (p : PlaceState). p.chunk)))
      here

  chunk_is : chunk_of (arena_in v) chunk ≡ x.chunk
  chunk_is = ap (λ (w : StockState). chunk_of (arena_in w) chunk) (sym seen) ∙ place-chunk_of s chunk x found

  has : (name : ListName) → list_of v.lists chunk ≡ Some name → HasChunk v chunk
  has name is_in =
      let runs = there (chunk_of (arena_in v) chunk) (λ none. absurd (cc (sym is_in ∙ (listed chunk).1 none))) in
      record { runs = runs.0; name = name; there = runs.1; listed = is_in }

  used_there : (name : ListName) → list_of v.lists chunk ≡ Some name → IsSome x.chunk
  used_there name is_in = subst (λ (o : Option Chunk). IsSome o) (sym (has name is_in).there ∙ chunk_is) refl

  runs_are : runs_of x ≡ chunk_at (arena_in v) chunk
  runs_are = sym (place-chunk_at s chunk x found) ∙ ap (λ (w : StockState). chunk_at (arena_in w) chunk) seen

  geometry_is : x.geometry ≡ v.geometry
  geometry_is = place-geometry s chunk x found is ∙ ap (λ (w : StockState). w.geometry) seen

pub used-requires : goal.used-requires
used-requires c =
    let listed = ap (λ (w : StockState). list_of w.lists c.args.chunk) (sym c.self.view_is)
    ∙ sym (c.in_ok-list.ensures {u = tt}).list in
    used_there c.self.inside c.self.invariant c.args.self.now c.args.chunk c.index-place.result.now c.self.view_is
    c.requires.within c.requires.listed c.index-place.ensures
    c.in_ok-list.list listed

pub returns-clause-some : goal.returns-clause-some
returns-clause-some c =
    let v = c.args.self.now in
    let x = c.index-place.result.now in
    let listed = ap (λ (w : StockState). list_of w.lists c.args.chunk) (sym c.self.view_is)
    ∙ sym (c.in_ok-list.ensures {u = tt}).list in
    let runs = runs_are c.self.inside c.self.invariant v c.args.chunk x c.self.view_is c.requires.within
    c.requires.listed c.index-place.ensures in
    let g = geometry_is c.self.inside c.self.invariant v c.args.chunk x c.self.view_is c.requires.within
    c.requires.listed c.index-place.ensures in (
      has c.self.inside c.self.invariant v c.args.chunk x c.self.view_is c.requires.within c.requires.listed
          c.index-place.ensures c.in_ok-list.list listed,
      listed,
      c.used.ensures.bytes ∙ (λ i. used_bytes (g i) (runs i)),
      c.free.ensures.bytes ∙ (λ i. free_bytes (g i) (runs i)),
    )
