-- What is cut off a chunk, in the words of what the arena has.
use Rattle.std.proofs.Common.{◌≡◌, ℕ, ◌*◌, ◌≤◌, sym, ap, ◌∙◌, subst, Some, arith}
use Rattle.std.specs.Prelude.{slice_get}
use Rattle.size_classes.specs.Sizes.{Geometry, page_of}
use Rattle.size_classes.specs.Pages.{free_runs, free_pages, chosen, taken_at, NoneEmpty}
use Rattle.pool_law.specs.Chunks.{Chunk, usage}
use Rattle.pool_law.specs.ChunkLists.{least}
use Rattle.pool_law.specs.Arenas.{chunk_at}
use Rattle.pool_chunk.proofs.Steps.{chosen-begins}
use Rattle.pool_arena.specs.declared.place.Wanted.{Wanted}
use Rattle.pool_arena.specs.declared.place.Cut.{Cut}
use Rattle.pool_arena.specs.Places.{PlaceState, runs_of, state_of, pages_wanted, use_wanted, IsCutAt, Cuts}
use Rattle.pool_arena.specs.Stocks.{arena_in, IsCutIn, found_in, CutsFrom}
use Rattle.pool_arena.specs.Held.{stock_in, IsStock}
use Rattle.pool_arena.specs.declared.stock.ChunkStock.TheInside.{Inside}
use Rattle.pool_arena.proofs.UsageLaws.{usage-rises, taken-free}
use Rattle.pool_arena.proofs.StockLaws.{place-chunk_at, place-geometry, place-origin}
use Rattle.pool_arena.proofs.SettleLaws.{Settles, settle-up}

-- the bytes that are cut off a place are those of its chunk
pub cut-given : (s : Inside) → IsStock s → (c : ℕ) (x : PlaceState) → slice_get s.places.items c ≡ Some x
    → (wanted : Wanted) (page : ℕ) (cut : Cut)
    → IsCutAt (state_of x) wanted page cut → IsCutIn (stock_in s) c wanted page cut
cut-given s is c x found (Wanted.Run pages) page (Cut.Run piece) at =
    let geometry = place-geometry s c x found is in
    record {
      origin = place-origin s c x found ∙ ap Some (sym at.origin);
      start = at.start ∙ ap (λ (g : Geometry). page_of g * page) geometry;
      size = at.size ∙ ap (λ (g : Geometry). page_of g * pages) geometry;
    }
cut-given s is c x found (Wanted.Run pages) page (Cut.Subpage first) at = at
cut-given s is c x found (Wanted.Subpage class) page (Cut.Run piece) at = at
cut-given s is c x found (Wanted.Subpage class) page (Cut.Subpage first) at = at

module _ (s t : Inside) (is : IsStock s) (c : ℕ) (x y q : PlaceState) (wanted : Wanted) (cut : Cut)
    (cuts : Cuts x wanted y cut)
    (d : Settles s t c x q (runs_of y)) (fronts : t.fronts.items ≡ s.fronts.items)
    (some : NoneEmpty (chunk_at (arena_in (stock_in s)) c)) where
  geometry : x.geometry ≡ s.classes
  geometry = place-geometry s c x d.written.found is

  before : chunk_at (arena_in (stock_in s)) c ≡ runs_of x
  before = place-chunk_at s c x d.written.found

  found : found_in (stock_in s) c wanted ≡ Some (cuts.page, cuts.long)
  found =
      ap (λ (rs : Chunk). chosen s.classes (pages_wanted s.classes wanted) (free_runs 0 rs)) before
      ∙ subst (λ (g : Geometry). chosen g (pages_wanted g wanted) (free_runs 0 (runs_of x))
      ≡ Some (cuts.page, cuts.long)) geometry cuts.run

  runs-are : runs_of y ≡ taken_at cuts.page (pages_wanted s.classes wanted) (use_wanted s.classes wanted)
      (chunk_at (arena_in (stock_in s)) c)
  runs-are =
      ap runs_of cuts.rest
      ∙ ap (λ (g : Geometry). taken_at cuts.page (pages_wanted g wanted) (use_wanted g wanted) (runs_of x)) geometry
      ∙ ap (taken_at cuts.page (pages_wanted s.classes wanted) (use_wanted s.classes wanted)) (sym before)

  risen : least d.here ≤ usage s.classes (runs_of y)
  risen =
      let begins = chosen-begins s.classes (pages_wanted s.classes wanted) cuts.page cuts.long
      (chunk_at (arena_in (stock_in s)) c) found in
      let free = taken-free (chunk_at (arena_in (stock_in s)) c) cuts.page cuts.long (pages_wanted s.classes wanted)
      (use_wanted s.classes wanted) some begins.0 begins.1 in
      let less : free_pages (runs_of y) ≤ free_pages (chunk_at (arena_in (stock_in s)) c) =
      omega (arith, ap free_pages runs-are, free) in
      omega (
        arith,
        (is.settled c d.here d.there).0,
        usage-rises s.classes is.sizes.page (runs_of y)
            (chunk_at (arena_in (stock_in s)) c) less,
      )

  pub cut-law : CutsFrom (stock_in s) c wanted (stock_in t) cut
  cut-law =
      record {
        page = cuts.page;
        long = cuts.long;
        run = found;
        becomes =
            settle-up s t c x q (runs_of y) d is fronts risen cuts.page (pages_wanted s.classes wanted)
            (use_wanted s.classes wanted) runs-are;
        given = cut-given s is c x d.written.found wanted cuts.page cut cuts.given;
      }
