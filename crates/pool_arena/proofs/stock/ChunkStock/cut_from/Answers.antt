use Rattle.std.proofs.Common.{◌≡◌, ◌^◌, refl, sym, ap, ◌∙◌, subst, None, ◌≤◌}
use Rattle.std.specs.Vec.{with_item}
use Rattle.size_classes.specs.Sizes.{Geometry, chunk_bytes}
use Rattle.size_classes.specs.Pages.{NoneEmpty, chosen, free_runs}
use Rattle.pool_law.specs.Chunks.{Chunk}
use Rattle.pool_law.specs.Arenas.{chunk_at}
use Rattle.pool_arena.specs.Places.{PlaceState, runs_of, pages_wanted}
use Rattle.pool_arena.specs.Stocks.{StockState, arena_in, HasChunk, CutsFrom, found_in}
use Rattle.pool_arena.specs.Held.{stock_in}
use Rattle.pool_arena.specs.declared.stock.ChunkStock.TheInside.{Inside}
use Rattle.pool_arena.proofs.ListLaws.{found-is}
use Rattle.pool_arena.proofs.StockLaws.{Written, place-of, place-geometry, place-chunk_at, unwritten-state, unwritten-held}
use Rattle.pool_arena.proofs.SettleLaws.{Settles, settles-of, settle-held}
use Rattle.pool_arena.proofs.CutLaws.{cut-law}
use Rattle.pool_arena.proofs.stock.ChunkStock.cut_from.Goals as goal

-- ---- nothing is cut off

abbrev kept : goal.After-from_residual → Inside
kept c =
    record {
      classes = c.self.inside.classes;
      page = c.self.inside.page;
      places = with_item c.self.inside.places c.args.chunk c.cut.new.self;
      lists = c.self.inside.lists;
      fronts = c.self.inside.fronts;
    }

none : (c : goal.After-from_residual) → Written c.self.inside (kept c) c.args.chunk c.index_mut-place.result.now
    c.cut.new.self
none c =
    let s = c.self.inside in
    let there = subst (λ (v : StockState). HasChunk v c.args.chunk) (sym c.self.view_is) c.requires.there in
    let same = (c.in_err-cut.ensures {u = tt}).none.0 in
    record {
      found =
          found-is s.places.items c.args.chunk c.index_mut-place.result.now
          (place-of s c.args.chunk there.runs there.there) c.index_mut-place.ensures.value;
      items = refl;
      origin = ap (λ (p : PlaceState). p.origin) same;
      geometry = ap (λ (p : PlaceState). p.geometry) same;
      classes = refl;
      page = refl;
      places = refl;
    }

pub invariant_of-self : goal.invariant_of-self
invariant_of-self c =
    unwritten-held c.self.inside (kept c) c.args.chunk c.index_mut-place.result.now c.cut.new.self (none c)
    (c.in_err-cut.ensures {u = tt}).none.0 refl refl c.self.invariant

pub returns-in_err-cut-clause-none : goal.returns-in_err-cut-clause-none
returns-in_err-cut-clause-none c =
    let s = c.self.inside in
    let x = c.index_mut-place.result.now in
    let w = none c in
    let same = unwritten-state s (kept c) c.args.chunk x c.cut.new.self w (c.in_err-cut.ensures {u = tt}).none.0 refl
    refl in
    let has_none : found_in (stock_in s) c.args.chunk c.args.wanted ≡ None =
    ap (λ (rs : Chunk). chosen s.classes (pages_wanted s.classes c.args.wanted) (free_runs 0 rs))
    (place-chunk_at s c.args.chunk x w.found)
    ∙ subst (λ (g : Geometry). chosen g (pages_wanted g c.args.wanted) (free_runs 0 (runs_of x)) ≡ None)
    (place-geometry s c.args.chunk x w.found c.self.invariant)
    (c.in_err-cut.ensures {u = tt}).none.1 in
    rw c.from_residual.ensures (
      same ∙ c.self.view_is,
      subst
          (λ (v : StockState). found_in v c.args.chunk c.args.wanted ≡ None) c.self.view_is has_none,
    )

-- ---- something is

pub settle-requires-clause-bytes : goal.settle-requires-clause-bytes
settle-requires-clause-bytes c =
    let s = c.self.inside in
    let there = subst (λ (v : StockState). HasChunk v c.args.chunk) (sym c.self.view_is) c.requires.there in
    let found =
    found-is s.places.items c.args.chunk c.index_mut-place.result.now (place-of s c.args.chunk there.runs there.there)
    c.index_mut-place.ensures.value in
    let same : c.cut.new.self.geometry ≡ s.classes =
    ap (λ (p : PlaceState). p.geometry) (c.in_ok-cut.ensures {u = tt}).some.rest
    ∙ place-geometry s c.args.chunk c.index_mut-place.result.now found c.self.invariant in
    subst (λ (g : Geometry). chunk_bytes g ≤ 2 ^ 24) (sym same) c.self.invariant.sizes.chunk

abbrev after : goal.After-self-2-1 → Inside
after c =
    record {
      classes = c.self.inside.classes;
      page = c.self.inside.page;
      places = with_item c.self.inside.places c.args.chunk c.settle.new.place;
      lists = c.settle.new.lists;
      fronts = c.self.inside.fronts;
    }

settles : (c : goal.After-self-2-1) → Settles c.self.inside (after c) c.args.chunk c.index_mut-place.result.now
    c.settle.new.place (runs_of c.cut.new.self)
settles c =
    let s = c.self.inside in
    let there = subst (λ (v : StockState). HasChunk v c.args.chunk) (sym c.self.view_is) c.requires.there in
    let cuts = (c.in_ok-cut.ensures {u = tt}).some in
    settles-of s (after c) c.self.invariant c.args.chunk c.index_mut-place.result.now c.cut.new.self c.settle.new.place
    there.name
    (found-is s.places.items c.args.chunk c.index_mut-place.result.now (place-of s c.args.chunk there.runs there.there)
    c.index_mut-place.ensures.value)
    (ap (λ (p : PlaceState). p.origin) cuts.rest) (ap (λ (p : PlaceState). p.geometry) cuts.rest) there.listed refl refl
    c.settle.ensures.lists c.settle.ensures.place c.settle.ensures.list c.settle.ensures.within

pub invariant_of-self-2 : goal.invariant_of-self-2
invariant_of-self-2 c =
    settle-held c.self.inside (after c) c.args.chunk c.index_mut-place.result.now c.settle.new.place
    (runs_of c.cut.new.self) (settles c) c.self.invariant c.self.invariant.fronts

pub returns-clause-some : goal.returns-clause-some
returns-clause-some c =
    let some = subst (λ (v : StockState). NoneEmpty (chunk_at (arena_in v) c.args.chunk)) (sym c.self.view_is)
    c.requires.some in
    subst (λ (v : StockState). CutsFrom v c.args.chunk c.args.wanted (stock_in (after c)) c.in_ok-cut.cut)
    c.self.view_is
    (cut-law c.self.inside (after c) c.self.invariant c.args.chunk c.index_mut-place.result.now c.cut.new.self
    c.settle.new.place c.args.wanted c.in_ok-cut.cut
    (c.in_ok-cut.ensures {u = tt}).some (settles c) refl some)
