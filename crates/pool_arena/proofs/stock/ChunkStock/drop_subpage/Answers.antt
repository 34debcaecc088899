use Rattle.std.proofs.Common.{◌≡◌, ◌^◌, ℕ, ◌*◌, ◌≤◌, length, refl, sym, ap, ◌∙◌, subst, Some}
use Rattle.std.specs.Vec.{with_item}
use Rattle.std.specs.Prelude.{slice_get, slice_set, slice_index_or, map}
use Rattle.size_classes.specs.Sizes.{Geometry, chunk_bytes, chunk_pages}
use Rattle.size_classes.specs.Pages.{Used, NoneEmpty, run_at}
use Rattle.size_classes.proofs.Runs.{Begins-run_at}
use Rattle.pool_law.specs.Chunks.{Chunk, Sub}
use Rattle.pool_law.specs.Arenas.{chunk_at, front_of, without_subpage}
use Rattle.pool_chunk.specs.ChunkStates.{HasSubpage}
use Rattle.pool_arena.specs.Places.{PlaceState, state_of, runs_of}
use Rattle.pool_arena.specs.SubpageLists.{SubpagesState}
use Rattle.pool_arena.specs.Stocks.{StockState, arena_in, Becomes, HasChunk, IsIdleAt, subpage_given}
use Rattle.pool_arena.specs.Held.{stock_in}
use Rattle.pool_arena.specs.declared.stock.ChunkStock.TheInside.{Inside}
use Rattle.pool_arena.proofs.ListLaws.{found-is}
use Rattle.pool_arena.proofs.StockLaws.{place-of, place-chunk_at, place-geometry}
use Rattle.pool_arena.proofs.SettleLaws.{Settles, settles-of, settle-held}
use Rattle.pool_arena.proofs.FrontsLaws.{front-found, front_of-is, rooms-set, subpages-set}
use Rattle.pool_arena.proofs.ElementLaws.{elements-run}
use Rattle.pool_arena.proofs.GiveLaws.{given-law}
use Rattle.pool_arena.proofs.stock.ChunkStock.drop_subpage.Goals as goal

-- the place of the chunk, by the fields
place_at : (s : Inside) (v : StockState) (c : ℕ) (x : PlaceState) → stock_in s ≡ v → HasChunk v c
    → x ≡ slice_index_or s.places.items c x → slice_get s.places.items c ≡ Some x
place_at s v c x seen there here =
    let is = subst (λ (w : StockState). HasChunk w c) (sym seen) there in
    found-is s.places.items c x (place-of s c is.runs is.there) here

-- the idle subpage there
abbrev sub_at : (s : Inside) (v : StockState) (class c page : ℕ) (x : PlaceState) → stock_in s ≡ v
    → slice_get s.places.items c ≡ Some x → IsIdleAt v class c page → HasSubpage (state_of x) page
sub_at s v class c page x seen found idle =
    let run = elements-run class (run_at page (chunk_at (arena_in v) c)) idle.elements idle.here in
    record {
      pages = run.0;
      class = class;
      elements = idle.elements;
      run =
          ap (run_at page) (sym (place-chunk_at s c x found) ∙ ap (λ (w : StockState). chunk_at (arena_in w) c) seen)
          ∙ run.1;
    }

pub drop_subpage-requires : goal.drop_subpage-requires
drop_subpage-requires c =
    let s = c.self.inside in
    let x = c.index_mut-place.result.now in
    let found = place_at s c.args.self.now c.args.spot.chunk x c.self.view_is c.requires.there
    c.index_mut-place.ensures.value in
    record {
      subpage =
          sub_at s c.args.self.now c.args.class c.args.spot.chunk c.args.spot.page x c.self.view_is found
          c.requires.idle;
      idle = c.requires.idle.idle;
    }

pub settle-requires-clause-bytes : goal.settle-requires-clause-bytes
settle-requires-clause-bytes c =
    let s = c.self.inside in
    let x = c.index_mut-place.result.now in
    let found = place_at s c.args.self.now c.args.spot.chunk x c.self.view_is c.requires.there
    c.index_mut-place.ensures.value in
    subst (λ (g : Geometry). chunk_bytes g ≤ 2 ^ 24)
    (sym (ap (λ (p : PlaceState). p.geometry) c.drop_subpage.ensures
    ∙ place-geometry s c.args.spot.chunk x found c.self.invariant)) c.self.invariant.sizes.chunk

abbrev after : goal.After-self-2-1 → Inside
after c =
    record {
      classes = c.self.inside.classes;
      page = c.self.inside.page;
      places = with_item c.self.inside.places c.args.spot.chunk c.settle.new.place;
      lists = c.settle.new.lists;
      fronts = with_item c.self.inside.fronts c.args.class c.leave.new.self;
    }

settles : (c : goal.After-self-2-1) → Settles c.self.inside (after c) c.args.spot.chunk c.index_mut-place.result.now
    c.settle.new.place (runs_of c.drop_subpage.new.self)
settles c =
    let s = c.self.inside in
    let x = c.index_mut-place.result.now in
    let there = subst (λ (w : StockState). HasChunk w c.args.spot.chunk) (sym c.self.view_is) c.requires.there in
    settles-of s (after c) c.self.invariant c.args.spot.chunk x c.drop_subpage.new.self c.settle.new.place there.name
    (place_at s c.args.self.now c.args.spot.chunk x c.self.view_is c.requires.there c.index_mut-place.ensures.value)
    (ap (λ (p : PlaceState). p.origin) c.drop_subpage.ensures)
    (ap (λ (p : PlaceState). p.geometry) c.drop_subpage.ensures) there.listed refl refl
    c.settle.ensures.lists c.settle.ensures.place c.settle.ensures.list c.settle.ensures.within

front_at : (c : goal.After-self-2-1) → slice_get c.self.inside.fronts.items c.args.class ≡ Some c.index_mut.result.now
front_at c =
    front-found c.self.inside c.self.invariant c.args.self.now.geometry c.args.class c.index_mut.result.now
    (ap (λ (w : StockState). w.geometry) c.self.view_is)
    c.requires.class c.index_mut.ensures.value

pub invariant_of-self : goal.invariant_of-self
invariant_of-self c =
    let s = c.self.inside in
    settle-held s (after c) c.args.spot.chunk c.index_mut-place.result.now c.settle.new.place
    (runs_of c.drop_subpage.new.self) (settles c) c.self.invariant
    (rooms-set (length s.places.items * chunk_pages s.classes) s.classes s.fronts.items c.args.class
    c.index_mut.result.now c.leave.new.self c.self.invariant.fronts (front_at c)
    (ap (λ (f : SubpagesState). f.room) c.leave.ensures))

pub returns : goal.returns
returns c =
    let s = c.self.inside in
    let v = c.args.self.now in
    let x = c.index_mut-place.result.now in
    let class = c.args.class in
    let chunk = c.args.spot.chunk in
    let page = c.args.spot.page in
    let found = place_at s v chunk x c.self.view_is c.requires.there c.index_mut-place.ensures.value in
    let sub = sub_at s v class chunk page x c.self.view_is found c.requires.idle in
    let some = subst (λ (rs : Chunk). NoneEmpty rs)
    (ap (λ (w : StockState). chunk_at (arena_in w) chunk) (sym c.self.view_is) ∙ place-chunk_at s chunk x found)
    c.requires.some in
    let fronts : map (λ (f : SubpagesState). f.subpages) (slice_set s.fronts.items class c.leave.new.self)
    ≡ slice_set (stock_in s).fronts class (without_subpage chunk page (front_of (arena_in (stock_in s)) class)) =
    subpages-set s.fronts.items class c.leave.new.self
    ∙ ap (slice_set (stock_in s).fronts class)
    (ap (λ (f : SubpagesState). f.subpages) c.leave.ensures
    ∙ ap (without_subpage chunk page) (sym (front_of-is s class c.index_mut.result.now (front_at c)))) in
    let becomes =
    given-law s (after c) c.self.invariant chunk page sub.pages (Sub class sub.elements) x c.drop_subpage.new.self
    c.settle.new.place
    (Begins-run_at (runs_of x) page (Used sub.pages (Sub class sub.elements)) sub.run) some c.drop_subpage.ensures
    (settles c)
    (slice_set (stock_in s).fronts class (without_subpage chunk page (front_of (arena_in
    (stock_in s)) class))) fronts in
    subst (λ (w : StockState). Becomes w (subpage_given w.geometry class chunk page) (stock_in (after c)))
    c.self.view_is
    (record { law = λ takings out. becomes.law takings out; geometry = becomes.geometry; grounds = becomes.grounds })
