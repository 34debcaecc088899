use Rattle.std.proofs.Common.{◌≡◌, ◌^◌, ℕ, ◌/◌, ◌≤◌, refl, sym, ap, ap₂, ◌∙◌, subst, false, Some}
use Rattle.std.specs.Vec.{with_item}
use Rattle.std.specs.Prelude.{slice_get, slice_index_or}
use Rattle.ground.specs.Ground.{Segment}
use Rattle.size_classes.specs.Sizes.{Geometry, chunk_bytes, is_small}
use Rattle.size_classes.proofs.SmallClasses.{page-some}
use Rattle.size_classes.specs.Pages.{Used, NoneEmpty}
use Rattle.size_classes.specs.Runs.{Begins}
use Rattle.pool_law.specs.Chunks.{Chunk, Whole}
use Rattle.pool_law.specs.Arenas.{chunk_at, given_place}
use Rattle.arena_laws.specs.Slots.{IsWholeRun}
use Rattle.arena_laws.specs.Orderly.{IsOrderly}
use Rattle.pool_arena.specs.Places.{PlaceState, runs_of}
use Rattle.pool_arena.specs.Stocks.{StockState, arena_with, arena_in, Becomes, IsPlaceOut}
use Rattle.pool_arena.specs.Held.{stock_in, IsStock}
use Rattle.pool_arena.specs.declared.stock.ChunkStock.TheInside.{Inside}
use Rattle.pool_arena.proofs.ListLaws.{found-is}
use Rattle.pool_arena.proofs.StockLaws.{place-chunk_at, place-geometry}
use Rattle.pool_arena.proofs.SettleLaws.{Settles, settles-of, settle-held}
use Rattle.pool_arena.proofs.GiveLaws.{given-law, begins-within, begins-name, whole-out, whole-page_is, whole-begins, whole-run_out, by-run}
use Rattle.pool_arena.proofs.stock.ChunkStock.give_run.Goals as goal

-- what is asked, by the fields
module _ (s : Inside) (is : IsStock s) (v : StockState) (class c : ℕ) (piece : Segment) (seen : stock_in s ≡ v)
    (whole : is_small v.geometry class ≡ false)
    (orderly : IsOrderly v.geometry (arena_in v)) (asked : IsPlaceOut v class c piece) (x : PlaceState)
    (here : x ≡ slice_index_or s.places.items c x) where
  abbrev out : IsPlaceOut (stock_in s) class c piece
  out = subst (λ (w : StockState). IsPlaceOut w class c piece) (sym seen) asked

  abbrev run : IsWholeRun s.classes (chunk_at (arena_in (stock_in s)) c) out.id
  run = whole-out (stock_in s) class c piece out (ap (λ (w : StockState). is_small w.geometry class) seen ∙ whole)

  order : IsOrderly v.geometry (arena_in (stock_in s))
  order = subst (λ (w : StockState). IsOrderly v.geometry (arena_in w)) (sym seen) orderly

  found : slice_get s.places.items c ≡ Some x
  found = found-is s.places.items c x (begins-within s c run.page (Used run.pages Whole) run.begins) here

  some : NoneEmpty (runs_of x)
  some = subst (λ (rs : Chunk). NoneEmpty rs) (place-chunk_at s c x found) (order.sound c).none_empty

  order_is : (y : PlaceState) → y.geometry ≡ x.geometry → chunk_bytes y.geometry ≤ 2 ^ 24
  order_is y same =
      subst (λ (g : Geometry). chunk_bytes g ≤ 2 ^ 24) (sym (same ∙ place-geometry s c x found is)) is.sizes.chunk

pub give_run-requires : goal.give_run-requires
give_run-requires c =
    let s = c.self.inside in
    let v = c.args.self.now in
    let x = c.index_mut-place.result.now in
    let o = out s c.self.invariant v c.args.class c.args.chunk c.args.piece c.self.view_is c.requires.whole
    c.requires.orderly c.requires.out x c.index_mut-place.ensures.value in
    let r = run s c.self.invariant v c.args.class c.args.chunk c.args.piece c.self.view_is c.requires.whole
    c.requires.orderly c.requires.out x c.index_mut-place.ensures.value in
    whole-run_out s c.args.class c.args.chunk c.args.piece o r x
    (found s c.self.invariant v c.args.class c.args.chunk c.args.piece c.self.view_is c.requires.whole
    c.requires.orderly c.requires.out x c.index_mut-place.ensures.value)
    c.self.invariant (some s c.self.invariant v c.args.class c.args.chunk c.args.piece c.self.view_is c.requires.whole
    c.requires.orderly c.requires.out x c.index_mut-place.ensures.value)
    (c.start.result / s.page)
    (ap₂ (λ n p. n / p) c.start.ensures.start c.self.invariant.page
    ∙ whole-page_is (stock_in s) (page-some s.classes c.self.invariant.sizes.page) c.args.class c.args.chunk
    c.args.piece o r)

pub settle-requires-clause-bytes : goal.settle-requires-clause-bytes
settle-requires-clause-bytes c =
    order_is c.self.inside c.self.invariant c.args.self.now c.args.class c.args.chunk c.args.piece c.self.view_is
    c.requires.whole c.requires.orderly c.requires.out
    c.index_mut-place.result.now c.index_mut-place.ensures.value c.give_run.new.self
    (ap (λ (p : PlaceState). p.geometry) c.give_run.ensures)

abbrev after : goal.After-self-1 → Inside
after c =
    record {
      classes = c.self.inside.classes;
      page = c.self.inside.page;
      places = with_item c.self.inside.places c.args.chunk c.settle.new.place;
      lists = c.settle.new.lists;
      fronts = c.self.inside.fronts;
    }

settles : (c : goal.After-self-1) → Settles c.self.inside (after c) c.args.chunk c.index_mut-place.result.now
    c.settle.new.place (runs_of c.give_run.new.self)
settles c =
    let s = c.self.inside in
    let v = c.args.self.now in
    let x = c.index_mut-place.result.now in
    let r = run s c.self.invariant v c.args.class c.args.chunk c.args.piece c.self.view_is c.requires.whole
    c.requires.orderly c.requires.out x c.index_mut-place.ensures.value in
    let name =
    begins-name s v.geometry
    (order s c.self.invariant v c.args.class c.args.chunk c.args.piece c.self.view_is c.requires.whole
    c.requires.orderly c.requires.out x c.index_mut-place.ensures.value)
    c.args.chunk r.page (Used r.pages Whole) r.begins in
    settles-of s (after c) c.self.invariant c.args.chunk x c.give_run.new.self c.settle.new.place name.0
    (found s c.self.invariant v c.args.class c.args.chunk c.args.piece c.self.view_is c.requires.whole
    c.requires.orderly c.requires.out x c.index_mut-place.ensures.value)
    (ap (λ (p : PlaceState). p.origin) c.give_run.ensures) (ap (λ (p : PlaceState). p.geometry) c.give_run.ensures)
    name.1 refl refl
    c.settle.ensures.lists c.settle.ensures.place c.settle.ensures.list c.settle.ensures.within

pub invariant_of-self : goal.invariant_of-self
invariant_of-self c =
    settle-held c.self.inside (after c) c.args.chunk c.index_mut-place.result.now c.settle.new.place
    (runs_of c.give_run.new.self) (settles c) c.self.invariant c.self.invariant.fronts

pub returns : goal.returns
returns c =
    let s = c.self.inside in
    let v = c.args.self.now in
    let x = c.index_mut-place.result.now in
    let page = c.start.result / s.page in
    let o = out s c.self.invariant v c.args.class c.args.chunk c.args.piece c.self.view_is c.requires.whole
    c.requires.orderly c.requires.out x c.index_mut-place.ensures.value in
    let r = run s c.self.invariant v c.args.class c.args.chunk c.args.piece c.self.view_is c.requires.whole
    c.requires.orderly c.requires.out x c.index_mut-place.ensures.value in
    let at =
    found s c.self.invariant v c.args.class c.args.chunk c.args.piece c.self.view_is c.requires.whole c.requires.orderly
    c.requires.out x c.index_mut-place.ensures.value in
    let page_is : page ≡ r.page =
    ap₂ (λ n p. n / p) c.start.ensures.start c.self.invariant.page
    ∙ whole-page_is (stock_in s) (page-some s.classes c.self.invariant.sizes.page) c.args.class c.args.chunk
    c.args.piece o r in
    let begins = subst (λ (n : ℕ). Begins n (Used r.pages Whole) (runs_of x)) (sym page_is)
    (whole-begins s c.args.class c.args.chunk c.args.piece o r x at) in
    let becomes =
    given-law s (after c) c.self.invariant c.args.chunk page r.pages Whole x c.give_run.new.self c.settle.new.place
    begins
    (some s c.self.invariant v c.args.class c.args.chunk c.args.piece c.self.view_is c.requires.whole c.requires.orderly
    c.requires.out x c.index_mut-place.ensures.value)
    c.give_run.ensures (settles c) (stock_in s).fronts refl in
    let small : is_small s.classes c.args.class ≡ false =
    ap (λ (w : StockState). is_small w.geometry c.args.class) c.self.view_is ∙ c.requires.whole in
    subst (λ (w : StockState). Becomes w (λ a. given_place w.geometry a c.args.class c.args.chunk c.args.piece.start)
    (stock_in (after c))) c.self.view_is
    (record {
      law = λ takings out.
          by-run s.classes c.args.class c.args.chunk page c.args.piece.start (arena_with (stock_in s) takings out) small
          (ap₂ (λ n p. n / p) (sym c.start.ensures.start) (sym c.self.invariant.page))
          ∙ becomes.law takings out;
      geometry = becomes.geometry;
      grounds = becomes.grounds;
    })
