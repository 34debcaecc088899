use Rattle.std.proofs.Common.{◌≡◌, ℕ, ◌*◌, List, [], length, refl, sym, ap, subst, ◌∙◌, true}
use Rattle.std.specs.Vec.{with_item}
use Rattle.std.specs.Prelude.{slice_get, unwrap_or}
use Rattle.size_classes.specs.Sizes.{Geometry, is_small, chunk_pages}
use Rattle.pool_law.specs.Arenas.{with_subpage}
use Rattle.pool_arena.specs.declared.place.Wanted.{Wanted}
use Rattle.pool_arena.specs.declared.place.Cut.{Cut}
use Rattle.pool_arena.specs.SubpageLists.{SubpagesState}
use Rattle.pool_arena.specs.Stocks.{StockState, Becomes, Yields, run_wanted, IsCutIn}
use Rattle.pool_arena.specs.Held.{stock_in}
use Rattle.pool_arena.proofs.FrontsLaws.{front-found, front-room, rooms-set, with_fronts, fronts-held, enter-law}
use Rattle.pool_arena.proofs.stock.ChunkStock.new_subpage.Goals as goal

pub enter-requires : goal.enter-requires
enter-requires c =
    let s = c.self.inside in
    let cuts = (c.in_ok-chunk.ensures {u = tt}).some in
    let g : s.classes ≡ c.args.self.now.geometry = ap (λ (v : StockState). v.geometry) c.self.view_is
    ∙ cuts.yields.geometry in
    let found = front-found s c.self.invariant c.args.self.now.geometry c.args.class c.index_mut.result.now g
    c.requires.class.0 c.index_mut.ensures.value in
    let fronts : (stock_in s).fronts ≡ c.args.self.now.fronts = ap (λ (v : StockState). v.fronts) c.self.view_is
    ∙ cuts.fronts in
    front-room s c.self.invariant c.args.class c.index_mut.result.now found
    (subst (λ (h : Geometry). is_small h c.args.class ≡ true) (sym g) c.requires.class.1)
    (ap (λ (xs : List (List (ℕ × ℕ))). unwrap_or (slice_get xs c.args.class) []) fronts ∙ c.requires.none)

pub invariant_of-self : goal.invariant_of-self
invariant_of-self c =
    let s = c.self.inside in
    let cuts = (c.in_ok-chunk.ensures {u = tt}).some in
    let g : s.classes ≡ c.args.self.now.geometry = ap (λ (v : StockState). v.geometry) c.self.view_is
    ∙ cuts.yields.geometry in
    let found = front-found s c.self.invariant c.args.self.now.geometry c.args.class c.index_mut.result.now g
    c.requires.class.0 c.index_mut.ensures.value in
    fronts-held s (with_item s.fronts c.args.class c.enter.new.self) c.self.invariant
    (rooms-set (length s.places.items * chunk_pages s.classes) s.classes s.fronts.items c.args.class
    c.index_mut.result.now c.enter.new.self c.self.invariant.fronts found
    (ap (λ (f : SubpagesState). f.room) c.enter.ensures))

pub returns-clause-some : goal.returns-clause-some
returns-clause-some c =
    let s = c.self.inside in
    let old = c.args.self.now in
    let chunk = c.in_ok-chunk.chunk in
    let page = c.in-Subpage.page in
    let cuts = (c.in_ok-chunk.ensures {u = tt}).some in
    let g : s.classes ≡ old.geometry = ap (λ (v : StockState). v.geometry) c.self.view_is ∙ cuts.yields.geometry in
    let found = front-found s c.self.invariant old.geometry c.args.class c.index_mut.result.now g c.requires.class.0
    c.index_mut.ensures.value in
    let given = subst (λ (x : Cut). IsCutIn old chunk (Wanted.Subpage c.args.class) cuts.page x) c.in-Subpage.is
    cuts.given in
    record {
      mid = c.cut.new.self;
      yields =
          subst (λ (n : ℕ). Yields old (run_wanted old (Wanted.Subpage c.args.class)) chunk n c.cut.new.self)
          (sym given) cuts.yields;
      becomes =
          subst (λ (v : StockState). Becomes v (λ a. with_subpage c.args.class (chunk, page, a))
          (stock_in (with_fronts s (with_item s.fronts c.args.class c.enter.new.self))))
          c.self.view_is
          (enter-law s c.args.class chunk page c.index_mut.result.now c.enter.new.self
          (with_item s.fronts c.args.class c.enter.new.self) found c.enter.ensures refl);
    }
