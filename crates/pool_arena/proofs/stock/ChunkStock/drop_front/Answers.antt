use Rattle.std.proofs.Common.{◌≡◌, ℕ, ◌<◌, sym, ap, ◌∙◌, subst, true}
use Rattle.size_classes.specs.Sizes.{Geometry, class_count, is_small}
use Rattle.pool_arena.specs.Stocks.{StockState, arena_in}
use Rattle.pool_arena.specs.Closing.{IsResting}
use Rattle.pool_arena.proofs.FrontsLaws.{front-index, front-seen}
use Rattle.pool_arena.proofs.SmallLaws.{first-is}
use Rattle.pool_arena.proofs.SmallGiveLaws.{small-class}
use Rattle.pool_arena.proofs.RestLaws.{first-idle, first-there, dropped-resting, dropped-shorter, dropped-other}
use Rattle.pool_arena.proofs.stock.ChunkStock.drop_front.Goals as goal

-- the class is small, in the geometry that never changes
small-at : (v : StockState) (g : Geometry) (class : ℕ) → v.geometry ≡ g → is_small g class ≡ true
    → is_small v.geometry class ≡ true
small-at v g class same small = subst (λ (h : Geometry). is_small h class ≡ true) (sym same) small

less-at : (v : StockState) (g : Geometry) (class : ℕ) → IsResting v → v.geometry ≡ g → is_small g class ≡ true
    → class < class_count v.geometry
less-at v g class resting same small =
    small-class v.geometry (arena_in v) class resting.orderly (small-at v g class same small)

pub index-requires : goal.index-requires
index-requires c =
    let v = c.loop-spot.self in
    front-index c.self.inside c.self.invariant v.geometry c.args.class
    (ap (λ (w : StockState). w.geometry) c.self.view_is)
    (less-at v c.args.self.now.geometry c.args.class c.loop-spot.invariant.rests c.loop-spot.invariant.geometry
    c.requires.small)

pub drop_subpage-requires-clause-class : goal.drop_subpage-requires-clause-class
drop_subpage-requires-clause-class c =
    less-at c.loop-spot.self c.args.self.now.geometry c.args.class c.loop-spot.invariant.rests
    c.loop-spot.invariant.geometry c.requires.small

pub drop_subpage-requires-clause-idle : goal.drop_subpage-requires-clause-idle
drop_subpage-requires-clause-idle c =
    let v = c.loop-spot.self in
    let small = small-at v c.args.self.now.geometry c.args.class c.loop-spot.invariant.geometry c.requires.small in
    let less = less-at v c.args.self.now.geometry c.args.class c.loop-spot.invariant.rests
    c.loop-spot.invariant.geometry c.requires.small in
    let first = first-is c.index.result.now.subpages c.in-Some.spot (c.in-Some.ensures {u = tt}) in
    first-idle v c.loop-spot.invariant.rests c.args.class c.in-Some.spot.chunk c.in-Some.spot.page first.0 small
    (front-seen c.self.inside v c.args.class c.index.result.now c.self.invariant c.self.view_is less c.index.ensures
    ∙ first.1)

pub drop_subpage-requires-clause-there : goal.drop_subpage-requires-clause-there
drop_subpage-requires-clause-there c =
    let v = c.loop-spot.self in
    let small = small-at v c.args.self.now.geometry c.args.class c.loop-spot.invariant.geometry c.requires.small in
    let less = less-at v c.args.self.now.geometry c.args.class c.loop-spot.invariant.rests
    c.loop-spot.invariant.geometry c.requires.small in
    let first = first-is c.index.result.now.subpages c.in-Some.spot (c.in-Some.ensures {u = tt}) in
    first-there v c.loop-spot.invariant.rests c.args.class c.in-Some.spot.chunk c.in-Some.spot.page first.0 small
    (front-seen c.self.inside v c.args.class c.index.result.now c.self.invariant c.self.view_is less c.index.ensures
    ∙ first.1)

pub loop-spot-smaller : goal.loop-spot-smaller
loop-spot-smaller c =
    let v = c.loop-spot.self in
    let small = small-at v c.args.self.now.geometry c.args.class c.loop-spot.invariant.geometry c.requires.small in
    let less = less-at v c.args.self.now.geometry c.args.class c.loop-spot.invariant.rests
    c.loop-spot.invariant.geometry c.requires.small in
    let first = first-is c.index.result.now.subpages c.in-Some.spot (c.in-Some.ensures {u = tt}) in
    dropped-shorter v c.loop-spot.invariant.rests c.args.class c.in-Some.spot.chunk c.in-Some.spot.page first.0 small
    (front-seen c.self.inside v c.args.class c.index.result.now c.self.invariant c.self.view_is less c.index.ensures
    ∙ first.1)
    c.drop_subpage.new.self c.drop_subpage.ensures

pub loop-spot-preserved : goal.loop-spot-preserved
loop-spot-preserved c =
    let v = c.loop-spot.self in
    let small = small-at v c.args.self.now.geometry c.args.class c.loop-spot.invariant.geometry c.requires.small in
    let less = less-at v c.args.self.now.geometry c.args.class c.loop-spot.invariant.rests
    c.loop-spot.invariant.geometry c.requires.small in
    let first = first-is c.index.result.now.subpages c.in-Some.spot (c.in-Some.ensures {u = tt}) in
    let front = front-seen c.self.inside v c.args.class c.index.result.now c.self.invariant c.self.view_is less
    c.index.ensures ∙ first.1 in
    record {
      rests =
          dropped-resting v c.loop-spot.invariant.rests c.args.class c.in-Some.spot.chunk c.in-Some.spot.page first.0
          small front c.drop_subpage.new.self c.drop_subpage.ensures;
      geometry = c.drop_subpage.ensures.geometry ∙ c.loop-spot.invariant.geometry;
      others = λ k other.
          dropped-other v c.loop-spot.invariant.rests c.args.class c.in-Some.spot.chunk c.in-Some.spot.page first.0
          small front c.drop_subpage.new.self c.drop_subpage.ensures k other
          ∙ c.loop-spot.invariant.others k other;
    }

pub returns-clause-none : goal.returns-clause-none
returns-clause-none c =
    let v = c.loop-spot.self in
    let less = less-at v c.args.self.now.geometry c.args.class c.loop-spot.invariant.rests
    c.loop-spot.invariant.geometry c.requires.small in
    front-seen c.self.inside v c.args.class c.index.result.now c.self.invariant c.self.view_is less c.index.ensures
    ∙ c.in_default.ensures {u = tt}
