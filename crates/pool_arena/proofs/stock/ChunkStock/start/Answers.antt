use Rattle.std.proofs.Common.{refl, sym, ap, subst, arith}
use Rattle.std.specs.Vec.{with_item}
use Rattle.std.proofs.lemmas.List.{length-map}
use Rattle.pool_law.specs.Arenas.{opened}
use Rattle.pool_arena.specs.Places.{PlaceState}
use Rattle.pool_arena.specs.Stocks.{StockState, Becomes, HasNoChunk}
use Rattle.pool_arena.specs.Held.{stock_in}
use Rattle.pool_arena.specs.declared.stock.ChunkStock.TheInside.{Inside}
use Rattle.pool_arena.proofs.ListLaws.{found-is}
use Rattle.pool_arena.proofs.StockLaws.{Written}
use Rattle.pool_arena.proofs.StartLaws.{start-held, start-law}
use Rattle.pool_arena.proofs.stock.ChunkStock.start.Goals as goal

abbrev after : goal.After-add-list → Inside
after c =
    record {
      classes = c.self.inside.classes;
      page = c.self.inside.page;
      places = with_item c.self.inside.places c.args.chunk c.start.new.self;
      lists = c.add-list.new.self;
      fronts = c.self.inside.fronts;
    }

asked : (c : goal.After-add-list) → HasNoChunk (stock_in c.self.inside) c.args.chunk
asked c = subst (λ (v : StockState). HasNoChunk v c.args.chunk) (sym c.self.view_is) c.requires

writes : (c : goal.After-add-list) → Written c.self.inside (after c) c.args.chunk c.index_mut.result.now
    c.start.new.self
writes c =
    let s = c.self.inside in
    record {
      found =
          found-is s.places.items c.args.chunk c.index_mut.result.now
          (omega (arith, (asked c).within, length-map s.places.items (λ (p : PlaceState). p.chunk)))
          c.index_mut.ensures.value;
      items = refl;
      origin = ap (λ (p : PlaceState). p.origin) c.start.ensures;
      geometry = ap (λ (p : PlaceState). p.geometry) c.start.ensures;
      classes = refl;
      page = refl;
      places = ap (λ l. l.places) c.add-list.ensures.lists;
    }

pub invariant_of-self : goal.invariant_of-self
invariant_of-self c =
    start-held c.self.inside (after c) c.args.chunk c.index_mut.result.now c.start.new.self (writes c) c.self.invariant
    (ap (λ (p : PlaceState). p.chunk) c.start.ensures) c.add-list.ensures.lists refl (asked c).unlisted
    c.add-list.result c.add-list.ensures.list (c.add-list.ensures.within (omega arith))

pub returns : goal.returns
returns c =
    subst (λ (v : StockState). Becomes v (λ a. opened v.geometry a c.args.chunk) (stock_in (after c))) c.self.view_is
    (start-law c.self.inside (after c) c.args.chunk c.index_mut.result.now c.start.new.self (writes c) c.self.invariant
    (ap (λ (p : PlaceState). p.chunk) c.start.ensures) c.add-list.ensures.lists refl (asked c).unlisted)
