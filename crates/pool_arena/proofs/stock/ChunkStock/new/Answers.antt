use Rattle.std.proofs.Common.{ℕ, ◌*◌, ap, refl}
use Rattle.pool_arena.specs.declared.stock.ChunkStock.TheInside.{Inside}
use Rattle.pool_arena.proofs.NewStockLaws.{new-held, new-state}
use Rattle.pool_arena.proofs.stock.ChunkStock.new.Goals as goal

abbrev made : goal.In_ok-places → Inside
made c =
    record {
      classes = c.in_ok-classes.classes;
      page = c.args.page;
      places = c.in_ok-places.places;
      lists =
          c.in_ok-lists.lists;
      fronts = c.in_ok-fronts.fronts;
    }

pub invariant_of-result : goal.invariant_of-result
invariant_of-result c =
    new-held (made c) c.args.order c.args.page c.args.chunks (c.args.chunks * c.pow.result) refl c.requires.sizes
    c.requires.chunks.0 c.requires.chunks.1
    (c.in_ok-classes.ensures {u = tt}) (c.in_ok-lists.ensures {u = tt}) (c.in_ok-places.ensures {u = tt}).count
    (c.in_ok-places.ensures {u = tt}).unused
    (ap (λ (n : ℕ). c.args.chunks * n) c.pow.ensures) (c.in_ok-fronts.ensures {u = tt})

pub returns-clause-new : goal.returns-clause-new
returns-clause-new c =
    new-state (made c) c.args.order c.args.page c.args.chunks (c.args.chunks * c.pow.result) refl c.requires.sizes
    c.requires.chunks.0 c.requires.chunks.1
    (c.in_ok-classes.ensures {u = tt}) (c.in_ok-lists.ensures {u = tt}) (c.in_ok-places.ensures {u = tt}).count
    (c.in_ok-places.ensures {u = tt}).unused
    (ap (λ (n : ℕ). c.args.chunks * n) c.pow.ensures) (c.in_ok-fronts.ensures {u = tt})
