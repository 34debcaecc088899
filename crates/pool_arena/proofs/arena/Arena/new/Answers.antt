use Rattle.std.proofs.Common.{sym, subst}
use Rattle.size_classes.specs.Sizes.{Geometry, of_pages}
use Rattle.pool_law.specs.Arenas.{Arena}
use Rattle.arena_laws.specs.Orderly.{IsOrderly}
use Rattle.arena_laws.proofs.OrderlyTakes.{new-orderly}
use Rattle.pool_arena.specs.Stocks.{arena_in}
use Rattle.pool_arena.proofs.arena.Arena.new.Goals as goal

pub invariant_of-result : goal.invariant_of-result
invariant_of-result c =
    let made = c.in_ok-stock.ensures {u = tt} in
    record {
      number = c.requires.number;
      orderly =
          subst (λ (g : Geometry). IsOrderly g (arena_in c.in_ok-stock.stock)) (sym made.geometry)
          (subst (λ (a : Arena). IsOrderly (of_pages c.args.order c.args.page) a) (sym made.new)
          (new-orderly (of_pages c.args.order c.args.page) c.args.chunks c.requires.sizes.page
          c.requires.sizes.least));
    }
