use Rattle.std.proofs.Common.{sym, subst}
use Rattle.pool_arena.specs.Stocks.{StockState}
use Rattle.pool_arena.specs.Closing.{IsResting, HasNoFront}
use Rattle.pool_arena.proofs.RestLaws.{places-free}
use Rattle.pool_arena.proofs.stock.ChunkStock.close.Goals as goal

pub close_all-requires : goal.close_all-requires
close_all-requires c =
    places-free c.self.inside c.self.invariant
    (subst (λ (w : StockState). IsResting w) (sym c.self.view_is) c.drop_idle.ensures.rests)
    (subst (λ (w : StockState). HasNoFront w) (sym c.self.view_is) c.drop_idle.ensures.none)
