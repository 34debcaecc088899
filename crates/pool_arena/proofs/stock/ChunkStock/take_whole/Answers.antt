use Rattle.std.proofs.Common.{subst}
use Rattle.size_classes.specs.Sizes.{IsGeometry, IsPageClass}
use Rattle.pool_arena.specs.Stocks.{StockState}
use Rattle.pool_arena.proofs.TakeLaws.{whole-wanted}
use Rattle.pool_arena.proofs.stock.ChunkStock.take_whole.Goals as goal

pub cut-requires-clause-wanted : goal.cut-requires-clause-wanted
cut-requires-clause-wanted c =
    let sizes = subst (λ (s : StockState). IsGeometry s.geometry) c.self.view_is c.self.invariant.sizes in
    let page_class = subst (λ (s : StockState). IsPageClass s.geometry c.pages_of-pages.result) c.self.view_is
    c.pages_of-pages.ensures.page_class in
    whole-wanted c.args.self.now.geometry sizes c.pages_of-pages.result page_class
