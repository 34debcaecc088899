use Rattle.std.proofs.Common.{◌≡◌, sym, false, ◌≤◌, subst, arith}
use Rattle.size_classes.specs.Sizes.{is_small, class_count}
use Rattle.pool_arena.specs.Stocks.{StockState}
use Rattle.pool_arena.proofs.ArenaLaws.{past-not_small}
use Rattle.pool_arena.proofs.stock.ChunkStock.is_small.Goals as goal

pub returns-then-class-count : goal.returns-then-class-count
returns-then-class-count c =
    let past : class_count c.self.inside.classes ≤ c.args.class =
    omega (arith, c.count.ensures, c.if-class-count.true) in
    subst (λ (v : StockState). false ≡ is_small v.geometry c.args.class) c.self.view_is
    (sym (past-not_small c.self.inside.classes c.self.invariant.sizes.page c.args.class c.self.invariant.least past))
