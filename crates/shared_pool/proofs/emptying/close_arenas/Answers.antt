use Rattle.pool_arena.proofs.NewStockLaws.{All-front, All-last}
use Rattle.shared_pool.specs.Emptying.{IsResting}
use Rattle.shared_pool.proofs.Emptyings.{all_rest}
use Rattle.shared_pool.proofs.emptying.close_arenas.Goals as goal

pub loop-home-init : goal.loop-home-init
loop-home-init c = all_rest c.args.arenas c.empty.new.homes.items c.empty.ensures.many c.empty.ensures.out

pub close_arena-requires : goal.close_arena-requires
close_arena-requires c =
    All-last IsResting c.pop.new.self.items c.loop-home.homes.items c.in-Some.home (c.in-Some.ensures {u = tt}).items
    c.loop-home.invariant

pub loop-home-preserved : goal.loop-home-preserved
loop-home-preserved c =
    All-front IsResting c.pop.new.self.items c.loop-home.homes.items c.in-Some.home (c.in-Some.ensures {u = tt}).items
    c.loop-home.invariant
