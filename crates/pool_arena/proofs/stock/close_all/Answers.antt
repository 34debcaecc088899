use Rattle.pool_arena.specs.Closing.{IsAllFree}
use Rattle.pool_arena.proofs.NewStockLaws.{All-front, All-last}
use Rattle.pool_arena.proofs.stock.close_all.Goals as goal

pub close-requires : goal.close-requires
close-requires c =
    All-last IsAllFree c.pop.new.self.items c.loop-place.places.items c.in-Some.place (c.in-Some.ensures {u = tt}).items
    c.loop-place.invariant

pub loop-place-preserved : goal.loop-place-preserved
loop-place-preserved c =
    All-front IsAllFree c.pop.new.self.items c.loop-place.places.items c.in-Some.place
    (c.in-Some.ensures {u = tt}).items c.loop-place.invariant
