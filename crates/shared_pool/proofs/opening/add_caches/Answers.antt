use Rattle.shared_pool.specs.Opening.{IsFirstCache}
use Rattle.shared_pool.proofs.Openings.{adds_push}
use Rattle.shared_pool.proofs.opening.add_caches.Goals as goal

pub loop-index-preserved : goal.loop-index-preserved
loop-index-preserved c =
    adds_push (IsFirstCache) c.loop-index.index c.args.homes.now.items c.loop-index.homes.items c.add.new.homes.items
    c.in_ok-home.home c.loop-index.invariant c.in_ok-home.ensures c.in_ok-add.ensures
