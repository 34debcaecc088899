use Rattle.shared_pool.specs.Opening.{IsNewRoot}
use Rattle.shared_pool.proofs.Openings.{adds_push}
use Rattle.shared_pool.proofs.opening.add_roots.Goals as goal

pub loop-preserved : goal.loop-preserved
loop-preserved c =
    adds_push (λ k. IsNewRoot) c.loop.counter c.args.homes.now.items c.loop.homes.items c.add.new.homes.items
    c.in_ok-home.home c.loop.invariant c.in_ok-home.ensures c.in_ok-add.ensures
