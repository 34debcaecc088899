use Rattle.shared_pool.specs.Opening.{IsFirstArena}
use Rattle.shared_pool.proofs.Openings.{adds_push}
use Rattle.shared_pool.proofs.opening.add_arenas.Goals as goal

pub loop-number-preserved : goal.loop-number-preserved
loop-number-preserved c =
    adds_push (IsFirstArena c.args.shape.now) c.loop-number.number c.args.homes.now.items c.loop-number.homes.items
    c.add.new.homes.items c.in_ok-home.home c.loop-number.invariant c.in_ok-home.ensures c.in_ok-add.ensures
