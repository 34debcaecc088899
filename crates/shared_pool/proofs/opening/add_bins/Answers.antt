use Rattle.shared_pool.specs.Opening.{IsFirstBin}
use Rattle.shared_pool.proofs.Openings.{adds_push}
use Rattle.shared_pool.proofs.opening.add_bins.Goals as goal

pub loop-lane-preserved : goal.loop-lane-preserved
loop-lane-preserved c =
    adds_push (IsFirstBin c.args.shape.now.handles) c.loop-lane.lane c.args.homes.now.items c.loop-lane.homes.items
    c.add.new.homes.items c.in_ok-home.home c.loop-lane.invariant c.in_ok-home.ensures c.in_ok-add.ensures
