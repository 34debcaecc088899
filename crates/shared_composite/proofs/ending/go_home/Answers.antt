use Rattle.std.proofs.Common.{ap}
use Rattle.pool_law.specs.declared.note.Object.TheVariants.{Bin}
use Rattle.handle_bin.specs.Bins.{HandleValue}
use Rattle.lane_stages.specs.declared.retirement.Ending.TheVariants.{Home}
use Rattle.shared_composite.proofs.EndSteps.{gone_home, found_held}
use Rattle.shared_composite.proofs.ending.go_home.Goals as goal

pub returns-in-Did : goal.returns-in-Did
returns-in-Did c =
    gone_home c.args.pool.now c.args.seat.now c.put_handle.new.seat c.in-Did.ensures.seat c.in-Did.ensures.same
    c.in-Did._number c.args.handle c.requires c.in-Did.ensures.did

pub returns-in-Held : goal.returns-in-Held
returns-in-Held c =
    let held = c.in-Held in
    found_held c.args.pool.now c.args.seat.now c.put_handle.new.seat held.ensures.seat held.ensures.same
    (Bin c.args.handle.lane) held.held (Home c.args.handle) (Home held.handle) held.ensures.held.1
    (ap (λ (h : HandleValue). Home h) held.ensures.held.0)
