use Rattle.std.proofs.Common.{ap}
use Rattle.pool_law.specs.declared.id.Region.{Region}
use Rattle.pool_law.specs.declared.note.Object.TheVariants.{Arena as ArenaObject}
use Rattle.lane_stages.specs.declared.retirement.Ending.TheVariants.{Arena}
use Rattle.shared_composite.proofs.EndSteps.{given_back, found_held}
use Rattle.shared_composite.proofs.ending.give_back.Goals as goal

pub returns-in-Did : goal.returns-in-Did
returns-in-Did c =
    given_back c.args.pool.now c.args.seat.now c.give.new.seat c.in-Did.ensures.seat c.in-Did.ensures.same
    c.in-Did._number c.args.handle c.args.region c.requires c.in-Did.ensures.did

pub returns-in-Held : goal.returns-in-Held
returns-in-Held c =
    let held = c.in-Held in
    found_held c.args.pool.now c.args.seat.now c.give.new.seat held.ensures.seat held.ensures.same
    (ArenaObject c.args.region.id.place.arena) held.held (Arena c.args.region c.args.handle)
    (Arena held.region c.args.handle) held.ensures.held.1
    (ap (λ (r : Region). Arena r c.args.handle) held.ensures.held.0)
