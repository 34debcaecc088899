use Rattle.shared_composite.proofs.EndSteps.{root_ended, root_ended_uncached}
use Rattle.shared_composite.proofs.ending.retire.Goals as goal

pub returns-then-region-lt-CACHED_CLASSES : goal.returns-then-region-lt-CACHED_CLASSES
returns-then-region-lt-CACHED_CLASSES c =
    let call = c.retire-region in
    root_ended c.args.pool.now c.args.seat.now call.new.seat call.ensures.seat call.ensures.same c.args.token
    call.result.region call.result.handle call.result.number c.requires call.ensures.did call.ensures.region
    call.ensures.handle.0 call.ensures.handle.1 c.if-region-lt-CACHED_CLASSES.true

pub returns-else-region-lt-CACHED_CLASSES : goal.returns-else-region-lt-CACHED_CLASSES
returns-else-region-lt-CACHED_CLASSES c =
    let call = c.retire-region in
    root_ended_uncached c.args.pool.now c.args.seat.now call.new.seat call.ensures.seat call.ensures.same c.args.token
    call.result.region call.result.handle call.result.number c.requires call.ensures.did call.ensures.region
    call.ensures.handle.0 call.ensures.handle.1 c.if-region-lt-CACHED_CLASSES.false
