use Rattle.std.proofs.Common.{◌≡◌, drop}
use Rattle.pool_law.specs.Histories.{after}
use Rattle.object_steps.specs.Behind.{dids_behind}
use Rattle.pool_law.specs.Caches.{lane_cache_step}
use Rattle.object_steps.proofs.objects.cache_after.Given as goal

abbrev pub invariant-loop-did : goal.invariant-loop-did
invariant-loop-did l =
    after (lane_cache_step l.lane l.class) l.cache (drop l.did-index (dids_behind l.dids))
    ≡ after (lane_cache_step l.lane l.class) l.initial.cache (dids_behind l.dids)
