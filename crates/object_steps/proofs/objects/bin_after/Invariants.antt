use Rattle.std.proofs.Common.{◌≡◌, drop}
use Rattle.pool_law.specs.Histories.{after}
use Rattle.object_steps.specs.Behind.{dids_behind}
use Rattle.pool_law.specs.Caches.{bin_step}
use Rattle.object_steps.proofs.objects.bin_after.Given as goal

abbrev pub invariant-loop-did : goal.invariant-loop-did
invariant-loop-did l =
    after (bin_step l.lane l.shape.handles) l.bin (drop l.did-index (dids_behind l.dids))
    ≡ after (bin_step l.lane l.shape.handles) l.initial.bin (dids_behind l.dids)
