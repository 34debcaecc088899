use Rattle.std.proofs.Common.{◌≡◌, drop}
use Rattle.pool_law.specs.Histories.{after}
use Rattle.object_steps.specs.Behind.{dids_behind}
use Rattle.pool_law.specs.Roots.{place_step}
use Rattle.object_steps.proofs.objects.place_after.Given as goal

abbrev pub invariant-loop-did : goal.invariant-loop-did
invariant-loop-did l =
    after (place_step l.number) l.place (drop l.did-index (dids_behind l.dids))
    ≡ after (place_step l.number) l.initial.place (dids_behind l.dids)
