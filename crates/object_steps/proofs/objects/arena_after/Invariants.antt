use Rattle.std.proofs.Common.{◌≡◌, drop}
use Rattle.pool_law.specs.Histories.{after}
use Rattle.object_steps.specs.Behind.{dids_behind}
use Rattle.pool_law.specs.Arenas.{arena_step}
use Rattle.object_steps.proofs.objects.arena_after.Given as goal

abbrev pub invariant-loop-did : goal.invariant-loop-did
invariant-loop-did l =
    after (arena_step l.sizes l.number) l.arena (drop l.did-index (dids_behind l.dids))
    ≡ after (arena_step l.sizes l.number) l.initial.arena (dids_behind l.dids)
