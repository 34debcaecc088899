use Rattle.std.proofs.Common.{◌≡◌, ◌++◌, drop}
use Rattle.pool_law.specs.Roots.{new_place, place_step}
use Rattle.pool_law.specs.Histories.{after, place_after}
use Rattle.object_steps.specs.Behind.{dids_behind}
use Rattle.object_steps.specs.Telling.{told_of_each}
use Rattle.object_steps.proofs.telling.told_of_each.Given as goal

abbrev pub invariant-loop-did : goal.invariant-loop-did
invariant-loop-did l = record {
  after : after (place_step l.number) l.place (drop l.did-index (dids_behind l.dids))
      ≡ place_after l.number (dids_behind l.dids);
  told : l.told.items ++ told_of_each l.number l.place (drop l.did-index (dids_behind l.dids))
      ≡ told_of_each l.number new_place (dids_behind l.dids);
}
