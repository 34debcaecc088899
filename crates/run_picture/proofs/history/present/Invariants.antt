use Rattle.std.proofs.Common.{◌≡◌, ◌++◌, drop}
use Rattle.run_picture.specs.Slots.{dones_in, slots_in, present}
use Rattle.run_picture.proofs.history.present.Given as goal

abbrev pub invariant-loop-slot : goal.invariant-loop-slot
invariant-loop-slot l =
    dones_in l.dones.items ++ present (slots_in (drop l.slot-index l.slots)) ≡ present (slots_in l.slots)
