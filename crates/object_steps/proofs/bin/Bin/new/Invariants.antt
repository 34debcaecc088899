use Rattle.std.proofs.Common.{◌≡◌, ◌*◌}
use Rattle.object_steps.specs.Homing.{AreAtHome}
use Rattle.object_steps.proofs.BinLemmas.{places_from}
use Rattle.object_steps.proofs.bin.Bin.new.Given as goal

abbrev pub invariant-loop-index : goal.invariant-loop-index
invariant-loop-index l = record {
  places : l.places.items ≡ places_from (l.lane * l.handles) l.index;
  home : AreAtHome l.home l.places.items;
}
