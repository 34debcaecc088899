use Rattle.std.proofs.Common.{◌≡◌, ◌≤◌, drop, vec_capacity}
use Rattle.frame_cut.specs.Openings.{AreNewWorkers}
use Rattle.frame_cut.proofs.starting.new_workers.Given as goal

abbrev pub invariant-loop-number : goal.invariant-loop-number
invariant-loop-number l = record {
  ready : AreNewWorkers l.count l.initial.seats.items l.initial.receivers.items l.number l.workers.items;
  seats : l.seats.items ≡ drop l.number l.initial.seats.items;
  receivers : l.receivers.items ≡ drop l.number l.initial.receivers.items;
  capacity : vec_capacity l.seats ≡ vec_capacity l.initial.seats;
  room : l.count ≤ vec_capacity l.workers;
}
