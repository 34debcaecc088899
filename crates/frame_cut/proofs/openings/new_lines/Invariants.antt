use Rattle.std.proofs.Common.{◌≤◌, vec_capacity}
use Rattle.frame_cut.specs.Openings.{AreLines}
use Rattle.frame_cut.proofs.openings.new_lines.Given as goal

abbrev pub invariant-loop : goal.invariant-loop
invariant-loop l = record {
  lines : AreLines l.counter l.queues.items l.senders.items l.receivers.items;
  queues : l.count ≤ vec_capacity l.queues;
  senders : l.count ≤ vec_capacity l.senders;
  receivers : l.count ≤ vec_capacity l.receivers;
}
