use Rattle.std.proofs.Common.{◌≡◌, ℕ, ◌<◌, length, map, take, drop, vec_capacity, Some}
use Rattle.std.specs.Prelude.{slice_get}
use Rattle.frame_hash.specs.declared.worker.Worker.{Worker}
use Rattle.frame_cut.specs.Tellings.{HasGot}
use Rattle.frame_cut.proofs.closing.gather.Given as goal

abbrev pub invariant-loop-number : goal.invariant-loop-number
invariant-loop-number l = record {
  left : l.workers.items ≡ drop l.number l.initial.workers.items;
  seats : l.seats.items ≡ map (λ (w : Worker). w.seat) (take l.number l.initial.workers.items);
  seat_room : vec_capacity l.seats ≡ vec_capacity l.initial.seats;
  hashes : l.hashes.items ≡ map (λ (w : Worker). w.hashes) (take l.number l.initial.workers.items);
  hash_room : vec_capacity l.hashes ≡ vec_capacity l.initial.hashes;
  ends : drop l.number l.ends.items ≡ drop l.number l.initial.ends.items;
  ends_many : length l.ends.items ≡ length l.initial.ends.items;
  got : (k : ℕ) (w : Worker) → k < l.number → slice_get l.initial.workers.items k ≡ Some w
      → HasGot l.initial.ends.items k w.jobs;
}
