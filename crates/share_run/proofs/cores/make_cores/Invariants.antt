use Rattle.std.proofs.Common.{◌≡◌, ◌+◌, ◌≤◌, length, vec_len, vec_capacity}
use Rattle.share_run.specs.Standing.{AreFresh}
use Rattle.share_run.proofs.BoardLaws.{CoresTo}
use Rattle.share_run.proofs.cores.make_cores.Given as goal

abbrev pub invariant-loop-lane : goal.invariant-loop-lane
invariant-loop-lane g l = record {
  fresh : AreFresh l.pool l.lane l.seats.items;
  left : vec_len l.seats + l.lane ≡ length l.composites;
  all_cores : CoresTo l.pool l.composites l.lane l.cores.items;
  room : length l.composites ≤ vec_capacity l.cores;
  capacity : vec_capacity l.seats ≡ vec_capacity l.initial.seats;
  enough : length l.composites ≤ vec_capacity l.seats;
}
