use Rattle.std.proofs.Common.{◌≡◌, ◌≤◌, length, vec_len, vec_capacity}
use Rattle.share_run.specs.Standing.{IsFilling}
use Rattle.share_run.proofs.parts.fill.Given as goal

abbrev pub invariant-loop-number : goal.invariant-loop-number
invariant-loop-number g l = record {
  filling : IsFilling l.pool l.lane l.parts l.number l.placed.items l.seat;
  many : vec_len l.placed ≡ l.number;
  room : length l.parts ≤ vec_capacity l.placed;
}
