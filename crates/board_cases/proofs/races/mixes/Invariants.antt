use Rattle.std.proofs.Common.{◌≡◌, ◌-◌, ◌≤◌}
use Rattle.board_cases.specs.Seats.{Can, used}
use Rattle.board_cases.proofs.races.mixes.Given as goal

abbrev pub invariant-loop-round : goal.invariant-loop-round
invariant-loop-round g l = record {
  can : Can l.board (128 - l._round) (129 - l._round) l.seat;
  within : l._round ≤ 128;
  all : used l.seat ≡ used l.initial.seat;
}
