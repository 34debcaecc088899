use Rattle.std.proofs.Common.{◌≡◌, ◌≤◌, length}
use Rattle.shared_composite.specs.Boards.{view_of}
use Rattle.share_run.specs.Reading.{Keeps}
use Rattle.share_run.proofs.reading.read_whole.Given as goal

abbrev pub invariant-loop : goal.invariant-loop
invariant-loop g l = record {
  keeps : Keeps l.board l.initial.seat l.seat;
  turns : (view_of l.seat).turns ≡ l.turns;
  len : length l.out ≡ length l.initial.out;
  no_more : l.turns ≤ l.initial.turns;
}
