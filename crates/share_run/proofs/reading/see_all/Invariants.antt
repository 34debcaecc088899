use Rattle.std.proofs.Common.{◌≡◌, ◌+◌, ◌≤◌}
use Rattle.shared_composite.specs.Boards.{view_of}
use Rattle.share_run.specs.Reading.{Keeps}
use Rattle.share_run.proofs.ReadLaws.{SeenTo}
use Rattle.share_run.proofs.reading.see_all.Given as goal

abbrev pub invariant-loop-read : goal.invariant-loop-read
invariant-loop-read g l = record {
  to : SeenTo l.wholes l.read-index l.initial.seen l.seen;
  keeps : Keeps l.board l.initial.seat l.seat;
  turns : (view_of l.seat).turns ≡ l.turns;
  sections : l.turns + l.read-index ≤ l.initial.turns;
}
