use Rattle.std.proofs.Common.{◌≡◌, drop}
use Rattle.shared_composite.specs.Boards.{view_of, IsSeatOf}
use Rattle.share_run.specs.Reading.{Covers}
use Rattle.share_run.specs.Standing.{spent_by}
use Rattle.share_run.proofs.reading.let_go_all.Given as goal

abbrev pub invariant-loop-k : goal.invariant-loop-k
invariant-loop-k g l = record {
  own : IsSeatOf l.board l.seat;
  covers : Covers (drop l.k-index l.names) (view_of l.seat);
  spent : spent_by l.seat ≡ spent_by l.initial.seat;
}
