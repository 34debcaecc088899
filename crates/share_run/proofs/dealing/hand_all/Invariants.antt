use Rattle.std.proofs.Common.{◌+◌, ◌<◌, ◌≤◌, length, take, vec_len, vec_capacity}
use Rattle.shared_composite.specs.Boards.{view_of}
use Rattle.share_run.specs.Reading.{Deals, MayRead, Names}
use Rattle.share_run.specs.Standing.{IsChief, spent_by}
use Rattle.share_run.proofs.dealing.hand_all.Given as goal

abbrev pub invariant-loop-read : goal.invariant-loop-read
invariant-loop-read l = record {
  chief : IsChief l.board l.composites 0 l.chief;
  seat : MayRead l.board l.share l.names.items l.seat;
  named : Names l.names.items (take l.read-index l.reads);
  deals : Deals l.share (vec_len l.names) (spent_by l.seat) (view_of l.fn.chief) (view_of l.chief);
  few : vec_len l.names ≤ 1 + l.read-index;
  room : length l.reads < vec_capacity l.names;
}
