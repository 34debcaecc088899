use Rattle.std.proofs.Common.{◌≡◌, ◌+◌, ◌-◌, ◌*◌, ◌≤◌, length, take, drop}
use Rattle.std.specs.Prelude.{All}
use Rattle.shared_composite.specs.Boards.{view_of}
use Rattle.share_run.specs.Reading.{IsReady, all_spent, asked_of, moves_for}
use Rattle.share_run.specs.Standing.{IsChief, spent_by}
use Rattle.share_run.proofs.dealing.deal_all.Given as goal

abbrev pub invariant-loop-reader : goal.invariant-loop-reader
invariant-loop-reader l = record {
  chief : IsChief l.board l.composites 0 l.chief;
  turns : l.composites + (length l.readers - l.reader-index) * l.share ≤ (view_of l.chief).turns;
  moves : moves_for (asked_of (drop l.reader-index l.initial.readers)) ≤ (view_of l.chief).moves;
  many : length l.readers ≡ length l.initial.readers;
  left : drop l.reader-index l.readers ≡ drop l.reader-index l.initial.readers;
  ready : All (IsReady l.board l.wholes) (take l.reader-index l.readers);
  asked : asked_of (take l.reader-index l.readers) ≡ asked_of (take l.reader-index l.initial.readers);
  spent : spent_by l.chief + all_spent (take l.reader-index l.readers) ≡ spent_by l.initial.chief;
}
