use Rattle.std.proofs.Common.{◌≡◌, ◌+◌, length, map, take, drop}
use Rattle.share_run.specs.declared.readers.Reader.{Reader}
use Rattle.share_run.specs.Reading.{all_spent}
use Rattle.share_run.specs.Standing.{IsChief, spent_by}
use Rattle.share_run.proofs.dealing.gather.Given as goal

abbrev pub invariant-loop-reader : goal.invariant-loop-reader
invariant-loop-reader l = record {
  chief : IsChief l.board l.composites 0 l.chief;
  many : length l.readers ≡ length l.initial.readers;
  left : drop l.reader-index l.readers ≡ drop l.reader-index l.initial.readers;
  seen : map (λ (r : Reader). r.seen.items) (take l.reader-index l.readers)
      ≡ map (λ (r : Reader). r.seen.items) (take l.reader-index l.initial.readers);
  spent : spent_by l.chief ≡ spent_by l.initial.chief + all_spent (take l.reader-index l.initial.readers);
}
