use Rattle.std.proofs.Common.{◌≡◌, ◌≤◌, length, take, vec_len, vec_capacity}
use Rattle.std.specs.Prelude.{All}
use Rattle.share_run.specs.Reading.{FitsWhole, asked_in}
use Rattle.share_run.proofs.readers.reader_of.Given as goal

abbrev pub invariant-loop-composite : goal.invariant-loop-composite
invariant-loop-composite l = record {
  asked : asked_in l.seen.items ≡ take l.composite-index l.reads;
  fits : All (FitsWhole l.wholes) l.seen.items;
  many : vec_len l.seen ≡ l.composite-index;
  room : length l.reads ≤ vec_capacity l.seen;
}
