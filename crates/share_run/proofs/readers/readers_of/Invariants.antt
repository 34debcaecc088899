use Rattle.std.proofs.Common.{◌≡◌, ◌≤◌, length, take, vec_len, vec_capacity}
use Rattle.share_run.specs.Reading.{AreBlank, asked_of}
use Rattle.share_run.proofs.readers.readers_of.Given as goal

abbrev pub invariant-loop-reads : goal.invariant-loop-reads
invariant-loop-reads l = record {
  blank : AreBlank l.wholes l.made.items;
  asked : asked_of l.made.items ≡ take l.reads-index l.readers;
  many : vec_len l.made ≡ l.reads-index;
  room : length l.readers ≤ vec_capacity l.made;
}
