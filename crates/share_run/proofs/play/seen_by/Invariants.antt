use Rattle.std.proofs.Common.{◌≡◌, ◌≤◌, map, vec_len, vec_capacity}
use Rattle.share_run.specs.declared.readers.Reader.{Reader}
use Rattle.share_run.proofs.play.seen_by.Given as goal

abbrev pub invariant-loop-reader : goal.invariant-loop-reader
invariant-loop-reader l = record {
  seen : l.seen.items ≡ map (λ (r : Reader). r.seen.items) l.yielded;
  room : vec_len l.fn.readers ≤ vec_capacity l.seen;
}
