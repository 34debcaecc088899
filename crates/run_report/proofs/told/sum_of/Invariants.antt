use Rattle.std.proofs.Common.{◌≡◌, ◌*◌, ◌≤◌, sum, take}
use Rattle.run_report.proofs.told.sum_of.Given as goal

abbrev pub invariant-loop-byte : goal.invariant-loop-byte
invariant-loop-byte l = record {
  exact : l.total ≡ sum (take l.byte-index l.bytes);
  most : l.total ≤ 255 * l.byte-index;
}
