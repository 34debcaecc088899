use Rattle.std.proofs.Common.{◌≡◌, ◌≤◌, ◌++◌, length, drop}
use Rattle.std.specs.Prelude.{vec_len, vec_capacity}
use Rattle.pool_law.specs.Composites.{ranges}
use Rattle.composite_buf.proofs.composite.Composite.ranges.Given as goal

abbrev pub invariant-loop-part : goal.invariant-loop-part
invariant-loop-part l = record {
  rest : l.found.items ++ ranges (drop l.part-index l.part-items) l.skip l.left ≡ ranges l.part-items l.start l.len;
  capacity : length l.part-items ≤ vec_capacity l.found;
  room : vec_len l.found ≤ l.part-index;
}
