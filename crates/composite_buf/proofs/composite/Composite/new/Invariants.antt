use Rattle.std.proofs.Common.{◌≡◌, take}
use Rattle.composite_buf.proofs.composite.Composite.new.Given as goal

abbrev pub invariant-loop-part : goal.invariant-loop-part
invariant-loop-part l = record {
  items : l.part-items ≡ l.parts;
  same : l.composite ≡ take l.part-index l.part-items;
}
