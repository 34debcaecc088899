use Rattle.std.proofs.Common.{◌≡◌, ◌++◌, drop}
use Rattle.run_picture.specs.Plotting.{kept_marks}
use Rattle.run_picture.proofs.picture.add_blocks.Given as goal

abbrev pub invariant-loop-block : goal.invariant-loop-block
invariant-loop-block l =
    l.marks.items ++ kept_marks l.least l.chart (drop l.block-index l.blocks)
    ≡ l.initial.marks.items ++ kept_marks l.least l.chart l.blocks
