use Rattle.std.proofs.Common.{◌≡◌, ◌++◌, drop}
use Rattle.run_picture.specs.Svg.{layer_text}
use Rattle.run_picture.proofs.writer.Writer.layer.Given as goal

abbrev pub invariant-loop-mark : goal.invariant-loop-mark
invariant-loop-mark l =
    l.self ++ layer_text (drop l.mark-index l.marks) ≡ l.initial.self ++ layer_text l.marks
