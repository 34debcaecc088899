use Rattle.std.proofs.Common.{◌≡◌, ◌++◌, drop}
use Rattle.run_picture.specs.Svg.{escaped}
use Rattle.run_picture.proofs.writer.Writer.escaped.Given as goal

abbrev pub invariant-loop-byte : goal.invariant-loop-byte
invariant-loop-byte l =
    l.self ++ escaped (drop l.byte-index l.text) ≡ l.initial.self ++ escaped l.text
