use Rattle.std.proofs.Common.{◌≡◌, ◌++◌, drop}
use Rattle.share_text.specs.Lines.{composite_lines}
use Rattle.share_text.proofs.lines.write_composite_lines.Given as goal

abbrev pub invariant-loop-number : goal.invariant-loop-number
invariant-loop-number l =
    l.initial.writer ++ composite_lines 0 l.released
    ≡ l.writer ++ composite_lines l.number (drop l.number l.released)
