use Rattle.std.proofs.Common.{◌≡◌, ◌++◌, drop}
use Rattle.share_text.specs.Lines.{all_lines}
use Rattle.share_text.proofs.lines.write_all_lines.Given as goal

abbrev pub invariant-loop-reader : goal.invariant-loop-reader
invariant-loop-reader l = l.initial.writer ++ all_lines 0 l.seen ≡ l.writer ++ all_lines l.reader (drop l.reader l.seen)
