use Rattle.std.proofs.Common.{◌≡◌, ◌++◌, drop}
use Rattle.share_text.specs.Lines.{reader_lines}
use Rattle.share_text.proofs.lines.write_reader_lines.Given as goal

abbrev pub invariant-loop-number : goal.invariant-loop-number
invariant-loop-number l =
    l.initial.writer ++ reader_lines l.reader 0 l.seen
    ≡ l.writer ++ reader_lines l.reader l.number (drop l.number l.seen)
