use Rattle.std.proofs.Common.{◌≡◌, ◌++◌, drop}
use Rattle.nest_run.specs.Lines.{reply_lines}
use Rattle.nest_run.proofs.text.write_replies.Given as goal

abbrev pub invariant-loop-number : goal.invariant-loop-number
invariant-loop-number l =
    l.initial.writer ++ reply_lines 0 l.replies ≡ l.writer ++ reply_lines l.number (drop l.number l.replies)
