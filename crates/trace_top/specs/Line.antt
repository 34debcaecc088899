-- The line on standard error for an outcome.
use Rattle.std.specs.Prelude.{ℕ, List, [], ◌∷◌, ◌++◌, Option, Some, None, codes}
use Rattle.std.specs.Fmt.{decimal}
use Rattle.trace_text.specs.declared.Limit.{Limit}
use Rattle.trace_text.specs.declared.Limit.TheVariants as limits
use Rattle.trace_text.specs.declared.TraceNo.{TraceNo}
use Rattle.trace_text.specs.declared.TraceNo.TheVariants as refusals
use Rattle.trace_top.specs.declared.answer.Status.{Status}
use Rattle.trace_top.specs.declared.answer.Status.TheVariants.{Whole, Leaks, Words, Trace, ReadFault, WriteFault, Memory}

-- the word of a limit
abbrev pub limit_text : Limit → List ℕ
limit_text limits.Text = codes "text"
limit_text limits.Lanes = codes "lanes"
limit_text limits.Commands = codes "commands"
limit_text limits.Bytes = codes "bytes"

-- why a text is no trace, by lane and line
unfoldable pub refusal_text : TraceNo → List ℕ
refusal_text refusals.Syntax = codes "syntax"
refusal_text (refusals.Shape lane line) =
    codes "shape " ++ decimal lane ++ codes "." ++ decimal line
refusal_text (refusals.Limit limit) = codes "limit " ++ limit_text limit
refusal_text (refusals.Stuck lane line) =
    codes "stuck " ++ decimal lane ++ codes "." ++ decimal line
refusal_text refusals.Memory = codes "memory"
refusal_text refusals.Options = codes "options"

-- the line of a text that is refused
abbrev pub refused_line : Option TraceNo → List ℕ
refused_line None = []
refused_line (Some why) = codes "refused " ++ refusal_text why ++ 10 ∷ []

-- the line of a status; nothing for a run that was written
unfoldable pub status_line : Status → Option TraceNo → List ℕ
status_line Whole why = []
status_line Leaks why = []
status_line Words why = codes "refused words\n"
status_line Trace why = refused_line why
status_line ReadFault why = codes "read fault\n"
status_line WriteFault why = codes "write fault\n"
status_line Memory why = codes "out of memory\n"
