-- What stands on standard error.
use Rattle.std.specs.Prelude.{[], codes}
use Rattle.pool_law.specs.Text.{Text}
use Rattle.share_run.specs.declared.answer.Status.{Status}
use Rattle.share_run.specs.declared.answer.Status.TheVariants as statuses

-- the line of a status; nothing for a text that was written
abbrev pub status_line : Status → Text
status_line statuses.Whole = []
status_line statuses.Words = codes "refused words\n"
status_line statuses.Input = codes "refused input\n"
status_line statuses.ReadFault = codes "read fault\n"
status_line statuses.WriteFault = codes "write fault\n"
status_line statuses.Memory = codes "out of memory\n"
