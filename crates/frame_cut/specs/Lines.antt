-- What a run of the program answers, and what stands on standard error.
use Rattle.std.specs.Prelude.{ℕ, [], codes, Some, None}
use Rattle.std.specs.Option.{option_map_or}
use Rattle.pool_law.specs.Text.{Text}
use Rattle.frame_core.specs.declared.frame.FrameNo.{FrameNo}
use Rattle.frame_text.specs.Lines.{refusal_line}
use Rattle.frame_cut.specs.declared.answer.Outcome.{Outcome}
use Rattle.frame_cut.specs.declared.answer.Status.{Status}
use Rattle.frame_cut.specs.declared.answer.Status.TheVariants as statuses

-- a run that told of nothing, one whose stream was refused, and one whose text was made
abbrev pub failed : Status → Outcome
failed status = record { status = status; frames = 0; refusal = None }

abbrev pub refused : FrameNo → Outcome
refused why = record { status = statuses.Input; frames = 0; refusal = Some why }

abbrev pub told : Status → ℕ → Outcome
told status frames = record { status = status; frames = frames; refusal = None }

-- the line of a status beside which there is no refusal; nothing for a text that was written
abbrev pub status_line : Status → Text
status_line statuses.Whole = []
status_line statuses.Words = codes "refused words\n"
status_line statuses.Input = []
status_line statuses.ReadFault = codes "read fault\n"
status_line statuses.WriteFault = codes "write fault\n"
status_line statuses.Memory = codes "out of memory\n"

-- the line of an outcome: that of its refusal, if there is one
abbrev pub line_of : Outcome → Text
line_of o = option_map_or refusal_line o.refusal (status_line o.status)
