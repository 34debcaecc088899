use Rattle.std.proofs.Common.{◌≡◌, ◌++◌, drop}
use Rattle.pool_law.specs.Text.{note_lines}
use Rattle.run_report.proofs.writer.Writer.lane_notes.Given as goal

abbrev pub invariant-loop-note : goal.invariant-loop-note
invariant-loop-note l =
    l.initial.self ++ note_lines l.lane l.notes ≡ l.self ++ note_lines l.lane (drop l.note-index l.notes)
