-- A seat's own part, as the law of lanes reads it.
use Rattle.std.specs.Prelude.{List, map, None}
use Rattle.pool_law.specs.declared.note.Note.TheVariants as note
use Rattle.pool_law.specs.Logs.{ToldNote}
use Rattle.pool_law.specs.NotedHistories.{entry_of_noted}
use Rattle.pool_table.specs.declared.views.Entry.{Entry}
use Rattle.pool_table.specs.declared.views.Entry.TheVariants.{At, Ref, Busy}
use Rattle.pool_table.specs.declared.views.SeatView.{SeatView}

abbrev pub law_entry : Entry → ToldNote
law_entry (At o k n) = entry_of_noted o k n
law_entry (Ref r d) = record { note = note.Ref r d; root = None; region = None }
law_entry (Busy b) = record { note = note.Busy b; root = None; region = None }

-- the entries of the seat's own part
abbrev pub lane_entries : SeatView → List ToldNote
lane_entries v = map law_entry v.own.notes
