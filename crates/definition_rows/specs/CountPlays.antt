-- A root of four bytes that goes from one lane to the next.
use Rattle.pool_law.specs.declared.id.RootId.{RootId}
use Rattle.pool_law.specs.declared.id.ViewData.{ViewData}
use Rattle.pool_law.specs.Logs.{ToldNote}
use Rattle.definition_rows.specs.Notes.{root, view, mail, post, fetch}
use Rattle.definition_rows.specs.Entries.{alone}

-- the root
abbrev pub four : RootId
four = root 0 1 4

-- a view of the whole of it
abbrev pub whole_four : ViewData
whole_four = view four 0 4 0 0

-- the parcel with it, as it goes
abbrev pub sent : ToldNote
sent = alone (mail 0 1 1 (post whole_four))

-- the parcel with it, as it comes
abbrev pub came : ToldNote
came = alone (mail 0 1 1 (fetch whole_four))
