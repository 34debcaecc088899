-- A run that no memory holds.
use Rattle.std.specs.Prelude.{◌^◌, [], ◌∷◌}
use Rattle.pool_law.specs.declared.report.ListName.{ListName}
use Rattle.pool_law.specs.declared.run.Run.{Run}
use Rattle.definition_rows.specs.Notes.{chunk_end}
use Rattle.definition_rows.specs.RootRuns.{smallest}

-- the smallest worked run, but its chunk has more free bytes than a number of 32 bits tells
abbrev pub outsized : Run
outsized = record smallest { chunks = chunk_end 0 ListName.QInit 8192 (2 ^ 32) ∷ [] }
