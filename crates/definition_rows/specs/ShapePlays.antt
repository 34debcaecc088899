-- Pools at the edges of what their measures may be.
use Rattle.std.specs.Prelude.{ℕ, zero, suc, List, [], ◌∷◌}
use Rattle.pool_law.specs.declared.command.Command.{Command}
use Rattle.pool_law.specs.declared.run.Level.{Level}
use Rattle.pool_law.specs.declared.run.Shape.{Shape}
use Rattle.definition_rows.specs.Notes.{default_shape}

-- two lanes with three handles each
abbrev pub two_lanes : Shape
two_lanes = record (default_shape 2) { handles = 3 }

-- the least of all measures
abbrev pub least_shape : Shape
least_shape =
    record {
      page = 8192;
      order = 3;
      arenas = 1;
      chunks = 1;
      handles = 1;
      lanes = 1;
      level = Level.Disabled;
      interval = 1;
    }

-- the greatest measures that all the chunks together allow: 4 arenas of 8 chunks of 16 MiB
abbrev pub greatest_shape : Shape
greatest_shape =
    record {
      page = 8192;
      order = 11;
      arenas = 4;
      chunks = 8;
      handles = 4096;
      lanes = 16;
      level = Level.Paranoid;
      interval = 65536;
    }

-- so many touches of a name
abbrev pub touches : ℕ → List Command
touches zero = []
touches (suc n) = Command.Touch 0 ∷ touches n

-- so many names
abbrev pub same_names : ℕ → List ℕ
same_names zero = []
same_names (suc n) = 0 ∷ same_names n
