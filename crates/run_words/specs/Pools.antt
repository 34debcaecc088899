-- What the words and a trace ask of the pool, and the pool that this gives.
use Rattle.std.specs.Prelude.{ℕ, ◌*◌, ◌≤◌, nat_le, ◌&&◌, ◌^◌, Bool, if◌then◌else◌, List, Option, unwrap_or, Result, Ok, Err}
use Rattle.std.specs.Option.{option_or}
use Rattle.size_classes.specs.Sizes.{chunk_bytes}
use Rattle.size_classes.specs.declared.TheConstants.{DEFAULT_PAGE}
use Rattle.pool_law.specs.declared.command.Command.{Command}
use Rattle.pool_law.specs.declared.run.Level.TheVariants.{Simple}
use Rattle.pool_law.specs.declared.run.Options.{Options}
use Rattle.pool_law.specs.declared.run.Shape.{Shape}
use Rattle.pool_law.specs.Limits.{IsShape, geometry_of}
use Rattle.trace_text.specs.declared.TraceNo.{TraceNo}
use Rattle.trace_text.specs.declared.TraceNo.TheVariants as refusals
use Rattle.trace_text.specs.Reading.{◌>>=◌, reading_of}
use Rattle.run_words.specs.declared.settings.Setting.{Setting}
use Rattle.run_words.specs.declared.settings.Setting.TheVariants.{Order, Arenas, Chunks, Handles, Interval}
use Rattle.run_words.specs.Settings.{row_of}

-- the number that is asked for, or the option's default
abbrev pub or_default : Setting → Option ℕ → ℕ
or_default s asked = unwrap_or asked (row_of s).default

-- what the words ask for, and where they ask for nothing, what the trace asks for
abbrev pub over : Options → Options → Options
over words trace = record {
  page = option_or words.page trace.page;
  order = option_or words.order trace.order;
  arenas = option_or words.arenas trace.arenas;
  chunks = option_or words.chunks trace.chunks;
  handles = option_or words.handles trace.handles;
  level = option_or words.level trace.level;
  interval = option_or words.interval trace.interval;
}

-- the shape of a run of so many lanes; what isn't asked for has its default
abbrev pub shape_of : Options → ℕ → Shape
shape_of o lanes = record {
  page = unwrap_or o.page DEFAULT_PAGE;
  order = or_default Order o.order;
  arenas = or_default Arenas o.arenas;
  chunks = or_default Chunks o.chunks;
  handles = or_default Handles o.handles;
  lanes = lanes;
  level = unwrap_or o.level Simple;
  interval = or_default Interval o.interval;
}

-- the bytes of a chunk
abbrev pub bytes_of_chunk : Options → ℕ
bytes_of_chunk o = chunk_bytes (geometry_of (shape_of o 1))

-- the bytes of all chunks of all arenas
abbrev pub all_chunk_bytes : Options → ℕ
all_chunk_bytes o =
    or_default Arenas o.arenas * (or_default Chunks o.chunks * bytes_of_chunk o)

-- a chunk, and all chunks together, are within their bounds
abbrev pub is_within_memory : Options → Bool
is_within_memory o = nat_le (bytes_of_chunk o) (2 ^ 24) && nat_le (all_chunk_bytes o) (2 ^ 29)

-- they ask for a pool that can be made, for each number of lanes
abbrev pub AreSound : Options → Type 0
AreSound o = (lanes : ℕ) → 1 ≤ lanes → lanes ≤ 16 → IsShape (shape_of o lanes)

-- the lanes of a trace, and what is asked of the pool
abbrev pub Accepted : Type 0
Accepted = List (List Command) × Options

-- the trace, where the pool that is asked for is within its bounds
unfoldable pub within_bounds : Accepted → Result Accepted TraceNo
within_bounds a = if is_within_memory a.1 then Ok a else Err refusals.Options

-- what a text is, beside words that ask this of the pool
unfoldable pub reading_for : Options → List ℕ → Result Accepted TraceNo
reading_for words text = reading_of text >>= (λ read. within_bounds (read.0, over words read.1))
