-- Bytes of parts, one part after another.
use Rattle.std.specs.Prelude.{ℕ, ◌==◌, if◌then◌else◌, List, [], take, Option, Some, None, option_map}
use denote.Ref.{Bor}
use Rattle.pool_law.specs.declared.id.RootId.{RootId}
use Rattle.pool_law.specs.declared.id.Part.{Part}
use Rattle.pool_law.specs.declared.run.Shape.{Shape}
use Rattle.pool_law.specs.Same.{same_bytes}
use Rattle.pool_law.specs.Composites.{filled}
use Rattle.pool_law.specs.Lanes.{copy_parts, release_parts}
use Rattle.pool_law.specs.Dids as says
use Rattle.pool_law.specs.Readers.{ToldNotes, Reader, ◌>>=◌, ◌>>◌, give, nothing, access}
use Rattle.lane_reader.specs.declared.log.Log.{Log}
use Rattle.lane_reader.specs.declared.log.At.{At}
use Rattle.lane_reader.specs.Reading.{log_from}

-- bytes that are read, and the log behind them
abbrev pub reads_bytes :
    ToldNotes → Log → Option (Bor (List ℕ) × At) →
    Option (List ℕ × Rattle.pool_law.specs.Readers.Log)
reads_bytes before log o = option_map (λ p. (p.0.now, log_from before log p.1)) o

-- the log behind bytes that are read, where they are these
abbrev pub where_same :
    List ℕ → Option (List ℕ × Rattle.pool_law.specs.Readers.Log) →
    Option (Unit {0} × Rattle.pool_law.specs.Readers.Log)
where_same these None = None
where_same these (Some p) = if same_bytes p.0 these then Some (tt, p.1) else None

-- the first bytes are set in the part, where it is not empty
abbrev pub set_filled : Part → List ℕ → Reader (Unit {0})
set_filled p bytes =
    if p.len == 0 then nothing else access p.root (says.set p.offset (take p.len bytes))

-- the part's bytes are got, where it is not empty
abbrev pub get_filled : Part → Reader (List ℕ)
get_filled p = if p.len == 0 then give [] else access p.root (says.get p.offset p.len)

-- the part's bytes are copied to a root at an index, where it is not empty
abbrev pub copy_filled : RootId → ℕ → Part → Reader (Unit {0})
copy_filled root at p =
    if p.len == 0
    then nothing
    else access p.root (says.get p.offset p.len) >>= (λ bytes. access root (says.set at bytes))

-- the parts are copied to a root, and then released
abbrev pub moved_parts : Shape → RootId → List Part → Reader (Unit {0})
moved_parts shape root parts = copy_parts root 0 (filled parts) >> release_parts shape parts
