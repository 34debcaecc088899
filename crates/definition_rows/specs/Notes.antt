-- Short words for the notes, the replies and the ends of the worked runs.
use Rattle.std.specs.Prelude.{ℕ, zero, suc, ◌+◌, List, [], ◌∷◌, ◌++◌, codes, Some, None}
use Prim.Native.String.{String}
use Rattle.pool_law.specs.declared.id.Place.{Place}
use Rattle.pool_law.specs.declared.id.RootId.{RootId}
use Rattle.pool_law.specs.declared.id.RegionId.{RegionId}
use Rattle.pool_law.specs.declared.id.ViewData.{ViewData}
use Rattle.pool_law.specs.declared.note.Object.{Object}
use Rattle.pool_law.specs.declared.note.Did.{Did}
use Rattle.pool_law.specs.declared.note.Note.{Note}
use Rattle.pool_law.specs.declared.report.ListName.{ListName}
use Rattle.pool_law.specs.declared.report.ChunkEnd.{ChunkEnd}
use Rattle.pool_law.specs.declared.report.Access.{Access}
use Rattle.pool_law.specs.declared.report.Leak.{Leak}
use Rattle.pool_law.specs.declared.run.Level.{Level}
use Rattle.pool_law.specs.declared.run.Shape.{Shape}
use Rattle.pool_law.specs.declared.run.Reply.{Reply}
use Rattle.pool_law.specs.declared.run.Answered.{Answered}

-- the pool of a command line without words
abbrev pub default_shape : ℕ → Shape
default_shape lanes =
    record {
      page = 8192;
      order = 9;
      arenas = 2;
      chunks = 4;
      handles = 1024;
      lanes = lanes;
      level = Level.Simple;
      interval = 128;
    }

-- a pool of one arena with one chunk, for one lane
abbrev pub one_chunk : ℕ → Shape
one_chunk order = record (default_shape 1) { order = order; arenas = 1; chunks = 1 }

-- so many bytes at an offset of the first chunk
abbrev pub place : ℕ → ℕ → Place
place offset len = record { arena = 0; chunk = 0; offset = offset; len = len }

-- a taking of the first lane, which so many roots have used
abbrev pub region : Place → ℕ → ℕ → ℕ → RegionId
region place class taking uses =
    record { place = place; class = class; taking = taking; uses = uses; owner = 0 }

-- the first taking of the least class, at the front of the first chunk
abbrev pub least_region : ℕ → RegionId
least_region uses = region (place 0 16) 0 1 uses

-- a root by its place, its birth there and its bytes
abbrev pub root : ℕ → ℕ → ℕ → RootId
root place generation capacity =
    record { place = place; generation = generation; capacity = capacity }

-- a window on a root
abbrev pub view : RootId → ℕ → ℕ → ℕ → ℕ → ViewData
view root offset len reader writer =
    record { root = root; offset = offset; len = len; reader = reader; writer = writer }

-- a note at an arena, with its number
abbrev pub arena : ℕ → ℕ → Did → Note
arena number n did = Note.At (Object.Arena number) n did

-- a note at the cache of a lane and class
abbrev pub cache : ℕ → ℕ → ℕ → Did → Note
cache lane class n did = Note.At (Object.Cache lane class) n did

-- a note at the bin of a lane
abbrev pub bin : ℕ → ℕ → Did → Note
bin lane n did = Note.At (Object.Bin lane) n did

-- a note at the mail between two lanes
abbrev pub mail : ℕ → ℕ → ℕ → Did → Note
mail from to n did = Note.At (Object.Mail from to) n did

-- a note at a root place
abbrev pub root_place : ℕ → ℕ → Did → Note
root_place place n did = Note.At (Object.Root place) n did

-- a parcel with a view goes
abbrev pub post : ViewData → Did
post v = Did.Post (record { view = Some v })

-- a parcel with a view comes
abbrev pub fetch : ViewData → Did
fetch v = Did.Fetch (record { view = Some v })

-- an empty parcel goes
abbrev pub post_nothing : Did
post_nothing = Did.Post (record { view = None })

-- an empty parcel comes
abbrev pub fetch_nothing : Did
fetch_nothing = Did.Fetch (record { view = None })

-- so many caches of a lane, from a class on, are closed before anything else is noted there
abbrev pub closes : ℕ → ℕ → ℕ → List Note
closes lane class zero = []
closes lane class (suc n) = cache lane class 1 (Did.Close 0) ∷ closes lane (class + 1) n

-- a reply, and how many notes its command made
abbrev pub answered : Reply → ℕ → Answered
answered reply notes = record { reply = reply; notes = notes }

-- a chunk of the first arena at the end
abbrev pub chunk_end : ℕ → ListName → ℕ → ℕ → ChunkEnd
chunk_end number list used free =
    record { arena = 0; chunk = number; list = list; used = used; free = free }

-- a root of the first lane that is live at the end
abbrev pub leak : ℕ → ℕ → ℕ → List Access → ℕ → Leak
leak serial capacity count records dropped =
    record {
      lane = 0;
      serial = serial;
      capacity = capacity;
      count = count;
      records = records;
      dropped = dropped;
    }

-- lines, each with its end
abbrev pub lines : List String → List ℕ
lines [] = []
lines (l ∷ ls) = codes l ++ (10 ∷ lines ls)
