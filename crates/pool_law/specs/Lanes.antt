-- What a lane answers to its commands, and the notes that each of them makes.
use Rattle.std.specs.Prelude.{ℕ, ◌+◌, ◌-◌, true, false, ◌==◌, if◌then◌else◌, List, [], ◌∷◌, ◌++◌, length, take, drop, Option, Some, None, Result, Ok, Err}
use Rattle.pool_law.specs.declared.id.RootId.{RootId}
use Rattle.pool_law.specs.declared.id.ViewData.{ViewData}
use Rattle.pool_law.specs.declared.id.Parcel.{Parcel}
use Rattle.pool_law.specs.declared.id.Part.{Part}
use Rattle.pool_law.specs.declared.command.Command.{Command}
use Rattle.pool_law.specs.declared.command.Command.TheVariants.{Alloc, Set, Get, Write, Read, Slice, Dup, Retain, Release, Refcnt, Touch, Forget, Send, Recv, Compose, Add, Capacity}
use Rattle.pool_law.specs.declared.note.Object.TheVariants.{Mail, Root}
use Rattle.pool_law.specs.declared.run.Shape.{Shape}
use Rattle.pool_law.specs.declared.run.Reply.{Reply}
use Rattle.pool_law.specs.Dids as says
use Rattle.pool_law.specs.Readers.{Reader, ◌>>=◌, ◌>>◌, ◌or◌, give, nothing, given, note, step, busy, access, count}
use Rattle.pool_law.specs.Views.{view_of, slice_of, reaching}
use Rattle.pool_law.specs.Composites.{Composite, size_of, filled, is_crowded, moved_to}
use Rattle.pool_law.specs.Names.{Bound, Plain, Composed, Names, bind, without, reader_of, writer_of, read_on, written_on, parts_at}
use Rattle.pool_law.specs.LaneStates.{LaneState, named, view_named, composite_from, composite_with}
use Rattle.pool_law.specs.Patterns.{New, allot, release, regrow, sweep_if_due}
use Rattle.pool_law.specs.Refusals.{first_refusal, refusals}

-- the answer to a command, and the names that are bound then
pub record Answer : Type 0 where
  pub reply : Reply
  pub names : Names

-- a reply with these names
abbrev pub answer : Reply → Names → Answer
answer reply names = record { reply = reply; names = names }

-- ---- Bytes of parts.

-- the bytes are set, part by part
abbrev pub set_parts : List Part → List ℕ → Reader (Unit {0})
set_parts [] bytes = nothing
set_parts (p ∷ ps) bytes = do
  access p.root (says.set p.offset (take p.len bytes))
  set_parts ps (drop p.len bytes)

-- the bytes that are got, part by part
abbrev pub get_parts : List Part → Reader (List ℕ)
get_parts [] = give []
get_parts (p ∷ ps) = do
  first ← access p.root (says.get p.offset p.len)
  rest ← get_parts ps
  give (first ++ rest)

-- the bytes are copied, part by part, to a root from an index on
abbrev pub copy_parts : RootId → ℕ → List Part → Reader (Unit {0})
copy_parts root at [] = nothing
copy_parts root at (p ∷ ps) = do
  bytes ← access p.root (says.get p.offset p.len)
  access root (says.set at bytes)
  copy_parts root (at + p.len) ps

-- the part's root is released, if the lane then counts it
abbrev pub release_part : Shape → Part → Reader (Unit {0})
release_part shape p = do
  k ← count p.root
  if k == 0 then nothing else release shape p.root >> nothing

-- the parts are released, in order
abbrev pub release_parts : Shape → List Part → Reader (Unit {0})
release_parts shape [] = nothing
release_parts shape (p ∷ ps) = release_part shape p >> release_parts shape ps

-- ---- Composites.

-- a crowded composite is copied to a new root, if there is one
abbrev pub copied_to : Shape → Composite → Result New Reply → Reader (Result Composite Reply)
copied_to shape c (Err reply) = give (Err reply)
copied_to shape c (Ok new) = do
  copy_parts new.root 0 (filled c.parts)
  release_parts shape c.parts
  give (Ok (moved_to new.root c))

-- a composite as it is bound: consolidated where it is crowded
abbrev pub consolidate : Shape → ℕ → Composite → Reader (Result Composite Reply)
consolidate shape lane c =
    if is_crowded c
    then allot shape lane (size_of c.parts) >>= copied_to shape c
    else give (Ok c)

-- the answer once a composite is to be bound
abbrev pub composed : LaneState → ℕ → Result Composite Reply → Answer
composed s name (Err reply) = answer reply s.names
composed s name (Ok c) =
    answer (Reply.OkNumber (size_of c.parts)) (bind name (Composed c) s.names)

-- ---- What commands do that are not refused before their notes.

-- the answer to an allocation
abbrev pub allotted : LaneState → ℕ → Result New Reply → Answer
allotted s name (Err reply) = answer reply s.names
allotted s name (Ok new) =
    let place = new.region.place in
    answer (Reply.OkPlace place.len place) (bind name (Plain (view_of new.root)) s.names)

-- the answer where more capacity was asked: the view then ends where the capacity does
abbrev pub regrown : LaneState → ℕ → ViewData → Result ℕ Reply → Answer
regrown s name v (Err reply) = answer reply s.names
regrown s name v (Ok capacity) =
    answer (Reply.OkNumber capacity) (bind name (Plain (reaching capacity v)) s.names)

-- the answer to a fetch
abbrev pub received : LaneState → ℕ → Option ViewData → Answer
received s name None = answer Reply.Nothing s.names
received s name (Some v) = answer Reply.Ok (bind name (Plain v) s.names)

-- a command that tries finds another lane at the root, or does this
abbrev pub busy_or : LaneState → ViewData → Reader Answer → Reader Answer
busy_or s v r =
    busy (Root v.root.place) >>= (λ number. give (answer (Reply.Busy number) s.names)) or r

-- bytes are set at an index
abbrev pub set_at : LaneState → ℕ → List ℕ → Bound → Reader Answer
set_at s i bytes b = do
  set_parts (parts_at b i (length bytes)) bytes
  give (answer Reply.Ok s.names)

-- bytes are got at an index
abbrev pub get_at : LaneState → ℕ → ℕ → Bound → Reader Answer
get_at s i n b = do
  bytes ← get_parts (parts_at b i n)
  give (answer (Reply.OkBytes bytes) s.names)

-- a count is added to a view's root, or to a composite
abbrev pub retain_of : LaneState → ℕ → Bound → Reader Answer
retain_of s name (Plain v) = step v.root says.retain >> give (answer Reply.Ok s.names)
retain_of s name (Composed c) =
    let more = record c { count = c.count + 1 } in
    give (answer Reply.Ok (bind name (Composed more) s.names))

-- a count is taken from a view's root, or from a composite, whose last one releases its parts
abbrev pub release_of : Shape → LaneState → ℕ → Bound → Reader Answer
release_of shape s name (Plain v) = do
  reply ← release shape v.root
  give (answer reply s.names)
release_of shape s name (Composed c) =
    let names = bind name (Composed (record c { count = c.count - 1 })) s.names in
    if c.count == 1
    then release_parts shape c.parts >> give (answer Reply.Freed names)
    else give (answer Reply.Kept names)

-- the count of a view's root, or of a composite
abbrev pub count_in : LaneState → Bound → Reader Answer
count_in s (Plain v) = do
  k ← step v.root says.look
  give (answer (Reply.OkNumber k) s.names)
count_in s (Composed c) = give (answer (Reply.OkNumber c.count) s.names)

-- the empty parcel
abbrev pub no_parcel : Parcel
no_parcel = record { view = None }

-- the parcel with a view
abbrev pub parcel_of : ViewData → Parcel
parcel_of v = record { view = Some v }

-- ---- The table.

-- the notes of a command that is not refused before them, its reply, and the names that it binds
abbrev pub carried_out : Shape → ℕ → LaneState → Command → Reader Answer
carried_out shape lane s (Alloc new n) = do
  got ← allot shape lane n
  give (allotted s new got)
carried_out shape lane s (Set v i bytes false) = given (named s v) >>= set_at s i bytes
carried_out shape lane s (Set v i bytes true) = do
  view ← given (view_named s v)
  busy_or s view (set_at s i bytes (Plain view))
carried_out shape lane s (Get v i n false) = given (named s v) >>= get_at s i n
carried_out shape lane s (Get v i n true) = do
  view ← given (view_named s v)
  busy_or s view (get_at s i n (Plain view))
carried_out shape lane s (Write v bytes) = do
  b ← given (named s v)
  set_parts (parts_at b (writer_of b) (length bytes)) bytes
  give (answer Reply.Ok (bind v (written_on (length bytes) b) s.names))
carried_out shape lane s (Read v n) = do
  b ← given (named s v)
  bytes ← get_parts (parts_at b (reader_of b) n)
  give (answer (Reply.OkBytes bytes) (bind v (read_on n b) s.names))
carried_out shape lane s (Slice new v i n retained) = do
  view ← given (view_named s v)
  if retained then step view.root says.retain else nothing
  give (answer Reply.Ok (bind new (Plain (slice_of view i n)) s.names))
carried_out shape lane s (Dup new v) = do
  view ← given (view_named s v)
  give (answer Reply.Ok (bind new (Plain view) s.names))
carried_out shape lane s (Retain v) = given (named s v) >>= retain_of s v
carried_out shape lane s (Release v) = given (named s v) >>= release_of shape s v
carried_out shape lane s (Refcnt v) = given (named s v) >>= count_in s
carried_out shape lane s (Touch v) = do
  view ← given (view_named s v)
  access view.root says.touch
  give (answer Reply.Ok s.names)
carried_out shape lane s (Forget v) = give (answer Reply.Ok (without v s.names))
carried_out shape lane s (Send v to) = do
  view ← given (view_named s v)
  note (Mail lane to) (says.post (parcel_of view))
  give (answer Reply.Ok s.names)
carried_out shape lane s (Recv new from) = do
  parcel ← note (Mail from lane) says.fetch
  give (received s new parcel.view)
carried_out shape lane s (Compose new vs) = do
  c ← given (composite_from s vs)
  made ← consolidate shape lane c
  give (composed s new made)
carried_out shape lane s (Add c v) = do
  longer ← given (composite_with s c v)
  made ← consolidate shape lane longer
  give (composed s c made)
carried_out shape lane s (Capacity v n) = do
  view ← given (view_named s v)
  got ← regrow shape lane view.root n
  give (regrown s v view got)

-- the notes of a command that is refused before any, or stopped: a send posts an empty parcel
abbrev pub not_carried_out : ℕ → Command → Reader (Unit {0})
not_carried_out lane (Send v to) = note (Mail lane to) (says.post no_parcel)
not_carried_out lane _ = nothing

-- what a lane answers to a command, by the first refusal that comes
abbrev pub answer_by : Shape → ℕ → LaneState → Command → Option Reply → Reader Answer
answer_by shape lane s c None = carried_out shape lane s c
answer_by shape lane s c (Some reply) = not_carried_out lane c >> give (answer reply s.names)

-- what a lane answers to a command
abbrev pub answer_of : Shape → ℕ → LaneState → Command → Reader Answer
answer_of shape lane s c = answer_by shape lane s c (first_refusal (refusals shape s c))

-- a command, and the sweep of the lane's caches that is due behind it
abbrev pub turn : ℕ → Shape → ℕ → LaneState → Command → Reader Answer
turn period shape lane s c = do
  a ← answer_of shape lane s c
  sweep_if_due period lane
  give a
