-- What a read gives: the bytes that were last written to the roots of its parts, at their offsets.
use Rattle.std.specs.Prelude.{◌≡◌, ℕ, ◌+◌, ◌-◌, ◌<◌, Bool, ◌&&◌, nat_lt, nat_le, if◌then◌else◌, List, [], ◌∷◌, ◌++◌, length, take, get_or, Option, Some, None, slice_get}
use Rattle.pool_law.specs.declared.id.Part.{Part}
use Rattle.pool_law.specs.declared.command.Command.{Command}
use Rattle.pool_law.specs.declared.note.Object.{Object}
use Rattle.pool_law.specs.declared.note.Did.{Did}
use Rattle.pool_law.specs.declared.note.Did.TheVariants.{Take, Full, Give, Hit, Miss, Kept, Back, Trim, Close, Shed, Handle, NoHandle, Home, Post, Fetch, Birth, Set, Get, Touch, Room, Extend, Grow, End}
use Rattle.pool_law.specs.declared.note.Note.{Note}
use Rattle.pool_law.specs.declared.note.Note.TheVariants.{At}
use Rattle.pool_law.specs.declared.run.Reply.{Reply}
use Rattle.pool_law.specs.declared.run.Run.{Run}
use Rattle.pool_law.specs.Logs.{Logs, ToldNote, dids, history_of, of_lane, entry_of, entries_of, root_before}
use Rattle.pool_law.specs.Caches.{if_so}
use Rattle.pool_law.specs.Options.{◌>>=◌}
use Rattle.pool_law.specs.Names.{has_range, has_to_read, reader_of, parts_at}
use Rattle.pool_law.specs.LaneStates.{LaneState, new_lane, named}
use Rattle.pool_law.specs.LaneLaw.{sweep_period, pieces, lane_run, note_counts, replies_in}
use Rattle.pool_law.specs.Readers.{ToldNotes}
use Rattle.pool_law.specs.Legal.{logs_of, replies_of}

-- bytes that are set at an offset cover this index
abbrev pub covers : ℕ → List ℕ → ℕ → Bool
covers offset bytes i = nat_le offset i && nat_lt i (offset + length bytes)

-- the byte at an index of a root after a note at its place: zero at its birth, then what is set; so
-- what a growth adds is zero, since nothing was set there
abbrev pub byte_after : ℕ → ℕ → Did → ℕ
byte_after i old (Birth root region) = 0
byte_after i old (Set offset bytes) =
    if covers offset bytes i then get_or bytes (i - offset) 0 else old
byte_after i old (Take class region) = old
byte_after i old (Full class) = old
byte_after i old (Give region) = old
byte_after i old (Hit region) = old
byte_after i old Miss = old
byte_after i old (Kept region) = old
byte_after i old (Back region why) = old
byte_after i old (Trim quota) = old
byte_after i old (Close quota) = old
byte_after i old (Shed region) = old
byte_after i old (Handle place) = old
byte_after i old NoHandle = old
byte_after i old (Home place) = old
byte_after i old (Post parcel) = old
byte_after i old (Fetch parcel) = old
byte_after i old (Get offset bytes) = old
byte_after i old Touch = old
byte_after i old (Room asked capacity) = old
byte_after i old (Extend size) = old
byte_after i old (Grow capacity region) = old
byte_after i old (End root) = old

-- the byte that was last written at an index, after these notes
abbrev pub last_written : ℕ → ℕ → List Did → ℕ
last_written i old [] = old
last_written i old (d ∷ ds) = last_written i (byte_after i old d) ds

-- the notes at a root place before the one with this number
abbrev pub earlier_at : Logs → ℕ → ℕ → List Did
earlier_at logs place number = take (number - 1) (dids (history_of (Object.Root place) logs))

-- the note that gets these bytes of a part
abbrev pub get_note : Part → ℕ → List ℕ → Note
get_note part number bytes =
    At (Object.Root part.root.place) number (Did.Get part.offset bytes)

-- what a command reads: parts of roots, in order; none where the range leaves the view or the
-- composite, and where the command is no read
abbrev pub parts_read : LaneState → Command → Option (List Part)
parts_read s (Command.Get name at len tries) =
    named s name >>= (λ b. if_so (has_range at len b) (parts_at b at len))
parts_read s (Command.Read name len) =
    named s name >>= (λ b. if_so (has_to_read len b) (parts_at b (reader_of b) len))
parts_read s _ = None

-- the notes of each command of a lane
abbrev pub groups_of : Run → ℕ → List ToldNotes
groups_of run lane =
    pieces (note_counts (replies_of run lane)) (of_lane (entries_of (logs_of run)) lane)

-- the lane's state before its command with this number
abbrev pub IsBefore : Run → ℕ → ℕ → LaneState → Type 0
IsBefore run lane number s =
    lane_run sweep_period run.shape lane new_lane
    (take number (of_lane run.trace.lanes lane)) (take number (groups_of run lane))
    ≡ Some (take number (replies_in (replies_of run lane)), s)

-- an entry gets these bytes of a part: of the root that is present, at the part's offset, and each
-- is the byte that was last written there
pub record GetsPart (logs : Logs) (part : Part) (e : ToldNote) (bytes : List ℕ) : Type 0 where
  pub number : ℕ  -- of the note
  pub is : e ≡ entry_of logs (get_note part number bytes)
  pub size : length bytes ≡ part.len
  pub present : root_before logs part.root.place number ≡ Some part.root
  pub written : (k : ℕ) → k < length bytes →
      get_or bytes k 0 ≡ last_written (part.offset + k) 0 (earlier_at logs part.root.place number)

-- these entries, and no others, get the parts in order
abbrev pub GetsParts : Logs → List Part → ToldNotes → List (List ℕ) → Type 0
GetsParts logs [] [] [] = Unit {0}
GetsParts logs (p ∷ ps) (e ∷ es) (b ∷ bs) = GetsPart logs p e b × GetsParts logs ps es bs
GetsParts logs _ _ _ = ⊥

-- bytes one behind the other
abbrev pub joined : List (List ℕ) → List ℕ
joined [] = []
joined (b ∷ bs) = b ++ joined bs

-- a command reads parts of roots: its notes are those that get the parts, in order, and it gives
-- their bytes joined
pub record ReadsWritten (run : Run) (lane number : ℕ) (command : Command) (bytes : List ℕ) : Type 0
  where
    pub state : LaneState
    pub before : IsBefore run lane number state
    pub parts : List Part
    pub is : parts_read state command ≡ Some parts
    pub notes : ToldNotes
    pub own : slice_get (groups_of run lane) number ≡ Some notes
    pub got : List (List ℕ)
    pub gives : bytes ≡ joined got
    pub gets : GetsParts (logs_of run) parts notes got

-- each command that is answered with bytes is a read, and gives those last written to the roots of
-- its parts, at their offsets
abbrev pub ReadsGiveWritten : Run → Type 0
ReadsGiveWritten run =
    (lane number : ℕ) (command : Command) (bytes : List ℕ) →
    slice_get (of_lane run.trace.lanes lane) number ≡ Some command →
    slice_get (replies_in (replies_of run lane)) number ≡ Some (Reply.OkBytes bytes) →
    ReadsWritten run lane number command bytes
