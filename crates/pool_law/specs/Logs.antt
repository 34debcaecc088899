-- Logs of lanes, and the histories that they give.
use Rattle.std.specs.Prelude.{◌≡◌, ℕ, zero, suc, ◌+◌, ◌-◌, ◌%◌, Bool, true, false, ◌==◌, ◌&&◌, if◌then◌else◌, List, [], ◌∷◌, ◌++◌, length, map, take, Option, Some, None, option_map, unwrap_or, slice_get}
use Rattle.pool_law.specs.declared.id.RootId.{RootId}
use Rattle.pool_law.specs.declared.id.RegionId.{RegionId}
use Rattle.pool_law.specs.declared.note.Object.{Object}
use Rattle.pool_law.specs.declared.note.Object.TheVariants.{Arena, Cache, Bin, Mail, Root}
use Rattle.pool_law.specs.declared.note.Did.{Did}
use Rattle.pool_law.specs.declared.note.Note.{Note}
use Rattle.pool_law.specs.declared.note.Note.TheVariants.{At, Ref, Busy}
use Rattle.pool_law.specs.declared.run.Shape.{Shape}
use Rattle.pool_law.specs.Same.{same_object}
use Rattle.pool_law.specs.Kinds.{Noter, Anyone, Owner, Taker, Sender, Receiver, noter_of, Beside, ItsRoot, ItsRegion, ItsRootAndRegion, ItsWatch, Nothing, beside}
use Rattle.pool_law.specs.Roots.{RootPlace, Present}
use Rattle.pool_law.specs.Arenas.{or_else}
use Rattle.pool_law.specs.Histories.{place_after}

-- the notes of each lane, in its own order
abbrev pub Logs : Type 0
Logs = List (List Note)

-- what was done to an object, each with the lane that did it
abbrev pub History : Type 0
History = List (ℕ × Did)

-- what was done, without the lanes
abbrev pub dids : History → List Did
dids h = map (λ e. e.1) h

-- what a lane has, of a list by lanes
abbrev pub of_lane : {X : Type 0} → List (List X) → ℕ → List X
of_lane lists lane = unwrap_or (slice_get lists lane) []

-- a note at the object, with its number
abbrev pub own_note : Object → Note → List (ℕ × Did)
own_note object (At other number did) =
    if same_object object other then (number, did) ∷ [] else []
own_note object (Ref root did) = []
own_note object (Busy held) = []

-- the notes at an object in one log, with their numbers
abbrev pub own : Object → List Note → List (ℕ × Did)
own object [] = []
own object (n ∷ ns) = own_note object n ++ own object ns

-- the notes of one lane in a history, each with its place, counted from n
abbrev pub numbered : ℕ → ℕ → History → List (ℕ × Did)
numbered lane n [] = []
numbered lane n (e ∷ h) =
    if e.0 == lane then (n, e.1) ∷ numbered lane (n + 1) h else numbered lane (n + 1) h

-- the history of an object: what each lane noted at it is, in order, what the history has of the
-- lane, and the numbers are the places in the history, from 1
abbrev pub IsHistory : Object → Logs → History → Type 0
IsHistory object logs h = (lane : ℕ) → own object (of_lane logs lane) ≡ numbered lane 1 h

-- what has this number in one list of notes, and in the logs, the first of which is of this lane
abbrev pub with_number : ℕ → List (ℕ × Did) → Option Did
with_number n [] = None
with_number n (x ∷ xs) = if x.0 == n then Some x.1 else with_number n xs

-- what the logs from this lane on have with this number at the object
abbrev pub entry_at : Object → ℕ → ℕ → Logs → Option (ℕ × Did)
entry_at object n lane [] = None
entry_at object n lane (log ∷ logs) =
    or_else (option_map (λ did. (lane, did)) (with_number n (own object log)))
    (entry_at object n (lane + 1) logs)

-- how many notes the logs have at the object
abbrev pub notes_at : Object → Logs → ℕ
notes_at object [] = 0
notes_at object (log ∷ logs) = length (own object log) + notes_at object logs

-- a list with an item before it, if there is one
abbrev pub extended : {X : Type 0} → Option X → List X → List X
extended None xs = xs
extended (Some x) xs = x ∷ xs

-- the notes at an object with the numbers from n on, as far as there are any
abbrev pub history_from : Object → Logs → ℕ → ℕ → History
history_from object logs n zero = []
history_from object logs n (suc rest) =
    extended (entry_at object n 0 logs) (history_from object logs (n + 1) rest)

-- the notes at an object from all logs, in order of number
abbrev pub history_of : Object → Logs → History
history_of object logs = history_from object logs 1 (notes_at object logs)

-- an object has a history: each but the mails, whose notes stand in the order of two logs
abbrev pub has_history : Object → Bool
has_history (Arena number) = true
has_history (Cache lane class) = true
has_history (Bin lane) = true
has_history (Mail from to) = false
has_history (Root place) = true

-- a lane is the object's own: of a cache or bin, or one that takes from an arena
abbrev pub owns : Shape → ℕ → Object → Bool
owns shape lane (Arena number) = lane % shape.arenas == number
owns shape lane (Cache owner class) = lane == owner
owns shape lane (Bin owner) = lane == owner
owns shape lane (Mail from to) = false
owns shape lane (Root place) = false

-- a lane is at this end of a mail
abbrev pub is_sender : ℕ → Object → Bool
is_sender lane (Mail from to) = lane == from
is_sender lane _ = false

-- and at the other
abbrev pub is_receiver : ℕ → Object → Bool
is_receiver lane (Mail from to) = lane == to
is_receiver lane _ = false

-- a lane is among those that may make a note at the object
abbrev pub is_noter : Shape → ℕ → Object → Noter → Bool
is_noter shape lane object Anyone = has_history object
is_noter shape lane object Owner = owns shape lane object
is_noter shape lane object (Taker owner) = owns shape lane object && (owner == lane)
is_noter shape lane object Sender = is_sender lane object
is_noter shape lane object Receiver = is_receiver lane object

-- whether a lane may note this at the object
abbrev pub may_stand : Shape → ℕ → Object → Did → Bool
may_stand shape lane object did = is_noter shape lane object (noter_of did)

-- a lane may note this
abbrev pub note_stands : Shape → ℕ → Note → Bool
note_stands shape lane (At object number did) = may_stand shape lane object did
note_stands shape lane (Ref root did) = true
note_stands shape lane (Busy held) = has_history held.object

-- a note with what only its object's history tells: an access's root, and the region of an end
pub record ToldNote : Type 0 where
  pub note : Note
  pub root : Option RootId
  pub region : Option RegionId

-- what is present at a root place
abbrev pub present_in : Option RootPlace → Option Present
present_in None = None
present_in (Some place) = place.present

-- what is present at a root place as the note with this number comes
abbrev pub present_before : Logs → ℕ → ℕ → Option Present
present_before logs place number =
    present_in (place_after place (take (number - 1) (dids (history_of (Root place) logs))))

-- the root that is present at a root place as the note with this number comes, and its region
abbrev pub root_before : Logs → ℕ → ℕ → Option RootId
root_before logs place number = option_map (λ p. p.root) (present_before logs place number)

abbrev pub region_before : Logs → ℕ → ℕ → Option RegionId
region_before logs place number = option_map (λ p. p.region) (present_before logs place number)

-- the root of what is present, where that is what a note carries
abbrev pub root_beside : Beside → Option Present → Option RootId
root_beside ItsRoot p = option_map (λ q. q.root) p
root_beside ItsRegion p = None
root_beside ItsRootAndRegion p = option_map (λ q. q.root) p
root_beside ItsWatch p = None
root_beside Nothing p = None

-- the region of what is present, where that is what a note carries
abbrev pub region_beside : Beside → Option Present → Option RegionId
region_beside ItsRoot p = None
region_beside ItsRegion p = option_map (λ q. q.region) p
region_beside ItsRootAndRegion p = option_map (λ q. q.region) p
region_beside ItsWatch p = None
region_beside Nothing p = None

-- the root that a note carries
abbrev pub root_for : Did → Option Present → Option RootId
root_for did p = root_beside (beside did) p

-- the region that a note carries
abbrev pub region_for : Did → Option Present → Option RegionId
region_for did p = region_beside (beside did) p

-- a note as an entry
abbrev pub entry_of : Logs → Note → ToldNote
entry_of logs (At (Root place) number did) =
    let p = present_before logs place number in
    record { note = At (Root place) number did; root = root_for did p; region = region_for did p }
entry_of logs n = record { note = n; root = None; region = None }

-- each lane's log with this
abbrev pub entries_of : Logs → List (List ToldNote)
entries_of logs = map (map (entry_of logs)) logs
