-- Reading a lane's log, note by note. A reader takes its notes from the front of what is left, and
-- knows what was read before; it gives none where the notes are others.
use Rattle.std.specs.Prelude.{ℕ, ◌+◌, if◌then◌else◌, List, [], ◌∷◌, ◌++◌, Option, Some, None, option_map, option_and_then}
use Rattle.pool_law.specs.declared.id.RootId.{RootId}
use Rattle.pool_law.specs.declared.id.RegionId.{RegionId}
use Rattle.pool_law.specs.declared.note.Object.{Object}
use Rattle.pool_law.specs.declared.note.Object.TheVariants.{Root}
use Rattle.pool_law.specs.declared.note.Did.{Did}
use Rattle.pool_law.specs.declared.note.RefDid.{RefDid}
use Rattle.pool_law.specs.declared.note.Note.{Note}
use Rattle.pool_law.specs.declared.note.Note.TheVariants.{At, Ref, Busy}
use Rattle.pool_law.specs.Same.{same_object, same_root}
use Rattle.pool_law.specs.Arenas.{or_else}
use Rattle.pool_law.specs.Logs.{ToldNote}
use Rattle.pool_law.specs.Counts.{count_of, root_is}
use Rattle.pool_law.specs.Dids as say

-- the entries of a log, or of a part of it
abbrev pub ToldNotes : Type 0
ToldNotes = List ToldNote

-- a log as it is read
pub record Log : Type 0 where
  pub seen : ToldNotes  -- oldest first
  pub asked : ℕ  -- how many allocations asked a cache since the last sweep
  pub left : ToldNotes

-- what is read, and the log behind it; none where the notes are others
abbrev pub Reader : Type 0 → Type 0
Reader A = Log → Option (A × Log)

-- one reading after another, which may use what the first gave
infixl 10 ◌>>=◌
abbrev pub ◌>>=◌ : {A B : Type 0} → Reader A → (A → Reader B) → Reader B
r >>= f = λ log. option_and_then (λ got. f got.0 got.1) (r log)

-- one reading after another
infixl 10 ◌>>◌
abbrev pub ◌>>◌ : {A B : Type 0} → Reader A → Reader B → Reader B
r >> q = r >>= (λ _. q)

-- the first reading, or the second where the first gives none
infixr 5 ◌or◌
abbrev pub ◌or◌ : {A : Type 0} → Reader A → Reader A → Reader A
r or q = λ log. or_else (r log) (q log)

-- no note is read, and this is given
abbrev pub give : {A : Type 0} → A → Reader A
give a = λ log. Some (a, log)

-- no note is read
abbrev pub nothing : Reader (Unit {0})
nothing = give tt

-- no note is read, and what is there is given
abbrev pub given : {A : Type 0} → Option A → Reader A
given o = λ log. option_map (λ a. (a, log)) o

-- what is there, or else what is read
abbrev pub unless_there : {A : Type 0} → Option A → Reader (Option A) → Reader (Option A)
unless_there None r = r
unless_there (Some a) r = give (Some a)

-- what is read, as something that is there
abbrev pub found : {A : Type 0} → Reader A → Reader (Option A)
found r = r >>= (λ a. give (Some a))

-- what is read says that nothing is there
abbrev pub not_found : {A B : Type 0} → Reader A → Reader (Option B)
not_found r = r >> give None

-- the log behind an entry
abbrev pub behind_entry : Log → ToldNote → ToldNotes → Log
behind_entry log e rest = record { seen = log.seen ++ e ∷ []; asked = log.asked; left = rest }

-- what is made of the first of these entries, and the log behind it
abbrev pub first_of_left :
    {A : Type 0} → (ToldNote → Option A) → Log → ToldNotes → Option (A × Log)
first_of_left read log [] = None
first_of_left read log (e ∷ rest) = option_map (λ a. (a, behind_entry log e rest)) (read e)

-- what is made of the next entry
abbrev pub next : {A : Type 0} → (ToldNote → Option A) → Reader A
next read = λ log. first_of_left read log log.left

-- what was done, where the note is at this object
abbrev pub done_at : Object → Note → Option Did
done_at object (At other number did) = if same_object object other then Some did else None
done_at object (Ref root did) = None
done_at object (Busy held) = None

-- what was done, where the note is a step on the word of this root
abbrev pub done_to : RootId → Note → Option RefDid
done_to root (Ref other did) = if same_root root other then Some did else None
done_to root (At object number did) = None
done_to root (Busy held) = None

-- the number of a busy mark on this object
abbrev pub marked : Object → Note → Option ℕ
marked object (Busy held) = if same_object object held.object then Some held.number else None
marked object (At other number did) = None
marked object (Ref root did) = None

-- a note at the object that says this
abbrev pub note : {A : Type 0} → Object → (Did → Option A) → Reader A
note object says = next (λ e. option_and_then says (done_at object e.note))

-- a step on the word of the root that says this
abbrev pub step : {A : Type 0} → RootId → (RefDid → Option A) → Reader A
step root says = next (λ e. option_and_then says (done_to root e.note))

-- a busy mark on the object, and its number
abbrev pub busy : Object → Reader ℕ
busy object = next (λ e. marked object e.note)

-- a note at the place of this root, which is present there, that says this
abbrev pub access : {A : Type 0} → RootId → (Did → Option A) → Reader A
access root says =
    next (λ e. if root_is root e.root
    then option_and_then says (done_at (Root root.place) e.note)
    else None)

-- the growth of the root to so much into this region, and the region that it leaves
abbrev pub growth : RootId → ℕ → RegionId → Reader RegionId
growth root size region =
    next (λ e. if root_is root e.root
    then option_and_then (λ _. e.region)
    (option_and_then (say.grow size region) (done_at (Root root.place) e.note))
    else None)

-- the end of the root, and the region that it takes out
abbrev pub ending : RootId → Reader RegionId
ending root =
    next (λ e. option_and_then (λ _. e.region)
    (option_and_then (say.end root) (done_at (Root root.place) e.note)))

-- the lane's count of the root at this place of the log
abbrev pub count : RootId → Reader ℕ
count root = λ log. Some (count_of root log.seen, log)

-- an allocation asks a cache
abbrev pub ask : Reader (Unit {0})
ask = λ log. Some (tt, record log { asked = log.asked + 1 })

-- how many allocations asked a cache since the last sweep
abbrev pub asks : Reader ℕ
asks = λ log. Some (log.asked, log)

-- they are counted anew
abbrev pub asks_anew : Reader (Unit {0})
asks_anew = λ log. Some (tt, record log { asked = 0 })

-- a log of which this is left has ended
abbrev pub ended_with : Log → ToldNotes → Option (Unit {0} × Log)
ended_with log [] = Some (tt, log)
ended_with log (e ∷ es) = None

-- nothing is left
abbrev pub at_end : Reader (Unit {0})
at_end = λ log. ended_with log log.left

-- a reading of all that is left
abbrev pub read_all : {A : Type 0} → Reader A → Reader A
read_all r = r >>= (λ a. at_end >> give a)
