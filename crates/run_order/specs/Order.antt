-- All steps of a run in one order, in which each fits what was done before it.
use Rattle.std.specs.Prelude.{◌≡◌, ℕ, ◌+◌, ◌<◌, ◌≤◌, ◌==◌, ◌&&◌, ◌||◌, Bool, true, false, if◌then◌else◌, List, [], ◌∷◌, ◌++◌}
use Rattle.pool_law.specs.declared.id.RootId.{RootId}
use Rattle.pool_law.specs.declared.note.Object.{Object}
use Rattle.pool_law.specs.declared.note.Did.{Did}
use Rattle.pool_law.specs.declared.note.RefDid.{RefDid}
use Rattle.pool_law.specs.declared.note.RefDid.TheVariants.{Born, Retain, Kept, Ended, Vacated, Look}
use Rattle.pool_law.specs.declared.note.Note.{Note}
use Rattle.pool_law.specs.declared.note.Note.TheVariants.{At, Ref, Busy}
use Rattle.pool_law.specs.Same.{same_object, same_root}
use Rattle.pool_law.specs.Kinds.{Passing, Stays, Goes, Comes, passing}
use Rattle.pool_law.specs.Logs.{Logs, of_lane, has_history}
use Rattle.pool_law.specs.Counts.{is_born, is_retain, is_release, ends_root}
use Rattle.pool_law.specs.Legal.{one_if}

-- a step that was made: a note, and the lane that made it
pub record Step : Type 0 where
  pub lane : ℕ
  pub note : Note

-- the notes of a lane among these steps, in this order
abbrev pub notes_by : ℕ → List Step → List Note
notes_by lane [] = []
notes_by lane (x ∷ xs) =
    if x.lane == lane then x.note ∷ notes_by lane xs else notes_by lane xs

-- how many of these steps made a note that passes a test
abbrev pub made : (Note → Bool) → List Step → ℕ
made test [] = 0
made test (x ∷ xs) = one_if (test x.note) + made test xs

-- a note at the object
abbrev pub is_at : Object → Note → Bool
is_at object (At other number did) = same_object object other
is_at object (Ref root did) = false
is_at object (Busy held) = false

-- both notes send a parcel, or both get one, or neither
abbrev pub same_way : Passing → Passing → Bool
same_way Stays Stays = true
same_way Stays (Goes q) = false
same_way Stays (Comes q) = false
same_way (Goes p) Stays = false
same_way (Goes p) (Goes q) = true
same_way (Goes p) (Comes q) = false
same_way (Comes p) Stays = false
same_way (Comes p) (Goes q) = false
same_way (Comes p) (Comes q) = true

-- a note at the object that is numbered with what is done there: each, where the object has a
-- history; of a mail the posts are numbered by themselves, and so are the fetches
abbrev pub is_alike : Object → Did → Note → Bool
is_alike object did (At other number done) =
    (has_history object || same_way (passing did) (passing done)) && same_object object other
is_alike object did (Ref root done) = false
is_alike object did (Busy held) = false

-- a parcel is sent
abbrev pub is_sent : Passing → Bool
is_sent Stays = false
is_sent (Goes parcel) = true
is_sent (Comes parcel) = false

-- a post at the mail
abbrev pub is_post : Object → Note → Bool
is_post mail (At object number did) = is_sent (passing did) && same_object mail object
is_post mail (Ref root did) = false
is_post mail (Busy held) = false

-- the word of a root at this place is set
abbrev pub is_born_at : ℕ → Note → Bool
is_born_at place (Ref root Born) = root.place == place
is_born_at place _ = false

-- this place is vacated
abbrev pub is_vacated_at : ℕ → Note → Bool
is_vacated_at place (Ref root Vacated) = root.place == place
is_vacated_at place _ = false

-- the root's place is vacated of it
abbrev pub is_vacated : RootId → Note → Bool
is_vacated root (Ref r Vacated) = same_root r root
is_vacated root _ = false

-- these steps leave n counts of the root: a post and a fetch change none, so those of the parcels
-- that lie in the mail are among them
abbrev pub Leave : List Step → RootId → ℕ → Type 0
Leave steps root n =
    made (is_born root) steps + made (is_retain root) steps ≡ made (is_release root) steps + n

-- a step on the count of a root fits what was done before it: a birth is of the next generation, at
-- a place that was vacated as often as a root was born there; a retain finds a count; a release that
-- keeps its root finds two, and the one that ends it the last; a place is vacated of a root that
-- has ended, once; a look tells how many counts there are
abbrev pub FitsCount : List Step → RootId → RefDid → Type 0
FitsCount before root Born =
    (root.generation ≡ made (is_born_at root.place) before + 1)
    × (made (is_vacated_at root.place) before ≡ made (is_born_at root.place) before)
    × Leave before root 0
FitsCount before root Retain = (n : ℕ) × (0 < n) × Leave before root n
FitsCount before root Kept = (n : ℕ) × (1 < n) × Leave before root n
FitsCount before root Ended = Leave before root 1
FitsCount before root Vacated =
    (made (ends_root root) before ≡ made (is_vacated root) before + 1) × Leave before root 0
FitsCount before root (Look found) = (0 < found) × Leave before root found

-- what gets a parcel finds its post: as many posts were made there before as its number says
abbrev pub FindsIts : List Step → Object → ℕ → Passing → Type 0
FindsIts before mail number Stays = Unit {0}
FindsIts before mail number (Goes parcel) = Unit {0}
FindsIts before mail number (Comes parcel) = number ≤ made (is_post mail) before

-- a note at an object has the next number of those that it is numbered with, and a fetch finds its
-- post; a busy mark has the number of the last note
abbrev pub Fits : List Step → Note → Type 0
Fits before (At object number did) =
    (number ≡ made (is_alike object did) before + 1)
    × FindsIts before object number (passing did)
Fits before (Ref root did) = FitsCount before root did
Fits before (Busy held) = held.number ≡ made (is_at held.object) before

-- the logs are in one order: all their notes stand in one list, each lane's in its own order, and
-- each fits what was done before it, whichever lane did it
pub record InOneOrder (logs : Logs) : Type 0 where
  pub steps : List Step
  pub whole : (lane : ℕ) → notes_by lane steps ≡ of_lane logs lane
  pub fits : (before after : List Step) (x : Step) → steps ≡ before ++ x ∷ after →
      Fits before x.note
