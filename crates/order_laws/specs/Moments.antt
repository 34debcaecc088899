-- What is so at each moment of a run in one order: after each front of its steps.
use Rattle.std.specs.Prelude.{◌≡◌, ◌⊎◌, ℕ, ◌+◌, ◌<◌, ◌==◌, ◌&&◌, Bool, false, if◌then◌else◌, List, [], ◌∷◌, ◌++◌, length, get_or}
use Rattle.pool_law.specs.declared.id.RootId.{RootId}
use Rattle.pool_law.specs.declared.id.RegionId.{RegionId}
use Rattle.pool_law.specs.declared.note.Object.{Object}
use Rattle.pool_law.specs.declared.note.Object.TheVariants.{Root}
use Rattle.pool_law.specs.declared.note.Did.{Did}
use Rattle.pool_law.specs.declared.note.Did.TheVariants.{Birth, Grow, Give, Kept, Get}
use Rattle.pool_law.specs.declared.note.Note.{Note}
use Rattle.pool_law.specs.declared.note.Note.TheVariants.{At}
use Rattle.pool_law.specs.Places.{Overlap}
use Rattle.pool_law.specs.Same.{same_object, same_region}
use Rattle.pool_law.specs.Logs.{Logs}
use Rattle.pool_law.specs.Lives.{IsUse, UseEnds, GrowsOut}
use Rattle.pool_law.specs.Apart.{IsOneUse}
use Rattle.pool_law.specs.Counts.{is_born, ends_root}
use Rattle.run_laws.specs.Reads.{last_written, earlier_at}
use Rattle.run_order.specs.Order.{Step, Leave, made}

-- the note with this number at the object
abbrev pub is_noted : Object → ℕ → Note → Bool
is_noted object number (At other n did) = same_object object other && (n == number)
is_noted object number (Note.Ref root did) = false
is_noted object number (Note.Busy held) = false

-- the region returns: its owner's cache keeps it, or its arena gets it
abbrev pub is_return : RegionId → Note → Bool
is_return region (At object number (Kept r)) = same_region r region
is_return region (At object number (Give r)) = same_region r region
is_return region _ = false

-- what a note did to an object
abbrev pub did_at : Object → Note → List Did
did_at object (At other number did) = if same_object object other then did ∷ [] else []
did_at object (Note.Ref root did) = []
did_at object (Note.Busy held) = []

-- what these steps did to an object, in this order
abbrev pub dids_at : Object → List Step → List Did
dids_at object [] = []
dids_at object (x ∷ xs) = did_at object x.note ++ dids_at object xs

-- after these steps the root uses the region: it was born with it or grew into it, and has not ended
-- in it or grown out of it
pub record IsInUse (logs : Logs) (before : List Step) (root : RootId) (region : RegionId) : Type 0
  where
    pub use_is : IsUse logs root region
    pub begun : 0 < made (is_noted (Root root.place) use_is.number) before
    pub lasts : (end : UseEnds logs root region) →
        made (is_noted (Root root.place) end.number) before ≡ 0

-- regions in use have no byte in common
abbrev pub RegionsApart : Logs → List Step → Type 0
RegionsApart logs before =
    (first second : RootId) (a b : RegionId) →
    IsInUse logs before first a → IsInUse logs before second b →
    (IsOneUse first a second b → ⊥) → Overlap a.place b.place → ⊥

-- a root that somebody counts, or a parcel in the mail holds, uses a region
abbrev pub CountedIsInUse : Logs → List Step → Type 0
CountedIsInUse logs before =
    (root : RootId) (n : ℕ) → 0 < n → Leave before root n →
    (region : RegionId) × IsInUse logs before root region

-- from the step that sets its word to the release that ends it somebody counts a root, and from
-- then on nobody does
pub record LivesWhileCounted (before : List Step) (root : RootId) : Type 0 where
  pub counted : 0 < made (is_born root) before → made (ends_root root) before ≡ 0 →
      (n : ℕ) × (0 < n) × Leave before root n
  pub ended : 0 < made (ends_root root) before → Leave before root 0

-- these steps have the growth of the root out of the region
abbrev pub HasGrownOut : Logs → List Step → RootId → RegionId → Type 0
HasGrownOut logs before root region =
    (growth : GrowsOut logs root region) ×
    (0 < made (is_noted (Root root.place) growth.number) before)

-- a region returns only after the release that ended its root's count, or after the root's growth out
-- of it
abbrev pub ReturnsAfterEnd : Logs → List Step → Type 0
ReturnsAfterEnd logs before =
    (root : RootId) (region : RegionId) → IsUse logs root region →
    0 < made (is_return region) before →
    (0 < made (ends_root root) before) ⊎ HasGrownOut logs before root region

-- what holds after these steps
pub record Moment (logs : Logs) (before : List Step) : Type 0 where
  pub apart : RegionsApart logs before
  pub counted : CountedIsInUse logs before
  pub lives : (root : RootId) → LivesWhileCounted before root
  pub after_end : ReturnsAfterEnd logs before

-- each region that was used before on any bytes of this one has returned
abbrev pub HaveReturned : Logs → List Step → RegionId → Type 0
HaveReturned logs before b =
    (root : RootId) (a : RegionId) (first : IsUse logs root a) →
    0 < made (is_noted (Root root.place) first.number) before →
    Overlap a.place b.place → 0 < made (is_return a) before

-- so it is where a root is born, and where one grows
abbrev pub FindsReturned : Logs → List Step → Note → Type 0
FindsReturned logs before (At object number (Birth other b)) = HaveReturned logs before b
FindsReturned logs before (At object number (Grow capacity b)) = HaveReturned logs before b
FindsReturned logs before _ = Unit {0}

-- a note gets the bytes that were last written to its root's place before it, whichever lane wrote
-- them
abbrev pub GetsLastWritten : Logs → List Step → Note → Type 0
GetsLastWritten logs before (At (Root place) number (Get offset bytes)) =
    (earlier_at logs place number ≡ dids_at (Root place) before)
    × ((k : ℕ) → k < length bytes →
    get_or bytes k 0 ≡ last_written (offset + k) 0 (dids_at (Root place) before))
GetsLastWritten logs before _ = Unit {0}
