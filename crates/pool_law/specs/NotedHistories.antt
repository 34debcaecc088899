-- Histories of notes that know their lane, and the root and the region that their place gives.
use Rattle.std.specs.Prelude.{◌≡◌, ℕ, Bool, true, false, List, [], ◌∷◌, ◌++◌, map, Option, Some, None, IsTrue}
use Rattle.pool_law.specs.declared.note.Noted.{Noted}
use Rattle.pool_law.specs.declared.note.Object.{Object}
use Rattle.pool_law.specs.declared.note.Did.{Did}
use Rattle.pool_law.specs.declared.note.Note.{Note}
use Rattle.pool_law.specs.declared.report.Watch.{Watch}
use Rattle.pool_law.specs.declared.run.Shape.{Shape}
use Rattle.pool_law.specs.Kinds.{Noter, Anyone, Owner, Taker, Sender, Receiver, noter_of, Beside, ItsRoot, ItsRegion, ItsRootAndRegion, ItsWatch, Nothing, beside}
use Rattle.pool_law.specs.Histories.{IsAccepted, place_after}
use Rattle.pool_law.specs.Logs.{ToldNote, may_stand, present_in, root_for, region_for}

-- what was done, of notes that know their lane
abbrev pub noted_dids : List Noted → List Did
noted_dids h = map (λ n. n.did) h

-- a watch may be there, or it may not
abbrev pub IsWatchBeside : Beside → Option Watch → Type 0
IsWatchBeside ItsWatch watch = Unit {0}
IsWatchBeside ItsRoot watch = watch ≡ None
IsWatchBeside ItsRegion watch = watch ≡ None
IsWatchBeside ItsRootAndRegion watch = watch ≡ None
IsWatchBeside Nothing watch = watch ≡ None

-- only a birth carries a watch
abbrev pub IsRightWatch : Did → Option Watch → Type 0
IsRightWatch did watch = IsWatchBeside (beside did) watch

-- the root of an access and the region of an end are those that the notes before give, and only a
-- birth carries a watch
abbrev pub IsRightAt : Object → List Noted → Noted → Type 0
IsRightAt (Object.Root place) h n =
    let p = present_in (place_after place (noted_dids h)) in
    (n.root ≡ root_for n.did p) × (n.region ≡ region_for n.did p) × IsRightWatch n.did n.watch
IsRightAt _ h n = (n.root ≡ None) × (n.region ≡ None) × IsRightWatch n.did n.watch

-- some lanes alone may make the note
abbrev pub is_restrained : Noter → Bool
is_restrained Anyone = false
is_restrained Owner = true
is_restrained (Taker owner) = true
is_restrained Sender = true
is_restrained Receiver = true

-- whether a note may stand in the logs of some lanes alone
abbrev pub needs_lane : Did → Bool
needs_lane did = is_restrained (noter_of did)

-- a seat with this number, or with none, may note this at the object
abbrev pub MayNote : Shape → Option ℕ → Object → Did → Type 0
MayNote shape (Some lane) object did = IsTrue (may_stand shape lane object did)
MayNote shape None object did = needs_lane did ≡ false

-- a note may follow a history of the object
pub record NotedMayFollow (shape : Shape) (object : Object) (h : List Noted) (n : Noted) : Type 0
  where
    pub accepted : IsAccepted shape object (noted_dids (h ++ n ∷ []))
    pub right : IsRightAt object h n
    pub stands : MayNote shape n.lane object n.did

-- the entry of a lane's part that a note with this number makes
abbrev pub entry_of_noted : Object → ℕ → Noted → ToldNote
entry_of_noted object number n =
    record { note = Note.At object number n.did; root = n.root; region = n.region }
