-- Logs that no pool makes: their notes stand in no one order.
use Rattle.std.specs.Prelude.{ℕ, List, [], ◌∷◌, Some}
use Rattle.pool_law.specs.declared.id.RootId.{RootId}
use Rattle.pool_law.specs.declared.id.RegionId.{RegionId}
use Rattle.pool_law.specs.declared.id.Parcel.{Parcel}
use Rattle.pool_law.specs.declared.note.Object.{Object}
use Rattle.pool_law.specs.declared.note.Did.{Did}
use Rattle.pool_law.specs.declared.note.RefDid.{RefDid}
use Rattle.pool_law.specs.declared.note.Note.{Note}
use Rattle.pool_law.specs.declared.note.Note.TheVariants.{At, Ref}
use Rattle.pool_law.specs.Logs.{Logs}

-- a root of four bytes, and another at the next place
abbrev pub first_root : RootId
first_root = record { place = 0; generation = 1; capacity = 4 }

abbrev pub second_root : RootId
second_root = record { place = 1; generation = 1; capacity = 4 }

-- the first taking of the first lane, after so many uses
abbrev pub taking : ℕ → RegionId
taking uses =
    record {
      place = record { arena = 0; chunk = 0; offset = 0; len = 16 };
      class = 0;
      taking = 1;
      uses = uses;
      owner = 0;
    }

-- a parcel with the whole of the first root
abbrev pub parcel : Parcel
parcel =
    record {
      view = Some (record { root = first_root; offset = 0; len = 4; reader = 0; writer = 4 });
    }

-- a note at a root place, at the first lane's cache of the least class, and at its mail to a lane
abbrev pub at_root : ℕ → ℕ → Did → Note
at_root place n did = At (Object.Root place) n did

abbrev pub at_cache : ℕ → Did → Note
at_cache n did = At (Object.Cache 0 0) n did

abbrev pub at_mail : ℕ → ℕ → Did → Note
at_mail to n did = At (Object.Mail 0 to) n did

-- the first root is born
abbrev pub born_first : List Note → List Note
born_first notes =
    at_root 0 1 (Did.Birth first_root (taking 1))
    ∷ Ref first_root RefDid.Born
    ∷ notes

-- it ends, and its region returns
abbrev pub ends_first : List Note → List Note
ends_first notes =
    Ref first_root RefDid.Ended
    ∷ at_root 0 2 (Did.End first_root)
    ∷ Ref first_root RefDid.Vacated
    ∷ at_cache 1 (Did.Kept (taking 1))
    ∷ notes

-- the second root is born on its region
abbrev pub born_second : List Note → List Note
born_second notes =
    at_cache 2 (Did.Hit (taking 1))
    ∷ at_root 1 1 (Did.Birth second_root (taking 2))
    ∷ Ref second_root RefDid.Born
    ∷ notes

-- a lane ends a root that it sent to itself, while the parcel lies in its mail: two counts are left
-- where the release says that its count was the last
abbrev pub freed_in_the_mail : Logs
freed_in_the_mail =
    born_first
    (Ref first_root RefDid.Retain
    ∷ at_mail 0 1 (Did.Post parcel)
    ∷ ends_first
    (born_second
    (at_mail 0 1 (Did.Fetch parcel)
    ∷ Ref first_root RefDid.Kept
    ∷ [])))
    ∷ []

-- a lane gives up its count of a root only behind the birth of another on the region that returned
-- where the other lane ended the root: the notes go in a circle
abbrev pub freed_in_a_circle : Logs
freed_in_a_circle =
    born_first
    (Ref first_root RefDid.Retain
    ∷ at_mail 1 1 (Did.Post parcel)
    ∷ born_second
    (Ref first_root RefDid.Kept
    ∷ []))
    ∷ (at_mail 1 1 (Did.Fetch parcel) ∷ ends_first [])
    ∷ []

-- a lane reads what stood there before the last write of the lane that sent it the root
abbrev pub read_before_write : Logs
read_before_write =
    born_first
    (at_root 0 3 (Did.Set 0 (7 ∷ []))
    ∷ at_mail 1 1 (Did.Post parcel)
    ∷ [])
    ∷ (at_mail 1 1 (Did.Fetch parcel) ∷ at_root 0 2 (Did.Get 0 (0 ∷ [])) ∷ [])
    ∷ []

-- a root is retained after its end
abbrev pub retained_late : Logs
retained_late = born_first (ends_first (Ref first_root RefDid.Retain ∷ [])) ∷ []
