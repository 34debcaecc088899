-- Logs of which one step fits nowhere.
use Rattle.std.specs.Prelude.{ℕ, List, [], ◌∷◌}
use Rattle.pool_law.specs.declared.id.RootId.{RootId}
use Rattle.pool_law.specs.declared.note.Object.{Object}
use Rattle.pool_law.specs.declared.note.Did.{Did}
use Rattle.pool_law.specs.declared.note.RefDid.{RefDid}
use Rattle.pool_law.specs.declared.note.Note.{Note}
use Rattle.pool_law.specs.declared.note.Note.TheVariants.{At, Ref, Busy}
use Rattle.pool_law.specs.Logs.{Logs}
use Rattle.run_order.specs.Forged.{first_root, taking, parcel, at_root, at_cache, at_mail, born_first, ends_first}

-- one lane that bears the first root, and then notes this
abbrev pub behind_birth : List Note → Logs
behind_birth notes = born_first notes ∷ []

-- the root of the next birth at its place
abbrev pub next_root : RootId
next_root = record first_root { generation = 2 }

-- a mark that the first lane's cache was found busy after so many notes
abbrev pub mark : ℕ → Note
mark number = Busy (record { object = Object.Cache 0 0; number = number })

-- a root is born twice
abbrev pub born_twice : Logs
born_twice = behind_birth (Ref first_root RefDid.Born ∷ [])

-- another is born at its place, which was not vacated
abbrev pub born_on_it : Logs
born_on_it = behind_birth (at_root 0 2 (Did.Birth next_root (taking 2)) ∷ Ref next_root RefDid.Born ∷ [])

-- the next birth at a vacant place is of the generation behind the next
abbrev pub born_too_late : Logs
born_too_late =
    behind_birth (ends_first (Ref (record first_root { generation = 3 }) RefDid.Born ∷ []))

-- a root is retained that was not born
abbrev pub retained_unborn : Logs
retained_unborn = (Ref first_root RefDid.Retain ∷ []) ∷ []

-- a release takes the last count, and keeps the root
abbrev pub kept_at_one : Logs
kept_at_one = behind_birth (Ref first_root RefDid.Kept ∷ [])

-- a release finds two counts, and ends the root
abbrev pub ended_at_two : Logs
ended_at_two = behind_birth (Ref first_root RefDid.Retain ∷ Ref first_root RefDid.Ended ∷ [])

-- a root ends twice
abbrev pub ended_twice : Logs
ended_twice = behind_birth (ends_first (Ref first_root RefDid.Ended ∷ []))

-- a place is vacated of a root that has not ended
abbrev pub vacated_before_its_end : Logs
vacated_before_its_end = behind_birth (Ref first_root RefDid.Vacated ∷ Ref first_root RefDid.Ended ∷ [])

-- a place is vacated twice
abbrev pub vacated_twice : Logs
vacated_twice = behind_birth (ends_first (Ref first_root RefDid.Vacated ∷ []))

-- a look tells one count too many, one too few, and one that is left where none is
abbrev pub looked_too_high : Logs
looked_too_high = behind_birth (Ref first_root (RefDid.Look 2) ∷ [])

abbrev pub looked_too_low : Logs
looked_too_low = behind_birth (Ref first_root RefDid.Retain ∷ Ref first_root (RefDid.Look 1) ∷ [])

abbrev pub looked_after_its_end : Logs
looked_after_its_end = behind_birth (ends_first (Ref first_root (RefDid.Look 0) ∷ []))

-- a note has a number that was there, one has a number ahead of the next, and one has none
abbrev pub numbered_twice : Logs
numbered_twice = behind_birth (at_root 0 1 Did.Touch ∷ [])

abbrev pub numbered_ahead : Logs
numbered_ahead = behind_birth (at_root 0 3 Did.Touch ∷ [])

abbrev pub numbered_zero : Logs
numbered_zero = behind_birth (at_cache 0 (Did.Kept (taking 1)) ∷ [])

-- a mark has the number of a note that never comes, and of one that its own lane makes behind it
abbrev pub marked_ahead : Logs
marked_ahead = behind_birth (mark 1 ∷ [])

abbrev pub marked_before_its_note : Logs
marked_before_its_note = behind_birth (mark 1 ∷ ends_first [])

-- a mark has the number of a note behind which its own lane made another
abbrev pub marked_behind : Logs
marked_behind = behind_birth (ends_first (mark 0 ∷ []))

-- two lanes of which each fetches what the other sends only behind its own fetch
abbrev pub fetched_in_a_circle : Logs
fetched_in_a_circle =
    (At (Object.Mail 1 0) 1 (Did.Fetch parcel) ∷ at_mail 1 1 (Did.Post parcel) ∷ [])
    ∷ (at_mail 1 1 (Did.Fetch parcel) ∷ At (Object.Mail 1 0) 1 (Did.Post parcel) ∷ [])
    ∷ []

-- a lane fetches what it sends behind that
abbrev pub fetched_before_its_post : Logs
fetched_before_its_post =
    behind_birth (at_mail 0 1 (Did.Fetch parcel) ∷ at_mail 0 1 (Did.Post parcel) ∷ [])

-- all of these
abbrev pub forged_steps : List Logs
forged_steps =
    born_twice
    ∷ born_on_it
    ∷ born_too_late
    ∷ retained_unborn
    ∷ kept_at_one
    ∷ ended_at_two
    ∷ ended_twice
    ∷ vacated_before_its_end
    ∷ vacated_twice
    ∷ looked_too_high
    ∷ looked_too_low
    ∷ looked_after_its_end
    ∷ numbered_twice
    ∷ numbered_ahead
    ∷ numbered_zero
    ∷ marked_ahead
    ∷ marked_before_its_note
    ∷ marked_behind
    ∷ fetched_in_a_circle
    ∷ fetched_before_its_post
    ∷ []
