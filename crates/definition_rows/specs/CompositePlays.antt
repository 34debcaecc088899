-- A lane that has bound views and composites: what it answers to one more command.
use Rattle.std.specs.Prelude.{ℕ, zero, suc, ◌+◌, ◌*◌, List, [], ◌∷◌, ◌++◌, replicate}
use Rattle.pool_law.specs.declared.id.RootId.{RootId}
use Rattle.pool_law.specs.declared.id.RegionId.{RegionId}
use Rattle.pool_law.specs.declared.id.ViewData.{ViewData}
use Rattle.pool_law.specs.declared.id.Part.{Part}
use Rattle.pool_law.specs.declared.command.Command.{Command}
use Rattle.pool_law.specs.declared.note.Did.{Did}
use Rattle.pool_law.specs.declared.note.RefDid.{RefDid}
use Rattle.pool_law.specs.declared.run.Reply.{Reply}
use Rattle.pool_law.specs.Readers.{ToldNotes}
use Rattle.pool_law.specs.Composites.{Composite}
use Rattle.pool_law.specs.Names.{Bound, Plain, Composed, Names, bind}
use Rattle.pool_law.specs.LaneStates.{LaneState, log_at}
use Rattle.pool_law.specs.Lanes.{answer_of}
use Rattle.definition_rows.specs.Notes.{default_shape, place, region, root, view, arena, cache, bin, root_place}
use Rattle.definition_rows.specs.Entries.{alone, on, access}
use Rattle.definition_rows.specs.LanePlays.{held, gone, held_view, gone_view, Answers, with_left, gives}

-- a root of 40,000 bytes that the lane counts
abbrev pub large : RootId
large = root 2 1 40000

-- all of it, readable
abbrev pub large_view : ViewData
large_view = view large 0 40000 0 40000

-- the four readable bytes of the held root
abbrev pub held_part : Part
held_part = record { root = held; offset = 2; len = 4 }

-- two bytes of the root that is gone
abbrev pub gone_part : Part
gone_part = record { root = gone; offset = 0; len = 2 }

-- all of the large root
abbrev pub large_part : Part
large_part = record { root = large; offset = 0; len = 40000 }

-- a composite of these parts, with so many counts, of which one byte was read
abbrev pub composite : List Part → ℕ → ℕ → Composite
composite parts count writer =
    record { parts = parts; count = count; reader = 1; writer = writer }

-- ---- The names.

-- two views, and one of the large root
abbrev pub views : Names
views = (0, Plain held_view) ∷ (1, Plain gone_view) ∷ (6, Plain large_view) ∷ []

-- a composite of one part; one that has ended; one of which a root is gone; a long one; a long one
-- of which a root is gone; one of sixteen parts; and a long one of sixteen parts
abbrev pub composites : Names
composites =
    (3, Composed (composite (held_part ∷ []) 1 4))
    ∷ (4, Composed (composite (held_part ∷ []) 0 4))
    ∷ (5, Composed (composite (held_part ∷ gone_part ∷ []) 1 6))
    ∷ (7, Composed (composite (large_part ∷ []) 2 40000))
    ∷ (8, Composed (composite (large_part ∷ gone_part ∷ []) 1 40002))
    ∷ (10, Composed (composite (replicate 16 held_part) 1 64))
    ∷ (11, Composed (composite (large_part ∷ replicate 15 held_part) 1 40060))
    ∷ []

-- all of them
abbrev pub bound : Names
bound = views ++ composites

-- the lane
abbrev pub lane : LaneState
lane =
    record {
      names = bound;
      seen =
          on held RefDid.Born
          ∷ on gone RefDid.Born
          ∷ on gone RefDid.Ended
          ∷ on large RefDid.Born
          ∷ [];
      asked = 0;
    }

-- its answer to a command whose notes begin these
abbrev pub answers : Command → ToldNotes → Answers
answers command es = with_left (answer_of (default_shape 2) 0 lane command (log_at lane es))

-- a reply that changes no name, and the notes behind
abbrev pub replies : Reply → ToldNotes → Answers
replies reply rest = gives reply bound rest

-- a reply once a name is bound to this, with no note behind
abbrev pub binds : Reply → ℕ → Bound → Answers
binds reply name b = gives reply (bind name b bound) []

-- ---- Seventeen parts of the held root are copied.

-- the new root
abbrev pub copy : RootId
copy = root 3 1 68

-- its region, after so many uses
abbrev pub copy_region : ℕ → RegionId
copy_region uses = region (place 8192 80) 4 2 uses

-- its place comes out of the bin
abbrev pub handle : ToldNotes
handle = alone (bin 0 3 (Did.Handle 3)) ∷ []

-- the bin is empty
abbrev pub no_handle : ToldNotes
no_handle = alone (bin 0 3 Did.NoHandle) ∷ []

-- nothing is left of the class
abbrev pub full : ToldNotes
full =
    alone (cache 0 4 3 Did.Miss)
    ∷ alone (arena 0 3 (Did.Full 4))
    ∷ alone (bin 0 4 (Did.Home 3))
    ∷ []

-- the new root is born
abbrev pub birth : ToldNotes
birth =
    alone (cache 0 4 3 (Did.Hit (copy_region 1)))
    ∷ alone (root_place 3 1 (Did.Birth copy (copy_region 2)))
    ∷ on copy RefDid.Born
    ∷ []

-- so many parts are copied, from this one on
abbrev pub copies : ℕ → ℕ → ToldNotes
copies k zero = []
copies k (suc n) =
    access held (k + 2) (Did.Get 2 (5 ∷ 6 ∷ 7 ∷ 8 ∷ []))
    ∷ access copy (k + 2) (Did.Set (4 * k) (5 ∷ 6 ∷ 7 ∷ 8 ∷ []))
    ∷ copies (k + 1) n

-- the new root, as the one part of a composite
abbrev pub copy_part : Part
copy_part = record { root = copy; offset = 0; len = 68 }

-- ---- The end of the held root.

-- its region
abbrev pub held_region : RegionId
held_region = region (place 0 16) 0 1 1
