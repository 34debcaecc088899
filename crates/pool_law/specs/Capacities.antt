-- What a lane knows of the capacity of a root, by its own notes.
use Rattle.std.specs.Prelude.{ℕ, ◌+◌, max, if◌then◌else◌, List, [], ◌∷◌, Option, Some, None}
use Rattle.pool_law.specs.declared.id.RootId.{RootId}
use Rattle.pool_law.specs.declared.id.ViewData.{ViewData}
use Rattle.pool_law.specs.declared.note.Did.TheVariants.{Fetch, Birth, Room, Extend, Grow}
use Rattle.pool_law.specs.declared.note.Note.{Note}
use Rattle.pool_law.specs.declared.note.Note.TheVariants.{At}
use Rattle.pool_law.specs.Same.{same_root}
use Rattle.pool_law.specs.Logs.{ToldNote}
use Rattle.pool_law.specs.Counts.{root_is}

-- how far a view reaches into the root, if it is one of the root
abbrev pub reach_of : RootId → Option ViewData → ℕ
reach_of root None = 0
reach_of root (Some v) = if same_root v.root root then v.offset + v.len else 0

-- what a note tells of the root's capacity, by the root that is present: at its birth, where it is
-- asked for capacity or grows, and by a view of it that comes; no other note tells any
abbrev pub told_by : RootId → Option RootId → Note → ℕ
told_by root present (At object number (Birth r region)) =
    if same_root r root then r.capacity else 0
told_by root present (At object number (Room asked capacity)) =
    if root_is root present then capacity else 0
told_by root present (At object number (Extend size)) = if root_is root present then size else 0
told_by root present (At object number (Grow capacity region)) =
    if root_is root present then capacity else 0
told_by root present (At object number (Fetch parcel)) = reach_of root parcel.view
told_by root present _ = 0

-- what a lane knows of the root's capacity: the greatest that its notes told it
abbrev pub known_of : RootId → List ToldNote → ℕ
known_of root [] = 0
known_of root (e ∷ es) = max (told_by root e.root e.note) (known_of root es)
