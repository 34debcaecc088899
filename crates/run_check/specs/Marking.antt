-- What a lane has of objects, as the program keeps it.
use Rattle.std.specs.Prelude.{ℕ, ◌+◌, ◌≤◌, max, if◌then◌else◌, List, Option, Some, None, slice_get, unwrap_or, IsTrue}
use Rattle.std.specs.BTreeMap.{get}
use Rattle.pool_law.specs.declared.note.Object.{Object}
use Rattle.pool_law.specs.declared.note.Note.{Note}
use Rattle.pool_law.specs.declared.note.Note.TheVariants.{At, Ref, Busy}
use Rattle.pool_law.specs.Same.{same_object}
use Rattle.pool_law.specs.Busy.{MarksFit, IsOfAnother}
use Rattle.pool_law.specs.Logs.{History}
use Rattle.lane_reader.specs.Counting.{key_cmp}
use Rattle.run_check.specs.Keying.{object_key}
use Rattle.run_check.specs.declared.busy.Had.{Had}
use Rattle.run_check.specs.declared.busy.Marked.{Marked}

-- nothing is had
abbrev pub none_had : Had
none_had = record { number = 0; mark = None }

-- what is had of an object
abbrev pub had_of : Marked → Object → Had
had_of m object = unwrap_or (get key_cmp m.map (object_key object)) none_had

-- the least number that a note may have after a mark
abbrev pub least_after : Option ℕ → ℕ
least_after None = 0
least_after (Some mark) = mark + 1

-- the marks of these notes fit what is had of an object
abbrev pub FitFrom : Object → Had → List Note → Type 0
FitFrom object h ns = MarksFit object h.number (least_after h.mark) ns

-- what is had after a note at the object, and after a mark there
abbrev pub had_note : Had → ℕ → Had
had_note h number = record h { number = max h.number number }

abbrev pub had_mark : ℕ → Had
had_mark number = record { number = number; mark = Some number }

-- what is had of an object after a note
abbrev pub had_after : Object → Had → Note → Had
had_after object h (At other number did) =
    if same_object object other then had_note h number else h
had_after object h (Busy held) = if same_object object held.object then had_mark held.number else h
had_after object h (Ref root did) = h

-- a note may come next
abbrev pub MayCome : Object → Had → Note → Type 0
MayCome object h (At other number did) =
    IsTrue (same_object object other) → least_after h.mark ≤ number
MayCome object h (Busy held) = IsTrue (same_object object held.object) → h.number ≤ held.number
MayCome object h (Ref root did) = Unit {0}

-- a note, if it is a mark, stands before a note of another lane
abbrev pub MarkHolds : ℕ → (Object → History) → Note → Type 0
MarkHolds lane history (Busy held) =
    IsOfAnother lane (slice_get (history held.object) held.number)
MarkHolds lane history (At object number did) = Unit {0}
MarkHolds lane history (Ref root did) = Unit {0}
