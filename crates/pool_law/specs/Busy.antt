-- Busy marks: where one stands, another lane was at the object.
use Rattle.std.specs.Prelude.{◌≢◌, ℕ, ◌+◌, ◌≤◌, max, List, [], ◌∷◌, Option, Some, None, slice_get, MatchBool}
use Rattle.pool_law.specs.declared.note.Object.{Object}
use Rattle.pool_law.specs.declared.note.Did.{Did}
use Rattle.pool_law.specs.declared.note.Note.{Note}
use Rattle.pool_law.specs.declared.note.Note.TheVariants.{At, Ref, Busy}
use Rattle.pool_law.specs.Same.{same_object}
use Rattle.pool_law.specs.Logs.{History}

-- marks are not below what the lane had of the object, nor later notes below what marks allow
abbrev pub MarksFit : Object → ℕ → ℕ → List Note → Type 0
MarksFit object had least [] = Unit {0}
MarksFit object had least (At other number did ∷ ns) =
    MatchBool (same_object object other)
    ((least ≤ number) × MarksFit object (max had number) least ns)
    (MarksFit object had least ns)
MarksFit object had least (Busy held ∷ ns) =
    MatchBool (same_object object held.object)
    ((had ≤ held.number) × MarksFit object held.number (held.number + 1) ns)
    (MarksFit object had least ns)
MarksFit object had least (Ref root did ∷ ns) = MarksFit object had least ns

-- the note after the mark is of another lane
abbrev pub IsOfAnother : ℕ → Option (ℕ × Did) → Type 0
IsOfAnother lane None = ⊥
IsOfAnother lane (Some e) = e.0 ≢ lane

-- each busy mark of a lane stands before a note of another lane
abbrev pub MarksHold : ℕ → (Object → History) → List Note → Type 0
MarksHold lane history [] = Unit {0}
MarksHold lane history (Busy held ∷ ns) =
    IsOfAnother lane (slice_get (history held.object) held.number) × MarksHold lane history ns
MarksHold lane history (At object number did ∷ ns) = MarksHold lane history ns
MarksHold lane history (Ref root did ∷ ns) = MarksHold lane history ns

-- the busy marks of a log are right
pub record BusyHolds (lane : ℕ) (history : Object → History) (log : List Note) : Type 0 where
  pub fit : (object : Object) → MarksFit object 0 0 log
  pub marks : MarksHold lane history log
