-- What was noted before what, across parts.
use Rattle.std.specs.Prelude.{◌≡◌, ℕ, ◌<◌, List, ◌∷◌, ◌++◌, All, IsTrue, ⊤}
use Rattle.pool_law.specs.declared.note.Noted.{Noted}
use Rattle.pool_law.specs.declared.note.Object.{Object}
use Rattle.pool_law.specs.Logs.{has_history}
use Rattle.pool_table.specs.declared.views.Entry.{Entry}
use Rattle.pool_table.specs.declared.views.Entry.TheVariants.{At}
use Rattle.pool_table.specs.declared.views.Part.{Part}
use Rattle.pool_table.specs.declared.views.SeatView.{SeatView}
use Rattle.pool_table.specs.Views.{parts_of}

-- of two notes of one history, the second has the higher number
abbrev pub IsBelow : Entry → Entry → Type 0
IsBelow (At o j m) (At p k n) = IsTrue (has_history o) → o ≡ p → j < k
IsBelow x y = ⊤

-- what stands in one part after a note is numbered above what stands in another part before an
-- earlier note of the same history; of the notes of mails the one order of all steps says it
abbrev pub IsInOrder : Part → Part → Type 0
IsInOrder q p =
    (before after early late : List Entry) (o : Object) (j k : ℕ) (m n : Noted) →
    IsTrue (has_history o) → q.notes ≡ before ++ At o k n ∷ after →
    p.notes ≡ early ++ At o j m ∷ late → j < k →
    All (λ (y : Entry). All (IsBelow y) after) early

-- a part is in order with all parts of all views
abbrev pub IsInOrderWith : List SeatView → Part → Type 0
IsInOrderWith views q = All (λ (v : SeatView). All (IsInOrder q) (parts_of v)) views

abbrev pub AreInOrder : List SeatView → Type 0
AreInOrder views = All (λ (v : SeatView). All (IsInOrderWith views) (parts_of v)) views
