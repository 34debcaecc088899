-- A number of an object beside those that a seat's entries have of it.
use Rattle.std.specs.Prelude.{◌≡◌, ℕ, ◌+◌, ◌<◌, ◌≤◌, List, All, ⊤}
use Rattle.pool_law.specs.declared.note.Object.{Object}
use Rattle.pool_table.specs.declared.views.Entry.{Entry}
use Rattle.pool_table.specs.declared.views.Entry.TheVariants.{At, Ref, Busy}

-- where the entry is of the object, a note has a lower number, and so has the note that a mark saw
-- another seat make
abbrev pub IsBefore : Object → ℕ → Entry → Type 0
IsBefore o number (At p k n) = p ≡ o → k < number
IsBefore o number (Busy b) = b.object ≡ o → b.number + 1 < number
IsBefore o number (Ref r d) = ⊤

-- the number is above all that the entries have of the object
abbrev pub IsAbove : Object → ℕ → List Entry → Type 0
IsAbove o number entries = All (IsBefore o number) entries

-- where the entry is of the object, a note or a mark, its number is at most n
abbrev pub IsUpTo : Object → ℕ → Entry → Type 0
IsUpTo o n (At p k m) = p ≡ o → k ≤ n
IsUpTo o n (Busy b) = b.object ≡ o → b.number ≤ n
IsUpTo o n (Ref r d) = ⊤

-- the number is not below any that the entries have of the object
abbrev pub IsNotBelow : Object → ℕ → List Entry → Type 0
IsNotBelow o n entries = All (IsUpTo o n) entries
