-- The notes at an object, as the program gathers them.
use Rattle.std.specs.Prelude.{◌≡◌, ℕ, zero, suc, List, [], ◌∷◌, map}
use Rattle.pool_law.specs.declared.note.Did.{Did}
use Rattle.pool_law.specs.Logs.{History, numbered}
use denote.Ref.{Bor}
use Rattle.run_check.specs.declared.gathering.HistoryNote.{HistoryNote}

-- a note's number, and what was done
abbrev pub note_data : HistoryNote → ℕ × Did
note_data note = (note.number, note.did.now)

-- the notes, one after another
abbrev pub notes_data : List HistoryNote → List (ℕ × Did)
notes_data notes = map note_data notes

-- what is left of each lane is what a history from this number on has of it
abbrev pub AreNumbered : ℕ → (ℕ → List (ℕ × Did)) → History → Type 0
AreNumbered k left h = (lane : ℕ) → left lane ≡ numbered lane k h

-- the notes of a lane, of which there may be none
abbrev pub left_of : List (Bor (List HistoryNote)) → ℕ → List (ℕ × Did)
left_of [] lane = []
left_of (notes ∷ rest) zero = notes_data notes.now
left_of (notes ∷ rest) (suc lane) = left_of rest lane

-- the first of these notes has this number
abbrev pub HasNext : ℕ → List (ℕ × Did) → Type 0
HasNext number [] = ⊥
HasNext number (x ∷ xs) = x.0 ≡ number

-- no lane's first note has this number
abbrev pub IsStuck : ℕ → (ℕ → List (ℕ × Did)) → Type 0
IsStuck number left = (lane : ℕ) → HasNext number (left lane) → ⊥
