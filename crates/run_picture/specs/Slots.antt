-- A history as the program gathers it: a slot for each number. No public clause cites this module.
use Rattle.std.specs.Prelude.{ℕ, zero, suc, ◌+◌, List, [], ◌∷◌, map, Option, Some, option_map, unwrap_or}
use Rattle.pool_law.specs.declared.note.Did.{Did}
use Rattle.pool_law.specs.declared.note.Object.{Object}
use Rattle.pool_law.specs.Logs.{Logs, History, own, extended}
use Rattle.run_picture.specs.declared.history.Done.{Done}

-- what was done, and by which lane
abbrev pub done_in : Done → ℕ × Did
done_in d = (d.lane, d.did.now)

abbrev pub dones_in : List Done → History
dones_in dones = map done_in dones

-- slots, of which some are empty
abbrev pub Slots : Type 0
Slots = List (Option (ℕ × Did))

abbrev pub slots_in : List (Option Done) → Slots
slots_in slots = map (option_map done_in) slots

-- a note is put into a slot, unless another is there
abbrev pub put_at : Slots → ℕ → ℕ × Did → Slots
put_at [] k e = []
put_at (o ∷ slots) zero e = Some (unwrap_or o e) ∷ slots
put_at (o ∷ slots) (suc k) e = o ∷ put_at slots k e

-- a note is put into the slot of its number, from 1
abbrev pub put : Slots → ℕ → ℕ × Did → Slots
put slots zero e = slots
put slots (suc k) e = put_at slots k e

-- the notes of a lane are put into their slots
abbrev pub entered : ℕ → Slots → List (ℕ × Did) → Slots
entered lane slots [] = slots
entered lane slots (x ∷ xs) = entered lane (put slots x.0 (lane, x.1)) xs

-- the notes of all lanes from this one on
abbrev pub all_entered : Object → ℕ → Slots → Logs → Slots
all_entered object lane slots [] = slots
all_entered object lane slots (log ∷ logs) =
    all_entered object (lane + 1) (entered lane slots (own object log)) logs

-- what is in the slots, in order
abbrev pub present : Slots → History
present [] = []
present (s ∷ slots) = extended s (present slots)
