-- A sum over the notes at an object, in all logs, is the sum over its history.
use Rattle.std.specs.Prelude.{◌≡◌, ℕ, ◌+◌, List, [], ◌∷◌}
use Rattle.pool_law.specs.declared.note.Object.{Object}
use Rattle.pool_law.specs.declared.note.Did.{Did}
use Rattle.run_laws.specs.CacheCounts.{total_by}
use Rattle.pool_law.specs.Logs.{Logs, History, dids, own, IsHistory}

-- a sum over numbered notes
abbrev pub total_of_notes : (Did → ℕ) → List (ℕ × Did) → ℕ
total_of_notes f [] = 0
total_of_notes f (x ∷ xs) = f x.1 + total_of_notes f xs

-- over the notes at an object in all logs
abbrev pub total_at : (Did → ℕ) → Object → Logs → ℕ
total_at f object [] = 0
total_at f object (log ∷ logs) = total_of_notes f (own object log) + total_at f object logs

abbrev pub SumsAgree : Type 0
SumsAgree =
    (f : Did → ℕ) (object : Object) (logs : Logs) (h : History) → IsHistory object logs h →
    total_at f object logs ≡ total_by f (dids h)
