-- Where a table's slots lie. They are numbered in the order of the objects' homes. `slot_lies`
-- alone says where the slot of a number lies. Proofs know of it only that the first lies first, and
-- that each lies behind the one before it.
use Rattle.std.specs.Prelude.{◌≡◌, ℕ, ◌+◌, ◌-◌, ◌*◌, ◌<◌, nat_lt, cond, List, [], ◌∷◌, ◌++◌, Option, Some, None, replicate}
use mathlib.Core.Option.{some}
use lib.ListN.{get_elem?}
use Rattle.pool_law.specs.declared.run.Shape.{Shape}
use Rattle.pool_law.specs.declared.note.Object.{Object}
use Rattle.pool_law.specs.Homes.{home_of, objects_of}
use Rattle.pool_table.specs.Words.{single_of}

-- how far the slots of arenas, caches and bins lie apart: no two of them share a cache line or the
-- line beside it
abbrev pub slots_apart : ℕ
slots_apart = 8

-- how many slots are empty between two of them
abbrev pub slot_gap : ℕ
slot_gap = 7

-- behind them the slots of root places are packed
abbrev pub slot_lies : Shape → ℕ → ℕ
slot_lies s i = cond (nat_lt i (single_of s)) (i * slots_apart) (single_of s * slot_gap + i)

unfoldable pub slot_at : Shape → ℕ → ℕ
slot_at s i = slot_lies s i

-- as many as lie before the end of the last object's
abbrev pub slots_of : Shape → ℕ
slots_of s = slot_at s (objects_of s)

abbrev pub slot_of : Shape → Object → ℕ
slot_of s o = slot_at s (home_of s o)

-- how many slots lie between the slot of a number and the next
abbrev pub gap_of : Shape → ℕ → ℕ
gap_of s i = slot_at s (i + 1) - slot_at s i - 1

-- values in the slots from the number i on, and nothing between them
abbrev pub laid_out : {H : Type 0} → Shape → ℕ → List H → List (Option H)
laid_out s i [] = []
laid_out s i (x ∷ xs) = Some x ∷ (replicate (gap_of s i) None ++ laid_out s (i + 1) xs)

-- in a list of slots those between the slot of one object and the next hold nothing
abbrev pub IsEmptyBetween : {H : Type 0} → Shape → List (Option H) → Type 0
IsEmptyBetween s slots =
    (i k : ℕ) → i < objects_of s → slot_at s i < k → k < slot_at s (i + 1) →
    get_elem? slots k ≡ some None
