-- What contracts see of a `Rack`: elements of one size side by side, of which some are out.
use Rattle.std.specs.Prelude.{◌≡◌, ℕ, zero, suc, ◌+◌, ◌*◌, ◌/◌, List, [], ◌∷◌, ◌++◌, length, take, drop, Option, Some, None, ⊤}
use Rattle.ground.specs.Ground.{Origin, Segment}

-- the bytes of an element, or none while it is out
abbrev pub Cell : Type 0
Cell = Option (List ℕ)

-- element i is c
abbrev pub HasCell : ℕ → Cell → List Cell → Type 0
HasCell i c [] = ⊥
HasCell zero c (d ∷ cs) = d ≡ c
HasCell (suc i) c (d ∷ cs) = HasCell i c cs

-- element i is in
abbrev pub IsIn : ℕ → List Cell → Type 0
IsIn i cs = (bs : List ℕ) × HasCell i (Some bs) cs

-- element i is out
abbrev pub IsOut : ℕ → List Cell → Type 0
IsOut i cs = HasCell i None cs

-- no element is out
abbrev pub AllIn : List Cell → Type 0
AllIn [] = ⊤
AllIn (None ∷ cs) = ⊥
AllIn (Some b ∷ cs) = AllIn cs

-- the bytes of the elements that are in, in order
abbrev pub bytes_of : List Cell → List ℕ
bytes_of [] = []
bytes_of (None ∷ cs) = bytes_of cs
bytes_of (Some b ∷ cs) = b ++ bytes_of cs

-- k elements of n bytes each
abbrev pub cells_of : ℕ → ℕ → List ℕ → List Cell
cells_of n zero bs = []
cells_of n (suc k) bs = Some (take n bs) ∷ cells_of n k (drop n bs)

-- the elements once element i is c
abbrev pub with_cell : ℕ → Cell → List Cell → List Cell
with_cell i c [] = []
with_cell zero c (d ∷ cs) = c ∷ cs
with_cell (suc i) c (d ∷ cs) = d ∷ with_cell i c cs

-- elements of `each` bytes, the first of which begins `start` bytes into a ground
pub record Racked : Type 0 where
  pub origin : Origin
  pub start : ℕ
  pub each : ℕ
  pub cells : List Cell

-- all of s as elements of n bytes
abbrev pub elements_of : Segment → ℕ → Racked
elements_of s n = record {
  origin = s.origin;
  start = s.start;
  each = n;
  cells = cells_of n (length s.bytes / n) s.bytes;
}

-- s lies where element i does
abbrev pub IsElement : Racked → ℕ → Segment → Type 0
IsElement r i s =
    (s.origin ≡ r.origin) × (s.start ≡ r.start + i * r.each) × (length s.bytes ≡ r.each)

-- s lies where an element does that is out
abbrev pub IsOutOf : Racked → Segment → Type 0
IsOutOf r s = (i : ℕ) × IsElement r i s × IsOut i r.cells

-- the rack once element i is out
abbrev pub without_element : Racked → ℕ → Racked
without_element r i = record r { cells = with_cell i None r.cells }

-- the rack once element i is in, with the bytes bs
abbrev pub with_element : Racked → ℕ → List ℕ → Racked
with_element r i bs = record r { cells = with_cell i (Some bs) r.cells }
