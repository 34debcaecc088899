-- What contracts see of raw memory: grounds, and the pieces that they are cut into.
use Rattle.std.specs.Prelude.{◌≡◌, ℕ, ◌+◌, ◌≤◌, ◌⊎◌, List, ◌++◌, length, take, drop}

-- a ground of `size` bytes: equal ones are one ground, and the other numbers say no more
pub record Origin : Type 0 where
  pub name : ℕ
  pub block : ℕ
  pub first : ℕ
  pub size : ℕ

-- a piece of memory: some bytes of a ground, `start` bytes from its beginning
pub record Segment : Type 0 where
  pub origin : Origin
  pub start : ℕ
  pub bytes : List ℕ

-- s is all of its ground
abbrev pub IsWhole : Segment → Type 0
IsWhole s = (s.start ≡ 0) × (length s.bytes ≡ s.origin.size)

-- t begins where s ends
abbrev pub Follows : Segment → Segment → Type 0
Follows s t = (t.origin ≡ s.origin) × (t.start ≡ s.start + length s.bytes)

-- the place of s, with other bytes
abbrev pub with_bytes : Segment → List ℕ → Segment
with_bytes s xs = record s { bytes = xs }

-- s once xs is written over its bytes
abbrev pub overwritten : Segment → List ℕ → Segment
overwritten s xs = with_bytes s (take (length s.bytes) (xs ++ drop (length xs) s.bytes))

-- n places from s on and m places from t on are the same, or have none in common
abbrev pub ApartAt : ℕ → ℕ → ℕ → ℕ → Type 0
ApartAt s n t m = ((s ≡ t) × (n ≡ m)) ⊎ ((s + n ≤ t) ⊎ (t + m ≤ s))

-- s and t are one piece, or have no byte in common
abbrev pub Apart : Segment → Segment → Type 0
Apart s t = ApartAt s.start (length s.bytes) t.start (length t.bytes)
