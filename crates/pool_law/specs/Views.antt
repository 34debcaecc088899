-- Views: windows on the bytes of a root.
use Rattle.std.specs.Prelude.{ℕ, ◌+◌, ◌-◌, ◌^◌, ◌≤◌, Bool, nat_le}
use Rattle.pool_law.specs.declared.id.RootId.{RootId}
use Rattle.pool_law.specs.declared.id.ViewData.{ViewData}

-- the most bytes of a root
abbrev pub most_capacity : ℕ
most_capacity = 2 ^ 24

-- the view lies inside so much capacity of its root
abbrev pub LiesIn : ℕ → ViewData → Type 0
LiesIn capacity v = v.offset + v.len ≤ capacity

-- a view lies where a root may have bytes, and its reader and writer are in order
pub record IsView (v : ViewData) : Type 0 where
  pub inside : LiesIn most_capacity v
  pub reader : v.reader ≤ v.writer
  pub writer : v.writer ≤ v.len

-- the whole of a new root, before it grows
abbrev pub view_of : RootId → ViewData
view_of root = record { root = root; offset = 0; len = root.capacity; reader = 0; writer = 0 }

-- the byte of the root that an index of the view means
abbrev pub root_index : ViewData → ℕ → ℕ
root_index v i = v.offset + i

-- whether a range lies in the view, and whether so much can be read and written
abbrev pub in_range : ViewData → ℕ → ℕ → Bool
in_range v i n = nat_le (i + n) v.len

-- so much can be read
abbrev pub can_read : ViewData → ℕ → Bool
can_read v n = nat_le n (v.writer - v.reader)

-- so much can be written
abbrev pub can_write : ViewData → ℕ → Bool
can_write v n = nat_le (v.writer + n) v.len

-- n bytes of the view from i on, all of them readable
abbrev pub slice_of : ViewData → ℕ → ℕ → ViewData
slice_of v i n = record { root = v.root; offset = v.offset + i; len = n; reader = 0; writer = n }

-- a view after so much was read
abbrev pub after_read : ViewData → ℕ → ViewData
after_read v n = record v { reader = v.reader + n }

-- a view after so much was written
abbrev pub after_write : ViewData → ℕ → ViewData
after_write v n = record v { writer = v.writer + n }

-- a view up to the end of its root's capacity
abbrev pub reaching : ℕ → ViewData → ViewData
reaching capacity v = record v { len = capacity - v.offset }
