-- The names of a lane: each is bound to a view or to a composite.
use Rattle.std.specs.Prelude.{ℕ, ◌+◌, ◌-◌, Bool, false, ◌==◌, ◌&&◌, not, nat_le, if◌then◌else◌, List, [], ◌∷◌, filter, Option, Some, None, is_some}
use Rattle.std.specs.List.{list_all}
use Rattle.pool_law.specs.declared.id.RootId.{RootId}
use Rattle.pool_law.specs.declared.id.ViewData.{ViewData}
use Rattle.pool_law.specs.declared.id.Part.{Part}
use Rattle.pool_law.specs.Views.{root_index, in_range, can_read, can_write, after_read, after_write}
use Rattle.pool_law.specs.Composites.{Composite, size_of, ranges}

-- what a name of a lane is bound to
pub data Bound : Type 0 where
  Plain : (view : ViewData) → Bound
  Composed : (composite : Composite) → Bound

-- the names that are bound, the last first
abbrev pub Names : Type 0
Names = List (ℕ × Bound)

-- what a name is bound to
abbrev pub lookup : ℕ → Names → Option Bound
lookup name [] = None
lookup name (b ∷ bs) = if b.0 == name then Some b.1 else lookup name bs

-- the names without one
abbrev pub without : ℕ → Names → Names
without name bs = filter (λ b. not (b.0 == name)) bs

-- the names once one is bound
abbrev pub bind : ℕ → Bound → Names → Names
bind name bound bs = (name, bound) ∷ without name bs

-- a name is bound
abbrev pub is_bound : ℕ → Names → Bool
is_bound name bs = is_some (lookup name bs)

-- a name is bound to what passes the test
abbrev pub passes : (Bound → Bool) → Option Bound → Bool
passes test None = false
passes test (Some bound) = test bound

-- the view, where it is one
abbrev pub view_in : Bound → Option ViewData
view_in (Plain v) = Some v
view_in (Composed c) = None

-- the composite, where it is one
abbrev pub composite_in : Bound → Option Composite
composite_in (Plain v) = None
composite_in (Composed c) = Some c

-- n bytes from an index on lie in it
abbrev pub has_range : ℕ → ℕ → Bound → Bool
has_range i n (Plain v) = in_range v i n
has_range i n (Composed c) = nat_le (i + n) (size_of c.parts)

-- so many bytes can be read
abbrev pub has_to_read : ℕ → Bound → Bool
has_to_read n (Plain v) = can_read v n
has_to_read n (Composed c) = nat_le n (c.writer - c.reader)

-- so many bytes can be written
abbrev pub has_room : ℕ → Bound → Bool
has_room n (Plain v) = can_write v n
has_room n (Composed c) = nat_le (c.writer + n) (size_of c.parts)

-- the index of the next byte to be read
abbrev pub reader_of : Bound → ℕ
reader_of (Plain v) = v.reader
reader_of (Composed c) = c.reader

-- the index of the next byte to be written
abbrev pub writer_of : Bound → ℕ
writer_of (Plain v) = v.writer
writer_of (Composed c) = c.writer

-- what it is once so much was read
abbrev pub read_on : ℕ → Bound → Bound
read_on n (Plain v) = Plain (after_read v n)
read_on n (Composed c) = Composed (record c { reader = c.reader + n })

-- what it is once so much was written
abbrev pub written_on : ℕ → Bound → Bound
written_on n (Plain v) = Plain (after_write v n)
written_on n (Composed c) = Composed (record c { writer = c.writer + n })

-- where n bytes from an index on lie: a view's one part, or a composite's that are not empty
abbrev pub parts_at : Bound → ℕ → ℕ → List Part
parts_at (Plain v) i n = record { root = v.root; offset = root_index v i; len = n } ∷ []
parts_at (Composed c) i n = ranges c.parts i n

-- the lane, by its test of roots, counts what its bytes need
abbrev pub is_usable : (RootId → Bool) → Bound → Bool
is_usable counts (Plain v) = counts v.root
is_usable counts (Composed c) = nat_le 1 c.count && list_all (λ p. counts p.root) c.parts

-- the lane, by its test of roots, has a count of it
abbrev pub is_counted : (RootId → Bool) → Bound → Bool
is_counted counts (Plain v) = counts v.root
is_counted counts (Composed c) = nat_le 1 c.count
