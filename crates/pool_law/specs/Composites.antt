-- Composites: parts of roots, one behind the other. (CompositeByteBuf)
use Rattle.std.specs.Prelude.{ℕ, ◌+◌, ◌-◌, Bool, ◌==◌, not, nat_lt, min, List, [], ◌∷◌, ◌++◌, length, map, filter, sum}
use Rattle.pool_law.specs.declared.id.RootId.{RootId}
use Rattle.pool_law.specs.declared.id.ViewData.{ViewData}
use Rattle.pool_law.specs.declared.id.Part.{Part}

-- a composite of a lane
pub record Composite : Type 0 where
  pub parts : List Part
  pub count : ℕ  -- its own; once it is 0, the composite has ended
  pub reader : ℕ
  pub writer : ℕ

-- the most bytes of a composite
abbrev pub most_bytes : ℕ
most_bytes = 65536

-- the most parts of a composite that stays as it is
abbrev pub most_parts : ℕ
most_parts = 16

-- how many bytes parts have together
abbrev pub size_of : List Part → ℕ
size_of parts = sum (map (λ p. p.len) parts)

-- the parts that are not empty
abbrev pub filled : List Part → List Part
filled parts = filter (λ p. not (p.len == 0)) parts

-- the readable bytes of a view, as a part
abbrev pub readable : ViewData → Part
readable v =
    record { root = v.root; offset = v.offset + v.reader; len = v.writer - v.reader }

-- the whole of a root, as a part
abbrev pub whole_part : RootId → Part
whole_part root = record { root = root; offset = 0; len = root.capacity }

-- a new composite of these parts: all of it can be read
abbrev pub composite_of : List Part → Composite
composite_of parts = record { parts = parts; count = 1; reader = 0; writer = size_of parts }

-- a composite with one more part, up to the end of which it can be read
abbrev pub extended_by : Part → Composite → Composite
extended_by part c =
    let parts = c.parts ++ part ∷ [] in record c { parts = parts; writer = size_of parts }

-- a composite once its bytes are copied to a root
abbrev pub moved_to : RootId → Composite → Composite
moved_to root c = record c { parts = whole_part root ∷ [] }

-- too many parts: the composite is consolidated
abbrev pub is_crowded : Composite → Bool
is_crowded c = nat_lt most_parts (length c.parts)

-- of a part so many bytes, from an index on
abbrev pub cut : Part → ℕ → ℕ → Part
cut p i n = record { root = p.root; offset = p.offset + i; len = n }

-- what each part has of n bytes from an index on
abbrev pub cuts : List Part → ℕ → ℕ → List Part
cuts [] i n = []
cuts (p ∷ ps) i n =
    let skipped = min i p.len in
    let taken = min n (p.len - skipped) in
    cut p skipped taken ∷ cuts ps (i - skipped) (n - taken)

-- where n bytes from an index on lie: parts in order, none of them empty
abbrev pub ranges : List Part → ℕ → ℕ → List Part
ranges parts i n = filled (cuts parts i n)
