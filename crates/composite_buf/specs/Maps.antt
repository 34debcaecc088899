-- The map of a composite: those of its components, one behind the other. (CompositeByteBuf)
use Rattle.std.specs.Prelude.{ℕ, ◌+◌, ◌-◌, ◌^◌, ◌<◌, nat_lt, if◌then◌else◌, List, [], ◌∷◌, Option, Some, None}
use Rattle.pool_law.specs.declared.id.RootId.{RootId}
use Rattle.pool_law.specs.declared.id.Part.{Part}

-- the end of a part in its root is a number of 32 bits
abbrev pub Fits : Part → Type 0
Fits p = p.offset + p.len < 2 ^ 32

-- the byte of its root that an index of a part means, none from its length on
abbrev pub byte_of : Part → ℕ → Option (RootId × ℕ)
byte_of p i = if nat_lt i p.len then Some (p.root, p.offset + i) else None

-- the byte of its root that an index of parts means, none from their length together on
abbrev pub byte_at : List Part → ℕ → Option (RootId × ℕ)
byte_at [] i = None
byte_at (p ∷ ps) i = if nat_lt i p.len then byte_of p i else byte_at ps (i - p.len)
