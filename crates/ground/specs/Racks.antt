-- How a rack holds its elements. No public clause cites this module.
use Rattle.std.specs.Prelude.{◌≡◌, ℕ, ◌+◌, ◌-◌, ◌*◌, ◌^◌, ◌<◌, ◌≤◌, List, [], ◌∷◌, length, Option, Some, None, ⊤}
use denote.RawPtr.{Ptr, block_of, count_of}
use Rattle.ground.specs.Rack.{Cell, Racked}
use Rattle.ground.specs.Ownership.{IsPlaced}
use Rattle.ground.specs.declared.raw_rack.RawRack.{RawRack}
use Rattle.ground.specs.declared.rack.Rack.TheInside.{Inside}

-- the elements, the ground's name and its size, where the raw rack is at hand
abbrev pub cells_in : Option RawRack → List Cell
cells_in None = []
cells_in (Some raw) = raw.cells

abbrev pub name_in : Option RawRack → ℕ
name_in None = 0
name_in (Some raw) = raw.name

abbrev pub size_in : Option RawRack → ℕ
size_in None = 0
size_in (Some raw) = raw.size

-- what contracts see of a rack
abbrev pub rack_of : Inside → Racked
rack_of r = record {
  origin = record {
    name = name_in r.raw_rack;
    block = block_of r.at;
    first = count_of r.at - r.start;
    size = size_in r.raw_rack;
  };
  start = r.start;
  each = r.each;
  cells = cells_in r.raw_rack;
}

-- the raw rack is at hand, and lies there
abbrev pub IsRawRack : Option RawRack → Ptr → ℕ → ℕ → Type 0
IsRawRack None p start each = ⊥
IsRawRack (Some raw) p start each = (raw.ptr ≡ p) × (raw.start ≡ start) × (raw.each ≡ each)

-- each element that is in has n bytes
abbrev pub Fits : ℕ → List Cell → Type 0
Fits n [] = ⊤
Fits n (None ∷ cs) = Fits n cs
Fits n (Some b ∷ cs) = (length b ≡ n) × Fits n cs

-- the elements fill the rack's bytes, which lie in one ground
pub record IsRack (r : Inside) : Type 0 where
  pub raw_rack : IsRawRack r.raw_rack r.at r.start r.each
  pub placed : IsPlaced r.at
  pub above : r.start ≤ count_of r.at
  pub some : 0 < r.each
  pub filled : (0 < length (cells_in r.raw_rack)) × (length (cells_in r.raw_rack) * r.each ≡ r.len)
  pub fits : Fits r.each (cells_in r.raw_rack)
  pub within : r.start + r.len ≤ size_in r.raw_rack
  pub small : size_in r.raw_rack ≤ 2 ^ 24
