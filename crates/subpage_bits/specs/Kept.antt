-- How a subpage keeps its elements. No public clause cites this module.
use Rattle.std.specs.Prelude.{◌≡◌, ℕ, zero, suc, ◌+◌, ◌<◌, ◌≤◌, Bool, true, false, List, [], ◌∷◌, length, map, slice_index_or, Option, Some, None, ⊤}
use Rattle.ground.specs.Rack.{Cell}
use Rattle.size_classes.specs.Elements.{Elements}
use Rattle.subpage_bits.specs.Elements.{SharedRun}
use Rattle.bit_words.specs.Words.{bit_of}
use Rattle.subpage_bits.specs.declared.subpage.Subpage.TheInside.{Inside}

-- the flag of a place of the rack: out where the element is not there
abbrev pub cell_out : Cell → Bool
cell_out None = true
cell_out (Some b) = false

abbrev pub elements_in : Inside → Elements
elements_in s = record { out = map cell_out s.rack.cells; remembered = s.remembered }

abbrev pub shared_in : Inside → SharedRun
shared_in s = record {
  origin = s.rack.origin;
  start = s.rack.start;
  size = s.rack.each;
  elements = elements_in s;
}

-- element i is in
abbrev pub IsIn : ℕ → List Cell → Type 0
IsIn i [] = ⊥
IsIn zero (None ∷ cs) = ⊥
IsIn zero (Some b ∷ cs) = ⊤
IsIn (suc i) (c ∷ cs) = IsIn i cs

-- the remembered element, if there is one, is in
abbrev pub RemembersIn : Option ℕ → List Cell → Type 0
RemembersIn None cs = ⊤
RemembersIn (Some i) cs = IsIn i cs

-- how many elements are out
abbrev pub outs : List Cell → ℕ
outs [] = 0
outs (None ∷ cs) = outs cs + 1
outs (Some b ∷ cs) = outs cs

-- the bit of a flag
abbrev pub bit : Bool → ℕ
bit true = 1
bit false = 0

-- the bits are those of flags
abbrev pub AreBits : List ℕ → List Bool → Type 0
AreBits words flags =
    (i : ℕ) → i < length flags → bit_of words i ≡ bit (slice_index_or flags i false)

-- the bits tell which elements are out, so many are, and what is remembered is in
pub record IsSubpage (s : Inside) : Type 0 where
  pub words : length s.out ≡ 32
  pub bits : AreBits s.out (map cell_out s.rack.cells)
  pub count : (s.count ≡ length s.rack.cells) × (s.count ≤ 2048)
  pub out_count : s.out_count ≡ outs s.rack.cells
  pub remembered : RemembersIn s.remembered s.rack.cells
