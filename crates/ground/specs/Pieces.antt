-- How a piece holds its bytes. No public clause cites this module.
use Rattle.std.specs.Prelude.{◌≡◌, ◌+◌, ◌-◌, ◌^◌, ◌<◌, ◌≤◌, length}
use denote.RawPtr.{block_of, count_of}
use Rattle.ground.specs.Ground.{Segment}
use Rattle.ground.specs.Ownership.{IsPlaced}
use Rattle.ground.specs.declared.piece.Piece.TheInside.{Inside}

-- what contracts see of a piece: the address where its ground begins tells which ground it is
abbrev pub segment_of : Inside → Segment
segment_of p = record {
  origin = record {
    name = p.claim.name;
    block = block_of p.ptr;
    first = count_of p.ptr - p.start;
    size = p.claim.size;
  };
  start = p.start;
  bytes = p.raw_bytes.items;
}

-- the pointer, the bytes, the claim and the start of a piece speak of the same places of one ground
pub record IsPiece (p : Inside) : Type 0 where
  pub placed : IsPlaced p.ptr
  pub there : (p.raw_bytes.ptr ≡ p.ptr) × (length p.raw_bytes.items ≡ p.len)
  pub some : 0 < p.len
  pub claimed : (p.claim.start ≡ p.start) × (p.claim.len ≡ p.len)
  pub within : p.start + p.len ≤ p.claim.size
  pub above : p.start ≤ count_of p.ptr
  pub small : p.claim.size ≤ 2 ^ 24
