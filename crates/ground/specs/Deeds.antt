-- What a deed is of. No public clause cites this module.
use Rattle.std.specs.Prelude.{◌≡◌}
use denote.RawPtr.{block_of, count_of}
use Rattle.ground.specs.Ground.{Origin}
use Rattle.ground.specs.Ownership.{IsPlaced}
use Rattle.ground.specs.declared.piece.Deed.TheInside.{Inside}

abbrev pub origin_of : Inside → Origin
origin_of d = d.site.origin

-- the memory lies where the ground does, and is all of it
pub record IsDeed (d : Inside) : Type 0 where
  pub placed : IsPlaced d.block.ptr
  pub block : block_of d.block.ptr ≡ d.site.origin.block
  pub first : count_of d.block.ptr ≡ d.site.origin.first
  pub size : d.block.len ≡ d.site.origin.size
