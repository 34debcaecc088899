-- The returns of takings, as the program keeps them. No public clause cites this module.
use Rattle.std.specs.Prelude.{ℕ, ◌&&◌, nat_eq, Bool, Option}
use Rattle.std.specs.HashMap.{get}
use Rattle.pool_law.specs.declared.id.RegionId.{RegionId}
use Rattle.run_picture.specs.declared.blocks.Return.{Return}
use Rattle.run_picture.specs.declared.blocks.Block.{Block}
use Rattle.run_picture.specs.declared.returns.Returns.{Returns}

-- the names of a taking: what two regions must have in common to be one taking
abbrev pub Key : Type 0
Key = (ℕ × (ℕ × (ℕ × ℕ))) × (ℕ × (ℕ × ℕ))

abbrev pub key_of : RegionId → Key
key_of r =
    ((r.place.arena, (r.place.chunk, (r.place.offset, r.place.len))), (r.class, (r.taking, r.owner)))

-- two of them
abbrev pub same_key : Key → Key → Bool
same_key a b =
    (nat_eq a.0.0 b.0.0
    && (nat_eq a.0.1.0 b.0.1.0 && (nat_eq a.0.1.1.0 b.0.1.1.0 && nat_eq a.0.1.1.1 b.0.1.1.1)))
    && (nat_eq a.1.0 b.1.0 && (nat_eq a.1.1.0 b.1.1.0 && nat_eq a.1.1.1 b.1.1.1))

-- the return of a taking
abbrev pub return_in : Returns → RegionId → Option Return
return_in returns r = get same_key returns.map (key_of r)

-- the block of a taking, by the note of this number and lane, before which these stand
abbrev pub block_before : Returns → ℕ → ℕ → RegionId → Block
block_before returns number lane region =
    record { region = region; number = number; lane = lane; back = return_in returns region }
