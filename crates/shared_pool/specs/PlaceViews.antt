-- How a root place is seen.
use Rattle.std.specs.Prelude.{option_map}
use Rattle.shared_pool.specs.RootPlaces.{RootState, PlaceState}
use Rattle.shared_pool.specs.declared.root_place.Held.{Held}
use Rattle.shared_pool.specs.declared.root_place.Root.{Root}
use Rattle.shared_pool.specs.declared.root_place.RootPlace.TheInside.{Inside}

-- a root with what it has
abbrev pub root_seen : Root → Held → RootState
root_seen r held =
    record {
      root = r.root;
      region = r.region;
      piece = held.piece;
      handle = held.handle;
      capacity = r.capacity;
    }

abbrev pub state_in : Inside → PlaceState
state_in i =
    record { generation = i.generation; present = option_map (root_seen i.last) i.present }
