-- What a contract sees of the lists of an arena's chunks.
use Rattle.std.specs.Prelude.{◌≡◌, ℕ}
use Rattle.pool_law.specs.ChunkLists.{Lists, no_chunks}
use Rattle.chunk_list.specs.declared.lists.ChunkLists.TheInside.{Inside}

-- how many chunk places the arena has, and the lists of its chunks
pub record Listing : Type 0 where
  pub places : ℕ
  pub lists : Lists

abbrev pub new_listing : ℕ → Listing
new_listing places = record { places = places; lists = no_chunks }

abbrev pub with_lists : Listing → Lists → Listing
with_lists listing lists = record listing { lists = lists }

abbrev pub listing_in : Inside → Listing
listing_in i =
    record {
      places = i.init.places;
      lists =
          record {
            init = i.init.numbers;
            q000 = i.q000.numbers;
            q025 = i.q025.numbers;
            q050 = i.q050.numbers;
            q075 = i.q075.numbers;
            q100 = i.q100.numbers;
          };
    }

-- each list has room for all chunks
pub record IsListing (i : Inside) : Type 0 where
  pub q000 : i.q000.places ≡ i.init.places
  pub q025 : i.q025.places ≡ i.init.places
  pub q050 : i.q050.places ≡ i.init.places
  pub q075 : i.q075.places ≡ i.init.places
  pub q100 : i.q100.places ≡ i.init.places
