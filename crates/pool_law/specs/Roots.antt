-- A root place: which root is there, and its bytes.
use Rattle.std.specs.Prelude.{ℕ, ◌+◌, ◌-◌, Bool, ◌==◌, ◌&&◌, ◌||◌, nat_lt, nat_le, List, ◌++◌, length, take, drop, replicate, Option, Some, None}
use Rattle.pool_law.specs.declared.id.RootId.{RootId}
use Rattle.pool_law.specs.declared.id.RegionId.{RegionId}
use Rattle.pool_law.specs.declared.note.Did.{Did}
use Rattle.pool_law.specs.declared.note.Did.TheVariants.{Birth, Set, Get, Touch, Room, Extend, Grow, End}
use Rattle.pool_law.specs.Same.{same_root, same_bytes}
use Rattle.pool_law.specs.Caches.{if_so}

-- a root that is present, with its region and its bytes, which are as many as its capacity
pub record Present : Type 0 where
  pub root : RootId
  pub region : RegionId
  pub bytes : List ℕ

-- a root place (PooledByteBuf)
pub record RootPlace : Type 0 where
  pub generation : ℕ  -- of the last birth
  pub present : Option Present

-- a root place at first
abbrev pub new_place : RootPlace
new_place = record { generation = 0; present = None }

-- bytes are laid over others from an offset on
abbrev pub laid_over : List ℕ → ℕ → List ℕ → List ℕ
laid_over old offset bytes = take offset old ++ (bytes ++ drop (offset + length bytes) old)

-- the bytes that are there
abbrev pub bytes_at : List ℕ → ℕ → ℕ → List ℕ
bytes_at bytes offset len = take len (drop offset bytes)

-- the place once a root is born there
abbrev pub born : RootId → RegionId → RootPlace
born root region =
    record {
      generation = root.generation;
      present = Some (record { root = root; region = region; bytes = replicate root.capacity 0 });
    }

-- the root may be born at this vacant place
abbrev pub may_be_born : ℕ → RootPlace → RootId → RegionId → Bool
may_be_born place s root region =
    (root.place == place)
    && ((root.generation == s.generation + 1) && nat_le root.capacity region.place.len)

-- a place where nothing is present, and one where something is
abbrev pub vacant_step : ℕ → RootPlace → Did → Option RootPlace
vacant_step place s (Birth root region) = if_so (may_be_born place s root region) (born root region)
vacant_step place s _ = None

-- the place with other bytes
abbrev pub with_bytes : RootPlace → Present → List ℕ → RootPlace
with_bytes s p bytes = record s { present = Some (record p { bytes = bytes }) }

-- bytes, and zeros behind them up to a size
abbrev pub zeros_to : ℕ → List ℕ → List ℕ
zeros_to size bytes = bytes ++ replicate (size - length bytes) 0

-- what a note makes of a place where a root is present
abbrev pub present_step : RootPlace → Present → Did → Option RootPlace
present_step s p (Set offset bytes) =
    if_so (nat_le (offset + length bytes) (length p.bytes))
    (with_bytes s p (laid_over p.bytes offset bytes))
present_step s p (Get offset bytes) =
    if_so
    (nat_le (offset + length bytes) (length p.bytes)
    && same_bytes bytes (bytes_at p.bytes offset (length bytes)))
    s
present_step s p Touch = Some s
present_step s p (Room asked capacity) =
    if_so
    ((capacity == length p.bytes) && (nat_le asked capacity || nat_lt p.region.place.len asked))
    s
present_step s p (Extend size) =
    if_so (nat_lt (length p.bytes) size && nat_le size p.region.place.len)
    (with_bytes s p (zeros_to size p.bytes))
present_step s p (Grow capacity region) =
    if_so (nat_lt p.region.place.len capacity && nat_le capacity region.place.len)
    (with_bytes s (record p { region = region }) (zeros_to capacity p.bytes))
present_step s p (End root) = if_so (same_root root p.root) (record s { present = None })
present_step s p _ = None

-- what a note makes of a place, by what is present
abbrev pub place_step_by : ℕ → RootPlace → Option Present → Did → Option RootPlace
place_step_by place s None did = vacant_step place s did
place_step_by place s (Some p) did = present_step s p did

-- what a note makes of a root place; none where it may not stand
abbrev pub place_step : ℕ → RootPlace → Did → Option RootPlace
place_step place s did = place_step_by place s s.present did
