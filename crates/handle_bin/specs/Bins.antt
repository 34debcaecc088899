-- What a contract sees of a handle and of a bin.
use Rattle.std.specs.Prelude.{◌≡◌, ℕ, ◌+◌, ◌*◌, ◌/◌, Bool, ◌==◌, ◌&&◌, false, List, map, Some, None, IsTrue}
use Rattle.size_classes.specs.Sizes.{below}
use Rattle.pool_law.specs.declared.note.Did.{Did}
use Rattle.pool_law.specs.Caches.{bin_step, has_place}
use Rattle.leak_records.specs.Records.{Tracked, new_tracker}

-- the right to a root place of a lane, with its tracker
pub record HandleValue : Type 0 where
  pub lane : ℕ
  pub place : ℕ
  pub tracker : Tracked

-- a handle whose tracker watches nothing yet
abbrev pub new_handle : ℕ → ℕ → HandleValue
new_handle lane place = record { lane = lane; place = place; tracker = new_tracker None }

-- a lane, how many handles it has, and those that are in its bin, the front first
pub record BinValue : Type 0 where
  pub lane : ℕ
  pub handles : ℕ
  pub ready : List HandleValue

abbrev pub places_in : List HandleValue → List ℕ
places_in hs = map (λ h. h.place) hs

-- the first n handles of a lane, by place
abbrev pub handles_below : ℕ → ℕ → ℕ → List HandleValue
handles_below lane handles n = map (λ k. new_handle lane (lane * handles + k)) (below n)

-- the bin of a lane with all of its handles
abbrev pub full_bin : ℕ → ℕ → BinValue
full_bin lane handles =
    record { lane = lane; handles = handles; ready = handles_below lane handles handles }

-- whether a handle is of this lane
abbrev pub is_of : ℕ → ℕ → HandleValue → Bool
is_of lane handles h = (h.lane == lane) && (h.place / handles == lane)

-- the handle is of the bin, and its place isn't in it
pub record IsHomeless (b : BinValue) (h : HandleValue) : Type 0 where
  pub own : IsTrue (is_of b.lane b.handles h)
  pub away : has_place h.place (places_in b.ready) ≡ false

-- the note may stand, and makes the new bin of the old one
pub record Makes (old : BinValue) (did : Did) (new : BinValue) : Type 0 where
  pub step : bin_step old.lane old.handles (places_in old.ready) did ≡ Some (places_in new.ready)
  pub lane : new.lane ≡ old.lane
  pub handles : new.handles ≡ old.handles
