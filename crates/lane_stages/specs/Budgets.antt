-- How much of its budgets a lane has still to spend: notes, allocations that ask a cache, regions
-- taken from its arena, births and retains, and parcels sent to each lane.
use Rattle.std.specs.Prelude.{ℕ, zero, suc, ◌+◌, ◌-◌, ◌*◌, ◌≤◌, if◌then◌else◌, Bool, true, false, length}
use Rattle.pool_law.specs.declared.note.Did.{Did}
use Rattle.pool_law.specs.declared.note.Did.TheVariants.{Take}
use Rattle.pool_law.specs.Limits.{cached_classes}
use Rattle.pool_table.specs.declared.views.Entry.{Entry}
use Rattle.pool_table.specs.declared.views.SeatView.{SeatView}
use Rattle.pool_table.specs.Views.{noted_weight}
use Rattle.pool_table.specs.Learned.{in_own, takes_of, gives_of}
use Rattle.pool_table.specs.Letters.{sent_on}
use Rattle.seat_work.specs.Hands.{lane_in}

-- no lane notes more
abbrev pub most_of_lane : ℕ
most_of_lane = 16777216

pub record Left : Type 0 where
  pub notes : ℕ
  pub asks : ℕ
  pub takes : ℕ
  pub moves : ℕ
  pub sends : ℕ → ℕ

-- nothing is left but so many notes
abbrev pub notes_alone : ℕ → Left
notes_alone notes =
    record { notes = notes; asks = 0; takes = 0; moves = 0; sends = λ to. 0 }

-- an entry takes a region from an arena
abbrev pub is_take : Did → Bool
is_take (Take class region) = true
is_take _ = false

abbrev pub takes : Entry → ℕ
takes e = noted_weight (λ n. if is_take n.did then 1 else 0) e

-- how many regions of the class the view's seat took, and didn't give back: no more can be shed
abbrev pub out_of : ℕ → SeatView → ℕ
out_of class v = in_own (takes_of class) v - in_own (gives_of (lane_in v) class) v

-- of all classes below one
abbrev pub out_below : ℕ → SeatView → ℕ
out_below zero v = 0
out_below (suc class) v = out_of class v + out_below class v

-- of all that have a cache
unfoldable pub all_out : SeatView → ℕ
all_out v = out_below cached_classes v

-- what is left, and two notes for each region that may be shed
abbrev pub with_sheds : SeatView → Left → Left
with_sheds v left = record left { notes = left.notes + 2 * (all_out v + left.takes) }

-- the view spent no more than what is left less
pub record Spends (old new : SeatView) (before after : Left) : Type 0 where
  pub notes : after.notes + length new.own.notes ≤ before.notes + length old.own.notes
  pub takes : after.takes + all_out new ≤ before.takes + all_out old
  pub moves : after.moves + old.moves ≤ before.moves + new.moves
  pub sends : (to : ℕ) →
      after.sends to + sent_on (lane_in new) to new.own.notes
      ≤ before.sends to + sent_on (lane_in old) to old.own.notes
