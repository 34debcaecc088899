-- What a step of a lane's seat did: the entries that it added to the seat's part.
use Rattle.std.specs.Prelude.{◌≡◌, ℕ, List, map}
use Rattle.pool_law.specs.declared.note.Note.{Note}
use Rattle.pool_law.specs.Readers.{Reader}
use Rattle.shared_pool.specs.declared.seat.PoolSeat.{PoolSeat}
use Rattle.pool_table.specs.declared.views.Entry.{Entry}
use Rattle.shared_pool.specs.SeatViews.{view_of, SameSeat}
use Rattle.leak_records.specs.Records.{Sampling}
use Rattle.shared_pool.specs.declared.pool.SharedPool.{SharedPool}
use Rattle.shared_pool.specs.Closing.{note_of, entry_of}
use Rattle.shared_pool.specs.Seats.{IsPoolSeat}
use Rattle.seat_work.specs.Readings.{ReadsOn}
use Rattle.lane_stages.specs.Sampled.{AreSampled}
use Rattle.seat_work.specs.Growth.{HasMore}

-- the seat wrote these notes: births with the watches of a sampler, which then is the last, and
-- what read the log from there on before now reads behind them as the other, with this of the count
-- of those that asked a cache
pub record Wrote {X : Type 0} (pool : SharedPool) (old new : PoolSeat)
    (notes : List Note) (first last : Sampling)
    (before : Reader X) (asks : ℕ → ℕ) (after : Reader X) :
    Type 0 where
  pub added : List Entry
  pub same : SameSeat old new
  pub seat : IsPoolSeat pool new
  pub more : HasMore (view_of old) (view_of new) added
  pub noted : map note_of added ≡ notes
  pub sampled : AreSampled first added last
  pub read : ReadsOn before (map entry_of added) asks after
