-- How many regions a seat took of arenas.
use Rattle.std.specs.Prelude.{ℕ, if◌then◌else◌, Bool, true, false, sum_by}
use Rattle.pool_law.specs.declared.note.Did.{Did}
use Rattle.pool_law.specs.declared.note.Did.TheVariants.{Take}
use Rattle.pool_table.specs.declared.views.Entry.{Entry}
use Rattle.pool_table.specs.Views.{noted_weight}
use Rattle.shared_pool.specs.declared.seat.PoolSeat.{PoolSeat}
use Rattle.shared_pool.specs.SeatViews.{view_of}

-- an arena gave a region
abbrev pub is_take : Did → Bool
is_take (Take class region) = true
is_take _ = false

-- 1 for an entry of that
abbrev pub takes : Entry → ℕ
takes e = noted_weight (λ n. if is_take n.did then 1 else 0) e

-- how many regions the seat took
abbrev pub taken : PoolSeat → ℕ
taken s = sum_by takes (view_of s).own.notes
