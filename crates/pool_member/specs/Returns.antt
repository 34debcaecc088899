-- Which regions a seat gave back to arenas, and what is to go back.
use Rattle.std.specs.Prelude.{ℕ, ◌+◌, if◌then◌else◌, Bool, true, false, sum_by}
use Rattle.pool_law.specs.declared.note.Did.{Did}
use Rattle.pool_law.specs.declared.note.Did.TheVariants.{Give}
use Rattle.pool_table.specs.declared.views.Entry.{Entry}
use Rattle.pool_table.specs.declared.views.Entry.TheVariants.{At, Ref, Busy}
use Rattle.shared_pool.specs.declared.seat.PoolSeat.{PoolSeat}
use Rattle.shared_pool.specs.SeatViews.{view_of}
use Rattle.pool_member.specs.declared.pending.Pending.{Pending}
use Rattle.pool_member.specs.declared.pending.Pending.TheVariants.{Tried, Piece}

-- a region went back to its arena
abbrev pub is_give : Did → Bool
is_give (Give region) = true
is_give _ = false

-- 1 for an entry of that, and for a mark that another seat was in a section
abbrev pub gives : Entry → ℕ
gives (At object number noted) = if is_give noted.did then 1 else 0
gives (Ref root did) = 0
gives (Busy held) = 1

-- how many regions the seat gave back, and how many marks it left
abbrev pub given : PoolSeat → ℕ
given s = sum_by gives (view_of s).own.notes

-- the same, and a region that is to go back still
abbrev pub given_with : PoolSeat → Pending → ℕ
given_with s (Piece region) = given s + 1
given_with s (Tried b) = given s
