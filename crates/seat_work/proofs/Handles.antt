-- A handle that was got: whose it is, and how the law reads that.
use Rattle.std.proofs.Common.{◌≡◌, ℕ, Option, Some, None}
use Rattle.std.specs.Prelude.{IfSome}
use Rattle.handle_bin.specs.Bins.{HandleValue}
use Rattle.pool_law.specs.declared.note.Did.{Did}
use Rattle.pool_law.specs.declared.note.Object.TheVariants.{Bin}
use Rattle.pool_law.specs.Dids as says
use Rattle.pool_law.specs.Patterns.{allot}
use Rattle.pool_law.specs.Readers.{give, note}
use Rattle.shared_pool.specs.declared.pool.SharedPool.{SharedPool}
use Rattle.shared_pool.specs.declared.seat.PoolSeat.{PoolSeat}
use Rattle.shared_pool.specs.Holding.{HoldsHandle}
use Rattle.shared_pool.specs.Notes.{plain, popped}
use Rattle.shared_pool.specs.SeatLanes.{lane_of}
use Rattle.shared_pool.specs.Seats.{IsNoted}
use Rattle.shared_pool.specs.SeatViews.{view_of}
use Rattle.seat_work.specs.Answers.{with_got}
use Rattle.seat_work.specs.Readings.{NotesAs, NotesOn}
use Rattle.seat_work.proofs.Noting.{notes_one, one_noted}
use Rattle.seat_work.proofs.PartReads.{handle_read, home_read}
use Rattle.seat_work.proofs.ReadLaws.{none_asked}

pub own_handle : (pool : SharedPool) (new : PoolSeat) (o : Option HandleValue) (lane : ℕ)
    → IfSome o (λ h. HoldsHandle pool new h × (h.lane ≡ lane)) → IfSome o (λ h. h.lane ≡ lane)
own_handle pool new None lane is = tt
own_handle pool new (Some h) lane is = is.1

pub handle_noted : (pool : SharedPool) (old new : PoolSeat) (h : Option HandleValue) (number : ℕ)
    → IsNoted pool old new (Bin (lane_of old)) number (plain (popped h)) → (size : ℕ)
    → NotesOn (allot pool.table.layout.shape (lane_of old) size)
    (with_got pool.table.layout.shape (lane_of old) size h) (view_of old) (view_of new)
handle_noted pool old new h number noted size =
    let shape = pool.table.layout.shape in let lane = lane_of old in
    notes_one (allot shape lane size) (with_got shape lane size h) (view_of old) (view_of new) _ none_asked
    (one_noted pool old new (Bin lane) number (plain (popped h)) noted)
    (handle_read number (view_of old).own.number shape lane size h)

pub home_noted : (pool : SharedPool) (old new : PoolSeat) (h : HandleValue) (number : ℕ)
    → IsNoted pool old new (Bin h.lane) number (plain (Did.Home h.place))
    → NotesAs (note (Bin h.lane) (says.home h.place)) tt (view_of old) (view_of new)
home_noted pool old new h number noted =
    notes_one (note (Bin h.lane) (says.home h.place)) (give tt) (view_of old) (view_of new) _ none_asked
    (one_noted pool old new (Bin h.lane) number (plain (Did.Home h.place)) noted)
    (home_read number (view_of old).own.number h.lane h.place)
