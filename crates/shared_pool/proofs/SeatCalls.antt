-- A seat stays one of the pool's over a call that ends a section of its table's seat.
use Rattle.std.proofs.Common.{◌≡◌, ℕ, ◌-◌, ◌∙◌, sym, ap, subst, refl}
use Rattle.std.specs.Prelude.{true}
use Rattle.pool_law.specs.declared.id.RootId.{RootId}
use Rattle.pool_law.specs.declared.note.Noted.{Noted}
use Rattle.pool_law.specs.declared.note.Object.{Object}
use Rattle.pool_law.specs.declared.note.Object.TheVariants.{Root}
use Rattle.pool_law.specs.declared.note.RefDid.{RefDid}
use Rattle.pool_law.specs.Logs.{has_history}
use Rattle.pool_law.specs.Naming.{noted_by}
use Rattle.pool_table.specs.declared.table.PoolSeat.{PoolSeat as TableSeat}
use Rattle.pool_table.specs.declared.views.Entry.TheVariants.{At}
use Rattle.pool_table.specs.Counts.{CountsOne}
use Rattle.pool_table.specs.Seats.{view_of, HasView, SameSeat}
use Rattle.shared_pool.specs.declared.home.Home.{Home}
use Rattle.shared_pool.specs.declared.pool.SharedPool.{SharedPool}
use Rattle.shared_pool.specs.declared.seat.PoolSeat.{PoolSeat}
use Rattle.shared_pool.specs.RootNotes.{IsNotedWith}
use Rattle.shared_pool.specs.Seats.{IsPoolSeat, IsNoted}
use Rattle.shared_pool.proofs.SeatEnds.{goes_nowhere, quiet_at, seat_goes, seat_noted, seat_noted_stepped}

-- with a note at an object that has a history
pub seat_did : (pool : SharedPool) (old : PoolSeat) (mid last : TableSeat Home _) (o : Object) (number : ℕ) (n : Noted)
    → has_history o ≡ true → IsPoolSeat pool old → SameSeat old.seat mid → SameSeat mid last
    → CountsOne (view_of last) → IsNoted pool old (record old { seat = last }) o number n
    → IsPoolSeat pool (record old { seat = last })
seat_did pool old mid last o number n there s first second counts noted =
    let v = view_of old.seat in let m : Noted = noted_by v.own.number n in
    seat_noted pool old (record old { seat = last }) (At o number m) (v.turns - 1) s
    (second.0 ∙ first.0, second.1 ∙ first.1) refl refl noted.seat (quiet_at o number m there) counts

-- with a note at a root's place, and a step on the root's word after it
pub seat_did_with : (pool : SharedPool) (old : PoolSeat) (mid last end : TableSeat Home _) (root : RootId) (number : ℕ)
    (n : Noted) (step : RefDid) (moves : ℕ) → IsPoolSeat pool old → SameSeat old.seat mid → SameSeat mid last
    → SameSeat last end → CountsOne (view_of end)
    → IsNotedWith pool old (record old { seat = end }) root number n step moves
    → IsPoolSeat pool (record old { seat = end })
seat_did_with pool old mid last end root number n step moves s first second third counts noted =
    let v = view_of old.seat in let m : Noted = noted_by v.own.number n in
    seat_noted_stepped pool old (record old { seat = end }) (At (Root root.place) number m) (v.turns - 1) root step
    moves s
    (third.0 ∙ (second.0 ∙ first.0), third.1 ∙ (second.1 ∙ first.1)) refl refl noted.seat
    (quiet_at (Root root.place) number m refl) counts

-- with no note
pub seat_idled : (pool : SharedPool) (old : PoolSeat) (mid last : TableSeat Home _) → IsPoolSeat pool old
    → SameSeat old.seat mid → SameSeat mid last → HasView last (view_of old.seat)
    → IsPoolSeat pool (record old { seat = last })
seat_idled pool old mid last s first second has =
    let v = view_of old.seat in
    seat_goes pool old (record old { seat = last }) v s (second.0 ∙ first.0, second.1 ∙ first.1) refl refl has
    (goes_nowhere v s.outside.0) (subst CountsOne (sym (ap (λ m. m.0) has)) s.counts)
