use Rattle.std.proofs.Common.{sym, subst}
use Rattle.handle_bin.specs.Bins.{HandleValue}
use Rattle.pool_law.specs.declared.note.Did.{Did}
use Rattle.pool_law.specs.declared.note.Object.TheVariants.{Bin}
use Rattle.shared_pool.specs.Holding.{HoldsHandle}
use Rattle.shared_pool.specs.Notes.{plain}
use Rattle.shared_pool.specs.Seats.{IsNoted}
use Rattle.seat_work.proofs.Accesses.{noted_same}
use Rattle.nest_run.proofs.HeldLaws.{handle_same}
use Rattle.nest_run.proofs.steps.put_handle.Goals as goal

pub put_handle-requires-clause-handle : goal.put_handle-requires-clause-handle
put_handle-requires-clause-handle g c =
    let pool = c.args.pool.now in let mid = c.loop.seat in let inv = c.loop.invariant in
    subst (λ (h : HandleValue). HoldsHandle pool mid h) (sym inv.2)
    (handle_same pool c.args.seat.now mid inv.1 c.args.own c.requires.handle)

pub returns-in-Did : goal.returns-in-Did
returns-in-Did g c =
    let pool = c.args.pool.now in let mid = c.loop.seat in let inv = c.loop.invariant in let did = c.in-Did in
    let new = c.put_handle.new.seat in let own = c.args.own in
    let noted = subst (λ (h : HandleValue). IsNoted pool mid new (Bin h.lane) did._number (plain (Did.Home h.place)))
    inv.2 did.ensures.did in
    record {
      seat = did.ensures.seat;
      did = (
        did._number,
        noted_same pool c.args.seat.now mid new did._number (λ v. Bin own.lane) (plain (Did.Home own.place))
            inv.1 noted,
      );
    }
