use Rattle.std.proofs.Common.{◌-◌, refl}
use Rattle.pool_law.specs.declared.note.RefDid.TheVariants.{Retain}
use Rattle.pool_table.specs.Seats.{view_of}
use Rattle.shared_pool.proofs.SeatEnds.{seat_stepped}
use Rattle.shared_pool.proofs.pool.SharedPool.retain.Goals as goal

pub returns-clause-seat : goal.returns-clause-seat
returns-clause-seat c =
    seat_stepped c.args.self.now c.args.seat.now (record c.args.seat.now { seat = c.retain.new.seat }) c.args.root
    Retain
    ((view_of c.args.seat.now.seat).moves - 1) c.requires.seat c.retain.ensures.same refl refl c.retain.ensures.noted
    c.retain.ensures.counts
