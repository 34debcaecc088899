use Rattle.std.proofs.Common.{refl}
use Rattle.pool_law.specs.declared.note.RefDid.TheVariants.{Look}
use Rattle.pool_table.specs.Seats.{view_of}
use Rattle.shared_pool.proofs.SeatEnds.{seat_stepped}
use Rattle.shared_pool.proofs.pool.SharedPool.look.Goals as goal

pub returns-clause-seat : goal.returns-clause-seat
returns-clause-seat c =
    seat_stepped c.args.self.now c.args.seat.now (record c.args.seat.now { seat = c.look.new.seat }) c.args.root
    (Look c.look.result) (view_of c.args.seat.now.seat).moves c.requires.seat c.look.ensures.same refl refl
    c.look.ensures.noted c.look.ensures.counts
