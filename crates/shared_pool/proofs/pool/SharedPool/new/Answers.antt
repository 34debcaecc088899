use Rattle.std.proofs.Common.{sym, subst}
use Rattle.pool_table.specs.Opened.{AreFirstSeats}
use Rattle.shared_pool.proofs.OpeningSeats.{opened}
use Rattle.shared_pool.proofs.pool.SharedPool.new.Goals as goal

pub returns-in-Ok-clause-seats : goal.returns-in-Ok-clause-seats
returns-in-Ok-clause-seats c =
    let first = c.in-Ok.ensures.seats in
    opened c.args.layout c.args.mail.now _ first.setting c.in-Ok.ensures.layout first.grounds
    c.in_ok-mails.ensures.rooms
    c.deal-seats.result.items
    (subst (λ xs. AreFirstSeats c.args.layout first.setting c.in-Ok.table xs) (sym c.deal-seats.ensures.seats)
    first.seats_are)
    c.deal-seats.ensures.ends
