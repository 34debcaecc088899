use Rattle.std.proofs.Common.{◌≡◌, ◌+◌, ap, refl, subst}
use Rattle.pool_table.specs.declared.views.Letter.{Letter}
use Rattle.pool_table.specs.Letters.{received_on}
use Rattle.pool_table.specs.Seats as table
use Rattle.shared_pool.specs.MailAnswers.{HasOwnChannel}
use Rattle.shared_pool.specs.SeatLanes.{lane_of}
use Rattle.shared_pool.specs.SeatViews.{view_of}
use Rattle.shared_pool.proofs.Knowledge.{known_fetched}
use Rattle.shared_pool.proofs.MailSeats.{is_fetched, numbered, only_letter, received_own}
use Rattle.shared_pool.proofs.pool.SharedPool.receive.Goals as goal

pub returns-clause-seat : goal.returns-clause-seat
returns-clause-seat c =
    let pool = c.args.self.now in let old = c.args.seat.now in let x = c.receive-letter.result in
    let new = record old { seat = c.receive-letter.new.seat } in let lane = lane_of old in
    let same : c.args.posted.letter ≡ x =
    only_letter (table.view_of c.into_seat.result) c.args.posted.letter x (ap (λ m. m.0) c.into_seat.ensures.alone)
    c.receive-letter.ensures.came in
    received_own pool old new x.from x.number x.parcel c.requires.seat c.receive-letter.ensures.same (refl, refl)
    (is_fetched old new x (subst (λ (y : Letter). y.to ≡ lane) same c.requires.to) (numbered pool old c.requires.seat)
    (subst (λ (y : Letter). y.number ≡ received_on y.from lane (view_of old).own.notes + 1) same c.requires.next)
    c.receive-letter.ensures.noted)
    c.receive-letter.ensures.counts (subst (λ (y : Letter). HasOwnChannel pool y.from lane) same c.requires.own)

pub returns-clause-known : goal.returns-clause-known
returns-clause-known c =
    let pool = c.args.self.now in let old = c.args.seat.now in let x = c.receive-letter.result in
    let new = record old { seat = c.receive-letter.new.seat } in let lane = lane_of old in
    let same : c.args.posted.letter ≡ x =
    only_letter (table.view_of c.into_seat.result) c.args.posted.letter x (ap (λ m. m.0) c.into_seat.ensures.alone)
    c.receive-letter.ensures.came in
    known_fetched old new x.from x.number x.parcel
    (is_fetched old new x (subst (λ (y : Letter). y.to ≡ lane) same c.requires.to) (numbered pool old c.requires.seat)
    (subst (λ (y : Letter). y.number ≡ received_on y.from lane (view_of old).own.notes + 1) same c.requires.next)
    c.receive-letter.ensures.noted)
