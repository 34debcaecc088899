use Rattle.std.proofs.Common.{◌∙◌, ap, arith, refl}
use Rattle.pool_table.specs.Seats as table
use Rattle.shared_pool.proofs.Knowledge.{known_fetched}
use Rattle.shared_pool.proofs.MailSeats.{drained, empty_seat, fetch_within, fetched_seat, is_next, may_pop, may_receive, noted_fetch}
use Rattle.shared_pool.proofs.pool.SharedPool.fetch.Goals as goal

pub index_mut-requires : goal.index_mut-requires
index_mut-requires g c =
    let pool = c.args.self.now in let old = c.args.seat.now in let m = c.mail.result.now in
    let lt = fetch_within pool old c.requires.seat c.args.from c.requires.from_is m _ c.lane_of-lane.ensures.lane
    c.mail.ensures in
    let many = old.fetches.ok.0 in omega (arith, lt, many)

pub pop-requires : goal.pop-requires
pop-requires g c =
    let pool = c.args.self.now in let m = c.mail.result.now in
    record {
      pass =
          may_pop pool c.args.seat.now c.requires.seat c.args.from c.requires.from_is m _ c.lane_of-lane.ensures.lane
          c.mail.ensures c.index_mut.result.now
          c.index_mut.ensures.value;
    }

pub returns-in_default-clause-seat : goal.returns-in_default-clause-seat
returns-in_default-clause-seat g c =
    let pool = c.args.self.now in let m = c.mail.result.now in
    empty_seat pool c.args.seat.now c.requires.seat c.args.from c.requires.from_is m _ c.lane_of-lane.ensures.lane
    c.mail.ensures c.index_mut.result.now
    c.index_mut.ensures.value _ c.pop.new.pass c.in_default.ensures.pass c.in_default.ensures.none.0 refl refl refl

pub returns-in_default-clause-drained : goal.returns-in_default-clause-drained
returns-in_default-clause-drained g c =
    let pool = c.args.self.now in let m = c.mail.result.now in
    drained pool c.args.seat.now c.requires.seat c.args.from c.requires.from_is m _ c.lane_of-lane.ensures.lane
    c.mail.ensures c.index_mut.result.now
    c.index_mut.ensures.value c.in_default.ensures.none.1

pub receive-letter-requires-clause-other_own : goal.receive-letter-requires-clause-other_own
receive-letter-requires-clause-other_own g c =
    let pool = c.args.self.now in let m = c.mail.result.now in
    c.into_seat.ensures.table
    ∙ (is_next pool c.args.seat.now c.requires.seat c.args.from c.requires.from_is m _ c.lane_of-lane.ensures.lane
    c.mail.ensures c.index_mut.result.now
    c.index_mut.ensures.value c.in-Some.posted c.pop.new.pass c.in-Some.ensures.received).table_is

pub receive-letter-requires-clause-may : goal.receive-letter-requires-clause-may
receive-letter-requires-clause-may g c =
    let pool = c.args.self.now in let m = c.mail.result.now in
    may_receive pool c.args.seat.now c.requires.seat c.args.from c.requires.from_is m _ c.lane_of-lane.ensures.lane
    c.mail.ensures c.index_mut.result.now
    c.index_mut.ensures.value c.in-Some.posted c.pop.new.pass c.in-Some.ensures.received
    (table.view_of c.into_seat.result) (ap (λ s. s.0) c.into_seat.ensures.alone)

pub returns-clause-got : goal.returns-clause-got
returns-clause-got g c =
    let pool = c.args.self.now in let m = c.mail.result.now in
    noted_fetch pool c.args.seat.now c.requires.seat c.args.from c.requires.from_is m _ c.lane_of-lane.ensures.lane
    c.mail.ensures c.index_mut.result.now
    c.index_mut.ensures.value c.in-Some.posted c.pop.new.pass c.in-Some.ensures.received _
    (table.view_of c.into_seat.result) c.receive-letter.result (ap (λ s. s.0) c.into_seat.ensures.alone)
    c.receive-letter.ensures.came c.receive-letter.ensures.noted

pub returns-clause-seat : goal.returns-clause-seat
returns-clause-seat g c =
    let pool = c.args.self.now in let m = c.mail.result.now in
    fetched_seat pool c.args.seat.now c.requires.seat c.args.from c.requires.from_is m _ c.lane_of-lane.ensures.lane
    c.mail.ensures c.index_mut.result.now
    c.index_mut.ensures.value c.in-Some.posted c.pop.new.pass c.in-Some.ensures.received _
    c.receive-letter.result.number
    c.receive-letter.result.parcel c.receive-letter.ensures.same c.in-Some.ensures.pass
    (noted_fetch pool c.args.seat.now c.requires.seat c.args.from c.requires.from_is m _ c.lane_of-lane.ensures.lane
    c.mail.ensures c.index_mut.result.now
    c.index_mut.ensures.value c.in-Some.posted c.pop.new.pass c.in-Some.ensures.received _
    (table.view_of c.into_seat.result) c.receive-letter.result (ap (λ s. s.0) c.into_seat.ensures.alone)
    c.receive-letter.ensures.came c.receive-letter.ensures.noted)
    c.receive-letter.ensures.counts refl refl

pub returns-clause-known : goal.returns-clause-known
returns-clause-known g c = known_fetched _ _ _ _ _ (returns-clause-got g c)
