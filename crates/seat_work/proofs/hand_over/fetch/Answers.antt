use Rattle.seat_work.specs.Hands.{empty_hand}
use Rattle.seat_work.proofs.HandedOver.{fetch_proceeds}
use Rattle.seat_work.proofs.Proceeding.{proceeds_none}
use Rattle.seat_work.proofs.hand_over.fetch.Goals as goal

pub returns-in-Got-clause-proceeds : goal.returns-in-Got-clause-proceeds
returns-in-Got-clause-proceeds g c =
    let got = c.in-Got in
    fetch_proceeds c.args.pool.now c.args.seat.now c.fetch.new.seat got.ensures.seat got._number c.requires.works
    c.args.from got.parcel got.ensures.got

pub returns-in-Got-clause-noted : goal.returns-in-Got-clause-noted
returns-in-Got-clause-noted g c = (c.in-Got._number, c.in-Got.ensures.got)

pub returns-in-Empty-clause-proceeds : goal.returns-in-Empty-clause-proceeds
returns-in-Empty-clause-proceeds g c =
    let found = c.in-Empty.ensures in
    proceeds_none c.args.pool.now empty_hand 0 0 0 0 c.args.seat.now c.fetch.new.seat c.requires.works found.seat
    found.empty
