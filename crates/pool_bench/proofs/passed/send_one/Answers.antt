use Rattle.std.proofs.Common.{sym, subst, arith}
use Rattle.pool_law.specs.declared.id.ViewData.{ViewData}
use Rattle.pool_table.specs.Counts.{HasCount}
use Rattle.shared_pool.specs.Knowing.{ReachesKnown}
use Rattle.shared_pool.specs.SeatViews.{view_of}
use Rattle.seat_work.proofs.Knowing.{knows_born}
use Rattle.seat_work.proofs.Proceeding.{goes_on, sends_on}
use Rattle.pool_bench.proofs.MailLaws.{mail_left}
use Rattle.seat_work.specs.Hands.{empty_hand}
use Rattle.pool_bench.proofs.passed.send_one.Goals as goal

pub post_next-requires-clause-counts : goal.post_next-requires-clause-counts
post_next-requires-clause-counts g c =
    subst (λ (v : ViewData). HasCount v.root (view_of c.make_one.new.seat)) (sym c.whole_of.ensures)
    c.in-Some.ensures.counts

pub post_next-requires-clause-known : goal.post_next-requires-clause-known
post_next-requires-clause-known g c =
    let seat = c.make_one.new.seat in let root = c.in-Some.root in
    subst (λ (v : ViewData). ReachesKnown (view_of seat) v) (sym c.whole_of.ensures)
    (let a = knows_born (view_of seat) root in omega (arith, a))

pub post_next-requires-clause-mail : goal.post_next-requires-clause-mail
post_next-requires-clause-mail g c =
    mail_left c.args.pool.now 1 0 1 c.args.seat.now c.make_one.new.seat c.requires.mail c.make_one.ensures.sends
    (omega arith)

pub post_next-requires-in-None-clause-mail : goal.post_next-requires-in-None-clause-mail
post_next-requires-in-None-clause-mail g c =
    mail_left c.args.pool.now 1 0 1 c.args.seat.now c.make_one.new.seat c.requires.mail c.make_one.ensures.sends
    (omega arith)

pub returns-then-eq-clause-sends : goal.returns-then-eq-clause-sends
returns-then-eq-clause-sends g c =
    sends_on 0 1 (view_of c.args.seat.now) (view_of c.make_one.new.seat) (view_of c.post_next.new.seat)
    c.make_one.ensures.sends c.post_next.ensures.sends

pub returns-else-eq-clause-sends : goal.returns-else-eq-clause-sends
returns-else-eq-clause-sends g c =
    sends_on 0 1 (view_of c.args.seat.now) (view_of c.make_one.new.seat) (view_of c.post_next.new.seat)
    c.make_one.ensures.sends c.post_next.ensures.sends

pub returns-in-None-clause-sends : goal.returns-in-None-clause-sends
returns-in-None-clause-sends g c =
    sends_on 0 1 (view_of c.args.seat.now) (view_of c.make_one.new.seat) (view_of c.post_next-in-None.new.seat)
    c.make_one.ensures.sends c.post_next-in-None.ensures.sends

pub returns-then-eq-clause-goes : goal.returns-then-eq-clause-goes
returns-then-eq-clause-goes g c =
    goes_on c.args.pool.now empty_hand empty_hand 8 0 0 0 8 0 c.args.seat.now c.make_one.new.seat
    c.post_next.new.seat c.make_one.ensures.goes c.post_next.ensures.goes (omega arith) (omega arith)

pub returns-else-eq-clause-goes : goal.returns-else-eq-clause-goes
returns-else-eq-clause-goes g c =
    goes_on c.args.pool.now empty_hand empty_hand 8 0 0 0 8 0 c.args.seat.now c.make_one.new.seat
    c.post_next.new.seat c.make_one.ensures.goes c.post_next.ensures.goes (omega arith) (omega arith)

pub returns-in-None-clause-goes : goal.returns-in-None-clause-goes
returns-in-None-clause-goes g c =
    goes_on c.args.pool.now empty_hand empty_hand 8 0 0 0 8 0 c.args.seat.now c.make_one.new.seat
    c.post_next-in-None.new.seat c.make_one.ensures.goes c.post_next-in-None.ensures.goes (omega arith) (omega arith)
