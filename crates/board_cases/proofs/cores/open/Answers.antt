use Rattle.std.proofs.Common.{◌∙◌, ap, arith}
use Rattle.shared_pool.specs.Opening.{IsOpened}
use Rattle.board_cases.specs.declared.cores.TheConstants.{LAYOUT}
use Rattle.seat_work.proofs.FirstSeats.{opened_works}
use Rattle.seat_work.proofs.Trials.{first_two, opened_room}
use Rattle.board_cases.proofs.Texts.{opened_emptied}
use Rattle.board_cases.proofs.cores.open.Goals as goal

pub returns-clause-works : goal.returns-clause-works
returns-clause-works c =
    let pool = c.in-Ok.pool in let s = c.in-Ok.ensures.seats in let a = c.remove-first in let b = c.remove-second in
    let both = first_two (IsOpened LAYOUT pool) c.in-Ok.seats.items a.new.self.items a.result
    b.result (omega (arith, s.many)) a.ensures.value a.ensures.items b.ensures.value s.each in (
      opened_works pool LAYOUT 0 10000 8 a.result both.0 (omega arith) (omega arith),
      opened_works pool LAYOUT 1 10000 8 b.result both.1 (omega arith) (omega arith),
    )

pub returns-clause-emptied : goal.returns-clause-emptied
returns-clause-emptied c =
    let pool = c.in-Ok.pool in let s = c.in-Ok.ensures.seats in let a = c.remove-first in let b = c.remove-second in
    let both = first_two (IsOpened LAYOUT pool) c.in-Ok.seats.items a.new.self.items a.result
    b.result (omega (arith, s.many)) a.ensures.value a.ensures.items b.ensures.value s.each in
    (opened_emptied pool LAYOUT 0 a.result both.0, opened_emptied pool LAYOUT 1 b.result both.1)

pub returns-clause-room : goal.returns-clause-room
returns-clause-room c =
    let pool = c.in-Ok.pool in let s = c.in-Ok.ensures.seats in let a = c.remove-first in let b = c.remove-second in
    let both = first_two (IsOpened LAYOUT pool) c.in-Ok.seats.items a.new.self.items a.result
    b.result (omega (arith, s.many)) a.ensures.value a.ensures.items b.ensures.value s.each in
    opened_room pool LAYOUT a.result (ap (λ l. l.shape.lanes) (pool.same_layout ∙ c.in-Ok.ensures.layout)) s.rooms
    both.0
