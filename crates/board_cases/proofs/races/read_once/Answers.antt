use Rattle.std.proofs.Common.{sym, ap, ◌∙◌, subst, arith}
use Rattle.board_table.specs.declared.views.BoardView.{BoardView}
use Rattle.board_table.specs.Seats.{Counts}
use Rattle.board_table.specs.Views.{done}
use Rattle.shared_composite.specs.Boards.{HasView, view_of}
use Rattle.board_cases.proofs.BoardSeats.{knows, section_stays}
use Rattle.board_cases.proofs.races.read_once.Goals as goal

pub read-requires-clause-counts : goal.read-requires-clause-counts
read-requires-clause-counts g c = subst (Counts 0) (sym c.loop.invariant.1) c.requires.can.counts

pub read-requires-clause-turn : goal.read-requires-clause-turn
read-requires-clause-turn g c =
    let a = ap (λ (v : BoardView). v.turns) c.loop.invariant.1 in let b = c.requires.can.turns_left in
    omega (arith, a, b)

pub returns-in-Ok : goal.returns-in-Ok
returns-in-Ok g c =
    let new = c.read.new.seat in
    let both = section_stays c.args.board.now c.args.seat.now new c.requires.can c.in-Ok.ensures.own
    (subst (λ (v : BoardView). HasView new (done 0 v)) c.loop.invariant.1 c.in-Ok.ensures.read.section.view) in
    record { stays = both.0; used = both.1 }

pub loop-preserved : goal.loop-preserved
loop-preserved g c =
    let busy = rw c.in-Err-Board.field-0-is at c.in-Err-Board.ensures.busy in let new = c.read.new.seat in
    (c.in-Err-Board.ensures.own, knows new (view_of c.loop.seat) busy.unchanged ∙ c.loop.invariant.1)
