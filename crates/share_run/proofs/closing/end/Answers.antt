use Rattle.std.proofs.Common.{ℕ, ap, arith, subst}
use Rattle.board_table.specs.declared.views.BoardView.{BoardView}
use Rattle.shared_composite.specs.Boards.{IsAtHome, view_of}
use Rattle.share_run.proofs.CloseLaws.{chief_ends, ended_mark, ends_spent}
use Rattle.share_run.proofs.closing.end.Goals as goal

pub take_core-requires-clause-mark : goal.take_core-requires-clause-mark
take_core-requires-clause-mark g c =
    let a = c.in-Ended.ensures.released.answer in
    ended_mark c.args.k c.in-Ended.mark.composite (view_of c.args.chief.now) (view_of c.release.new.seat)
    (c.requires.chief.counts c.args.k (omega arith) c.requires.k) a.2 a.1

pub take_core-requires-clause-turn : goal.take_core-requires-clause-turn
take_core-requires-clause-turn g c =
    let a = ap (λ (v : BoardView). v.turns) c.in-Ended.ensures.released.answer.2 in
    let b = c.requires.chief.turns in omega (arith, a, b, c.requires.k)

pub returns-clause-chief : goal.returns-clause-chief
returns-clause-chief g c =
    let a = c.in-Ended.ensures.released.answer in let e = c.take_core.ensures in
    chief_ends c.args.board.now c.args.many c.args.k c.in-Ended.mark.composite c.args.chief.now c.release.new.seat
    c.take_core.new.seat c.requires.chief c.requires.k e.own a.2 a.1 e.took

pub returns-clause-core : goal.returns-clause-core
returns-clause-core g c =
    subst (λ (n : ℕ). IsAtHome c.args.board.now n c.take_core.result) c.in-Ended.ensures.released.answer.1
    c.take_core.ensures.core

pub returns-clause-spent : goal.returns-clause-spent
returns-clause-spent g c =
    let a = c.in-Ended.ensures.released.answer in let e = c.take_core.ensures in
    ends_spent c.args.board.now c.args.many c.args.k c.in-Ended.mark.composite c.args.chief.now c.release.new.seat
    c.take_core.new.seat c.requires.chief c.requires.k e.own a.2 a.1 e.took
