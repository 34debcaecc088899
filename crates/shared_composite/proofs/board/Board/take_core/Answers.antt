use Rattle.std.proofs.Common.{sym, subst}
use Rattle.shared_composite.specs.declared.cores.Core.{Core}
use Rattle.shared_composite.specs.Boards.{IsAtHome, origin_of}
use Rattle.shared_composite.proofs.BoardCalls.{at_home}
use Rattle.shared_composite.proofs.board.Board.take_core.Goals as goal

pub returns-clause-core : goal.returns-clause-core
returns-clause-core c =
    subst (λ (x : Core). IsAtHome c.args.self.now c.args.mark.composite x) (sym c.into_inner.ensures)
    (at_home (origin_of c.args.self.now) c.args.mark.composite c.take-core.result c.take-core.ensures.home.2.stands_for)
