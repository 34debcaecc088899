use Rattle.std.proofs.Common.{sym, subst, arith}
use Rattle.shared_pool.specs.declared.pool.SharedPool.{SharedPool}
use Rattle.shared_composite.specs.Boards.{AreCores}
use Rattle.share_run.specs.declared.openings.TheConstants.{BOARD_TURNS}
use Rattle.share_run.proofs.BoardLaws.{are_cores}
use Rattle.share_run.proofs.PlayLaws.{opened_board}
use Rattle.share_run.proofs.play.board_of.Goals as goal

pub new-requires : goal.new-requires
new-requires g c =
    let many = c.requires.1.1.many in let few = c.requires.1.0 in (
      omega (arith, many, few.0),
      (
        omega (arith, many, few.1),
        (
          omega arith,
          (
            omega arith,
            subst (λ (p : SharedPool). AreCores p BOARD_TURNS c.args.cores.items) (sym c.requires.0)
                (are_cores c.args.pool.now c.args.composites.now c.args.cores.items c.requires.1.1),
          ),
        ),
      ),
    )

pub returns-clause-board : goal.returns-clause-board
returns-clause-board g c =
    opened_board g.here c.args.pool.now c.args.composites.now c.args.cores.items c.new.result c.requires.0
    c.requires.1.1 c.new.ensures.made
