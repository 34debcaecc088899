use Rattle.std.proofs.Common.{ap, sym}
use Rattle.board_table.specs.declared.views.BoardView.{BoardView}
use Rattle.board_table.proofs.table.BoardTable.take.Goals as goal

pub take_word-requires-clause-inside : goal.take_word-requires-clause-inside
take_word-requires-clause-inside g c =
    let got = c.in-Ok.ensures.got in (
      record { composite = c.args.mark.composite; number = got.number; turns = got.turns },
      ap (λ (v : BoardView). v.inside) got.view,
      sym got.composite,
    )
