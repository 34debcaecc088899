use Rattle.std.proofs.Common.{arith}
use Rattle.board_table.proofs.Calls.{hands_as}
use Rattle.board_table.proofs.table.BoardTable.hand_seat.Goals as goal

pub split_seat-requires : goal.split_seat-requires
split_seat-requires g c =
    let t = c.args.self.now in let words = t.words in let some = t.some in (
      c.requires.own,
      omega (arith, words, some),
      hands_as g.H.Homed.stands g.H.Homed.left t.table.shared.key _ c.args.k _ c.args.turns _ _ c.requires.named.0
          c.requires.named.1 c.requires.counts c.requires.outside c.requires.turns,
    )
