use Rattle.std.proofs.Common.{arith, sym, ◌∙◌}
use Rattle.board_table.proofs.Calls.{retains_as}
use Rattle.board_table.proofs.table.BoardTable.retain_word.Goals as goal

pub fetch_add-requires : goal.fetch_add-requires
fetch_add-requires g c =
    let t = c.args.self.now in let k = c.args.k in let words = t.words in let lt = c.requires.within in let key = t.key
    in (
      c.requires.own,
      omega (arith, words, lt),
      retains_as g.H.Homed.stands g.H.Homed.left t.table.shared.key _ _ _ k _ (t.slots ∙ sym key) c.requires.named
          (omega (arith, lt, key)) c.requires.counts c.requires.outside.0 c.requires.moves,
    )
