use Rattle.std.proofs.Common.{arith, sym, ◌∙◌}
use Rattle.board_table.proofs.Calls.{releases_as}
use Rattle.board_table.proofs.table.BoardTable.release_word.Goals as goal

pub fetch_sub-requires : goal.fetch_sub-requires
fetch_sub-requires g c =
    let t = c.args.self.now in let k = c.args.k in let words = t.words in let lt = c.requires.within in let key = t.key
    in (
      c.requires.own,
      omega (arith, words, lt),
      releases_as g.H.Homed.stands g.H.Homed.left t.table.shared.key _ _ _ k _ g.C.Stepping.holds (t.slots ∙ sym key)
          c.requires.named c.requires.holds (omega (arith, lt, key)) c.requires.counts c.requires.outside.0,
    )
