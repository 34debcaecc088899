use Rattle.std.proofs.Common.{arith, sym, ◌∙◌}
use Rattle.board_table.proofs.Calls.{takes_as}
use Rattle.board_table.proofs.table.BoardTable.take_word.Goals as goal

pub fetch_add-requires : goal.fetch_add-requires
fetch_add-requires g c =
    let t = c.args.self.now in let k = c.args.k in let words = t.words in let lt = c.requires.within in let key = t.key
    in let me = c.args.seat.now.me in (
      c.requires.own,
      omega (arith, words, lt),
      takes_as g.H.Homed.stands g.H.Homed.left t.table.shared.key _ _ _ me.0 k (t.slots ∙ sym key)
          (λ i. (me.0, c.requires.holds i)) (omega (arith, lt, key)) c.requires.inside c.requires.mark,
    )
