use Rattle.std.proofs.Common.{arith, sym, ◌∙◌, ◌∷◌}
use Rattle.std.specs.Prelude.{Some}
use Rattle.atomic_table.specs.Table.{rest}
use Rattle.board_table.proofs.Calls.{dones_as}
use Rattle.board_table.proofs.table.BoardTable.done_word.Goals as goal

pub fetch_add-requires : goal.fetch_add-requires
fetch_add-requires g c =
    let t = c.args.self.now in let k = c.args.k in let words = t.words in let lt = c.requires.within in let key = t.key
    in let me = c.args.seat.now.me in (
      c.exchange-empty.ensures.0 ∙ c.requires.own,
      omega (arith, words, lt),
      dones_as g.H.Homed.stands g.H.Homed.left t.table.shared.key _ _ _ me.0 k c.args.home (t.slots ∙ sym key)
          (c.exchange-empty.ensures.3 ∙ (λ i. (me.0, (k, Some c.args.home) ∷ rest (c.requires.holds i))))
          (omega (arith, lt, key)) c.requires.end,
    )
