use Rattle.std.proofs.Common.{arith, sym, ◌∙◌}
use Rattle.board_table.proofs.Calls.{claims_as}
use Rattle.board_table.proofs.table.BoardTable.claim_word.Goals as goal

pub fetch_or-requires : goal.fetch_or-requires
fetch_or-requires g c =
    let t = c.args.self.now in let k = c.args.k in let words = t.words in let lt = c.requires.within in let key = t.key
    in (
      c.requires.own,
      omega (arith, words, lt),
      claims_as g.H.Homed.stands g.H.Homed.left t.table.shared.key _ _ _ k _ g.C.Stepping.holds g.C.Stepping.fits
          (t.slots ∙ sym key) c.requires.named c.requires.holds c.requires.fits (omega (arith, lt, key))
          c.requires.enters c.requires.outside.0 c.requires.turn,
    )
