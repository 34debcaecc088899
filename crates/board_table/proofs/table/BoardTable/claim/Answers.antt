use Rattle.std.proofs.Common.{arith, ◌∙◌}
use Rattle.board_table.proofs.Calls.{took_last}
use Rattle.board_table.specs.Sound.{IsSound}
use Rattle.board_table.specs.Sections.{StandsFor}
use Rattle.board_table.proofs.table.BoardTable.claim.Goals as goal

pub exchange-taken-requires : goal.exchange-taken-requires
exchange-taken-requires g c =
    let t = c.args.self.now in let me = c.args.seat.now.seat.me in let found = c.claim_word-found.result in
    let even = c.if-found-eq1.false in (
      c.claim_word-found.ensures.same.0 ∙ c.requires.own,
      took_last (IsSound g.H.Homed.stands g.H.Homed.left t.table.shared.key)
          (λ x turns. StandsFor g.H.Homed.stands g.H.Homed.left t.table.shared.key c.args.k turns x) c.args.k found me
          c.claim_word-found.new.seat.me c.requires.outside.1
          (c.claim_word-found.ensures.told.0 (omega (arith, even))),
    )
