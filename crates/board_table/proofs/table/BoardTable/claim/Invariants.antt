use Rattle.board_table.specs.Sound.{IsSound}
use Rattle.board_table.specs.Sections.{StandsFor}
use Rattle.board_table.proofs.table.BoardTable.claim.Given as goal

abbrev pub ghosts-claim_word : goal.ghosts-claim_word
ghosts-claim_word g a =
    let o = a.self.now.table.shared.key in
    record {
      composite = a.k;
      holds = IsSound g.H.Homed.stands g.H.Homed.left o;
      fits = λ x turns. StandsFor g.H.Homed.stands g.H.Homed.left o a.k turns x;
    }
