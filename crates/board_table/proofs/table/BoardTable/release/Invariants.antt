use Rattle.std.specs.Prelude.{⊤}
use Rattle.board_table.specs.Sound.{IsSound}
use Rattle.board_table.proofs.table.BoardTable.release.Given as goal

abbrev pub ghosts-release_word : goal.ghosts-release_word
ghosts-release_word g a =
    record {
      composite = a.k;
      holds = IsSound g.H.Homed.stands g.H.Homed.left a.self.now.table.shared.key;
      fits = λ x turns. ⊤;
    }
