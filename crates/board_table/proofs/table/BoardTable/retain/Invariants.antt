use Rattle.std.specs.Prelude.{⊤}
use Rattle.board_table.proofs.table.BoardTable.retain.Given as goal

abbrev pub ghosts-retain_word : goal.ghosts-retain_word
ghosts-retain_word g a = record { composite = a.k; holds = λ s. ⊤; fits = λ x turns. ⊤ }
