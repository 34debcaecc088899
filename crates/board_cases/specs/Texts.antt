-- The cores of the tests: a text of six bytes in three parts.
use Rattle.std.specs.Prelude.{◌≡◌, ℕ, ◌≤◌, List, [], ◌∷◌}
use Rattle.pool_law.specs.declared.id.Part.{Part}
use Rattle.pool_law.specs.declared.id.RootId.{RootId}
use Rattle.pool_law.specs.Composites.{size_of}
use Rattle.shared_pool.specs.declared.pool.SharedPool.{SharedPool}
use Rattle.board_table.specs.Seats as table
use Rattle.shared_composite.specs.declared.board.Board.{Board}
use Rattle.shared_composite.specs.declared.cores.Core.{Core}
use Rattle.shared_composite.specs.Boards.{IsPoolOf, parts_of}
use Rattle.shared_composite.specs.Cores.{IsCore, turns_of}

abbrev pub part : RootId → ℕ → ℕ → Part
part root offset len = record { root = root; offset = offset; len = len }

-- two parts of a large root, and one of a small one
abbrev pub text_in : RootId → RootId → List Part
text_in large small = part large 1 3 ∷ part large 5 1 ∷ part small 0 2 ∷ []

-- a core of the pool with the text, whose seat has turns enough for a board of 350
pub record IsText (pool : SharedPool) (core : Core) : Type 0 where
  pub core_is : IsCore pool core
  pub size : size_of core.parts ≡ 6
  pub turns : 9000 ≤ turns_of core

-- the turns that the board was made for
abbrev pub turns_of_board : Board → ℕ
turns_of_board board = (table.opening_of board.table).turns

-- the board is one of the pool, and its first composite is a text
pub record Shows (pool : SharedPool) (board : Board) : Type 0 where
  pub pool_is : IsPoolOf board pool
  pub size : size_of (parts_of board 0) ≡ 6
