-- What the words may ask for, and the pool for it.
use Rattle.std.specs.Prelude.{◌≡◌, ◌*◌, ◌<◌, ◌≤◌}
use Rattle.size_classes.specs.declared.TheConstants.{DEFAULT_PAGE}
use Rattle.pool_table.specs.declared.views.Layout.{Layout}
use Rattle.pool_bench.specs.declared.words.Plan.{Plan}
use Rattle.pool_bench.specs.Runs.{block_turns, block_moves}

-- one to sixteen threads and one to eight arenas of one to eight chunks, with some handles, and
-- with so few blocks that the moves suffice
pub record IsPlan (p : Plan) : Type 0 where
  pub some_thread : 0 < p.threads
  pub threads : p.threads ≤ 16
  pub some_arena : 0 < p.arenas
  pub arenas : p.arenas ≤ 8
  pub some_chunk : 0 < p.chunks
  pub chunks : p.chunks ≤ 8
  pub some_handle : 0 < p.handles
  pub handles : p.handles ≤ 512
  pub blocks : p.blocks ≤ 8000000

-- a lane for each thread, with the turns and moves of its blocks
pub record IsLayoutOf (p : Plan) (l : Layout) : Type 0 where
  pub page : l.shape.page ≡ DEFAULT_PAGE
  pub order : l.shape.order ≡ 9
  pub arenas : l.shape.arenas ≡ p.arenas
  pub chunks : l.shape.chunks ≡ p.chunks
  pub handles : l.shape.handles ≡ p.handles
  pub lanes : l.shape.lanes ≡ p.threads
  pub interval : l.shape.interval ≡ 128
  pub moves : l.moves ≡ block_moves * p.blocks
  pub turns : l.turns ≡ block_turns * p.blocks
