use Rattle.std.proofs.Common.{All, vec_len}
use Rattle.pool_arena.specs.Closing.{IsAllFree}
use Rattle.pool_arena.proofs.stock.close_all.Given as goal

abbrev pub invariant-loop-place : goal.invariant-loop-place
invariant-loop-place l = All IsAllFree l.places.items

abbrev pub decreases-loop-place : goal.decreases-loop-place
decreases-loop-place l = vec_len l.places
