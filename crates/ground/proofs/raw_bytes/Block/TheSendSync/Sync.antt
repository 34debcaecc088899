-- A `&` to a block may go to another thread.
use denote.RattleType.{RattleType}
use denote.Param.Send.{IsSync}
use Rattle.std.specs.declared.alloc.Allocator.{Ghosts}
use Rattle.ground.proofs.Crosses.{sole-sync}
use Rattle.ground.specs.contracts.raw_bytes.Block as C

pub sync : (A : RattleType) (g : Ghosts A.Denot) → IsSync (C.the_row A g)
sync = sole-sync
