-- A block may go to another thread where its allocator may.
use denote.RattleType.{RattleType}
use denote.Param.Send.{IsSend, Frees}
use Rattle.std.specs.declared.alloc.Allocator.{Ghosts}
use Rattle.ground.proofs.Crosses.{sole-send}
use Rattle.ground.specs.contracts.raw_bytes.Block as C

pub send : (A : RattleType) (g : Ghosts A.Denot) → IsSend A → Frees g g.dealloc_token → IsSend (C.the_row A g)
send = sole-send
