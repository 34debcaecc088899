-- What the readers share, beside a board and a pool: bytes.
use mir.Syntax.{w8}
use mathlib.Core.List.{List, [], ◌∷◌}
use Prim.Native.Nat.{ℕ, ◌+◌}
use denote.RattleType.{RattleType}
use denote.Memory.{each_shared}
use denote.Plain.{UInt}
use denote.Param.Send.{Common, IsSync, sendable}
use Rattle.std.proofs.Crossing as std
use Rattle.pool_law.specs.contracts.list.Items as Items

abbrev bytes : RattleType
bytes = Items.the_row (UInt w8)

pub bytes_sync : IsSync bytes
bytes_sync = search (std.Vec-sync, sendable) depth 20

-- of each of a slice
pub each_bytes : (n : ℕ) (xs : List bytes.Denot) (b o : ℕ) → Common (each_shared xs bytes.shr_at n b o)
each_bytes n [] b o κ = tt
each_bytes n (x ∷ xs) b o κ = (bytes_sync.shared x b o κ, each_bytes n xs b (o + n) κ)
