-- What these types own and show names no thread.
use Rattle.std.proofs.Common.{ℕ, List, length}
use base.Fraction.{full_share}
use base.Shift.{Keyless}
use denote.Builtin.{u8}
use denote.Array.{Array}
use denote.RawPtr.{Ptr, block_ptr, null_ptr}
use denote.Param.Send.{IsSend, IsSync, part_keyless, array_send, sendable, Frees, struct_send}
use denote.RattleType.{RattleType}
use denote.Struct.Declared as declared
use Rattle.std.specs.declared.alloc.Allocator.{Ghosts}
use Rattle.std.specs.Vec.{with_items}
use Rattle.std_alloc.proofs.SendSync.{Vec-send}
use Rattle.ground.specs.contracts.raw_bytes.Block as Sole
use Rattle.ground.specs.contracts.raw_bytes.Block.TheInside as Inside
use Rattle.ground.specs.Ownership.{raw_bytes_owns}

pub u8-send : IsSend u8
u8-send = search sendable

pub u8-sync : IsSync u8
u8-sync = search sendable

pub raw_bytes_owns-keyless : (p : Ptr) (xs : List ℕ) → Keyless (raw_bytes_owns p xs)
raw_bytes_owns-keyless (block_ptr b o) xs =
    part_keyless (Array u8 (length xs)) (array_send u8 (length xs) u8-send) full_share xs b o
raw_bytes_owns-keyless null_ptr xs = tt

pub sole-send : (A : RattleType) (g : Ghosts A.Denot) → IsSend A → Frees g g.dealloc_token → IsSend (Sole.the_row A g)
sole-send A g s f = record {
  owned = λ e vs. (
    (λ _. tt),
    λ v. (
      tt,
      λ xs. (
        (tt, raw_bytes_owns-keyless e.ptr xs),
        (struct_send (declared.shape (Inside.the_type A g)) (Vec-send u8 A g u8-send s f, tt)).owned
            (with_items v.vec xs, tt) vs,
      ),
    ),
  );
  leaving = λ k x w. tt;
}

pub sole-sync : (A : RattleType) (g : Ghosts A.Denot) → IsSync (Sole.the_row A g)
sole-sync A g = record { shared = λ e b o κ. tt }
