-- The elements of a raw rack may go to another thread.
use Rattle.std.proofs.Common.{ℕ, ◌+◌, List, [], ◌∷◌}
use Rattle.std.specs.Prelude.{Some, None}
use base.Fraction.{full_share}
use base.Fml.{GName}
use base.Shift.{Keyless}
use denote.RawPtr.{Ptr, ◌+ₚ◌}
use denote.Param.Send.{IsSend, owning_send}
use Rattle.ground.specs.Rack.{Cell}
use Rattle.ground.specs.Ownership.{raw_rack_owns}
use Rattle.ground.proofs.ClaimLaws.{claim_keyless}
use Rattle.ground.proofs.Crosses.{raw_bytes_owns-keyless}
use Rattle.ground.specs.contracts.raw_rack.RawRack as C

keyless : (γ : GName) (n : ℕ) (cs : List Cell) (p : Ptr) (s : ℕ) → Keyless (raw_rack_owns γ n cs p s)
keyless γ n [] p s = tt
keyless γ n (None ∷ cs) p s = (tt, keyless γ n cs (p +ₚ n) (s + n))
keyless γ n (Some bs ∷ cs) p s =
    ((raw_bytes_owns-keyless p bs, claim_keyless γ s n full_share), keyless γ n cs (p +ₚ n) (s + n))

pub send : IsSend C.the_row
send = owning_send C.the_type tt (λ c. keyless c.name c.each c.cells c.ptr c.start) (λ k x w. tt)
