-- A note before which one is left must wait.
use Rattle.std.proofs.Common.{◌≡◌, ℕ, true, List, Option, Some, None, sym, ap, ◌∙◌}
use Rattle.std.specs.Prelude.{is_some, slice_get, IfSome, Vec}
use Rattle.std.specs.declared.alloc.Global.{Global}
use Rattle.pool_law.specs.Logs.{Logs}
use Rattle.log_order.specs.Graphs.{AreNodesOf}
use Rattle.log_order.specs.Playing.{IsLeft, MustWait}
use Rattle.log_order.specs.declared.spots.Spot.{Spot}

pub waits : (logs : Logs) (spots : List Spot) (needs : List (Vec ℕ Global)) (next : List ℕ) (spot : Spot) (node : ℕ)
    (v : Vec ℕ Global) (nodes : List ℕ) (found : Option ℕ) → AreNodesOf logs spots needs
    → slice_get spots node ≡ Some spot → slice_get needs node ≡ Some v → nodes ≡ v.items
    → IfSome found (λ first. (k : ℕ) × (slice_get nodes k ≡ Some first) × IsLeft spots next first)
    → is_some found ≡ true → MustWait logs next spot
waits logs spots needs next spot node v nodes None g at is same left none = absurd (cc none)
waits logs spots needs next spot node v nodes (Some first) g at is same left is_left = record {
  other = left.2.0;
  before = g.edges first node left.2.0 spot
      (v, left.0, is, ap (λ xs. slice_get xs left.0) (sym same) ∙ left.1) left.2.1 at;
  left = left.2.2;
}
