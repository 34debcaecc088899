use Rattle.std.proofs.Common.{◌≡◌, ℕ, ◌<◌, map, Some}
use Rattle.std.specs.Prelude.{box_value, slice_get}
use Rattle.pool_member.specs.Threads.{IsSettled}
use Rattle.pool_c.specs.Holding.{Holding}
use Rattle.pool_c.proofs.closable.are_settled.Given as goal

abbrev pub invariant-loop-held : goal.invariant-loop-held
invariant-loop-held l = (k : ℕ) (h : Holding) → k < l.held-index → slice_get (map box_value l.all) k ≡ Some h →
    IsSettled h.member
