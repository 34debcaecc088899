use Rattle.std.proofs.Common.{◌≡◌, ℕ, ◌<◌, ◌≤◌, length, map, Some}
use Rattle.std.specs.Prelude.{box_value, slice_get}
use Rattle.pool_c.specs.Holding.{Holding}
use Rattle.pool_c.proofs.closable.are_all.Given as goal

abbrev pub invariant-loop-number : goal.invariant-loop-number
invariant-loop-number l = record {
  many : length l.all ≡ l.threads;
  most : l.number ≤ l.threads;
  each : (k : ℕ) (h : Holding) → k < l.number → slice_get (map box_value l.all) k ≡ Some h →
      (h.common.name ≡ l.name) × (h.member.account.lane ≡ k);
}
