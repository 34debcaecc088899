use Rattle.std.proofs.Common.{◌≡◌, ℕ, ◌<◌, ◌≤◌, length, Some}
use Rattle.std.specs.Prelude.{slice_get}
use Rattle.pool_member.specs.declared.member.Member.{Member}
use Rattle.pool_member.proofs.closing.are_all.Given as goal

abbrev pub invariant-loop-lane : goal.invariant-loop-lane
invariant-loop-lane l = record {
  many : length l.members ≡ l.lanes;
  most : l.lane ≤ l.lanes;
  each : (k : ℕ) (m : Member) → k < l.lane → slice_get l.members k ≡ Some m → m.account.lane ≡ k;
}
