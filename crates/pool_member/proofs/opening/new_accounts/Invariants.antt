use Rattle.std.proofs.Common.{◌≡◌, ℕ, ◌≤◌, Some, vec_len}
use Rattle.std.specs.Prelude.{slice_get}
use Rattle.pool_member.specs.declared.account.Account.{Account}
use Rattle.pool_member.specs.Opening.{IsNew}
use Rattle.pool_member.proofs.opening.new_accounts.Given as goal

abbrev pub invariant-loop-lane : goal.invariant-loop-lane
invariant-loop-lane l = record {
  many : vec_len l.accounts ≡ l.lane;
  most : l.lane ≤ l.lanes;
  each : (k : ℕ) (a : Account) → slice_get l.accounts.items k ≡ Some a → IsNew l.layout k a;
}
