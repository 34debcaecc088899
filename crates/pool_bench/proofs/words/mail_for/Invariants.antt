use Rattle.std.proofs.Common.{◌≡◌, ℕ, ◌+◌, ◌*◌, ◌<◌, ◌≤◌, length, Some}
use Rattle.std.specs.Prelude.{slice_get}
use Rattle.pool_bench.specs.Mails.{next_lane}
use Rattle.pool_bench.proofs.words.mail_for.Given as goal

abbrev pub invariant-loop-lane : goal.invariant-loop-lane
invariant-loop-lane l = record {
  many : length l.mail.items ≡ l.lanes * l.lanes;
  within : l.lane ≤ l.lanes;
  each : (lane : ℕ) → lane < l.lane → slice_get l.mail.items (lane * l.lanes + next_lane l.lanes lane)
      ≡ Some l.plan.mail;
}
