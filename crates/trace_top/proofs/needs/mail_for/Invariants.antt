use Rattle.std.proofs.Common.{◌≡◌, ◌<◌, ℕ, ◌/◌, ◌%◌, Some, length}
use Rattle.std.specs.Prelude.{slice_get}
use Rattle.trace_top.specs.Needs.{sent}
use Rattle.trace_top.proofs.needs.mail_for.Given as goal

abbrev pub invariant-loop-index : goal.invariant-loop-index
invariant-loop-index l = record {
  many : length l.mail.items ≡ l.index;
  sent_so : (k : ℕ) → k < l.index →
      slice_get l.mail.items k ≡ Some (sent l.lanes (k / l.count) (k % l.count));
}
