use Rattle.std.proofs.Common.{◌≡◌, ◌≤◌, take}
use Rattle.std.specs.Prelude.{vec_capacity}
use Rattle.shared_pool.proofs.live_roots.kept.Given as goal

abbrev pub invariant-loop-i : goal.invariant-loop-i
invariant-loop-i l = record { items : l.records.items ≡ take l.i l.tracker.kept; room : 4 ≤ vec_capacity l.records }
