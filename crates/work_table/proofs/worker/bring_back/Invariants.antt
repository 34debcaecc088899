use Rattle.std.proofs.Common.{◌≡◌}
use Rattle.work_table.proofs.worker.bring_back.Given as goal

abbrev pub invariant-loop : goal.invariant-loop
invariant-loop g l =
    (goal.iterator-loop g).can_next l.iterator' × (goal.iterator-loop g).is_finite l.iterator'
    × (l.machine ≡ l.initial.machine)
    × (l.share.parts ≡ 1)
    × (l.share.amount ≡ 1)
