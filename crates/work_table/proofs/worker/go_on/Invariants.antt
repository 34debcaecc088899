use Rattle.work_table.proofs.worker.go_on.Given as goal

abbrev pub invariant-loop : goal.invariant-loop
invariant-loop g l =
    (goal.iterator-loop g).can_next l.iterator' × (goal.iterator-loop g).is_finite l.iterator'
    × ((first : g.row.M.Denot)
    → g.M.Machine.comes l.shared first l.initial.machine → g.M.Machine.comes l.shared first l.machine)
