use Rattle.work_table.proofs.own.work_beside.Given as goal

abbrev pub invariant-loop : goal.invariant-loop
invariant-loop g l =
    (goal.iterator-loop g).can_next l.iterator' × (goal.iterator-loop g).is_finite l.iterator'
    × ((first : g.row.O.Denot)
    → g.O.Machine.comes l.shared first l.initial.own → g.O.Machine.comes l.shared first l.own)
