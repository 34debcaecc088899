use Rattle.std.proofs.Common.{◌≡◌, List, vec_len}
use Rattle.work_table.specs.Places.{EachCame}
use Rattle.work_table.proofs.steps.step_all.Given as goal

abbrev pub invariant-loop : goal.invariant-loop
invariant-loop g l =
    (goal.iterator-loop g).can_next l.iterator' × (goal.iterator-loop g).is_finite l.iterator'
    × ((first : g.row.O.Denot)
    → g.O.Machine.comes l.shared first l.initial.own → g.O.Machine.comes l.shared first l.own)
    × (let comes = g.M.Machine.comes l.shared in
    (firsts : List g.row.M.Denot)
    → EachCame comes firsts l.initial.machines.items → EachCame comes firsts l.machines.items)
    × (vec_len l.machines ≡ vec_len l.initial.machines)
