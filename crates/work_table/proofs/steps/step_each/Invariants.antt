use Rattle.std.proofs.Common.{◌≡◌, ◌<◌, ℕ, List, true, Some, vec_len}
use Rattle.std.specs.Prelude.{slice_get}
use Rattle.work_table.specs.Places.{EachCame}
use Rattle.work_table.proofs.steps.step_each.Given as goal

abbrev pub invariant-loop-i : goal.invariant-loop-i
invariant-loop-i g l = record {
  came :
      let comes = g.M.Machine.comes l.shared in
      (firsts : List g.row.M.Denot) → EachCame comes firsts l.initial.machines.items
      → EachCame comes firsts l.machines.items;
  count : vec_len l.machines ≡ vec_len l.initial.machines;
  finished :
      l.over ≡ true → (k : ℕ) (m : g.row.M.Denot) → k < l.i → slice_get l.machines.items k ≡ Some m
      → g.M.Machine.finished m;
}
