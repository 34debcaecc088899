use Rattle.std.proofs.Common.{◌≡◌, ◌<◌, ℕ, ◌∙◌, length, true, false, Bool, arith, refl, sym}
use Rattle.std.specs.Prelude.{All}
use Rattle.std.proofs.lemmas.Grind.{common_steps}
use Rattle.std.proofs.lemmas.Option.{slice_get_within}
use Rattle.std.specs.Bool.{OnTrue}
use Rattle.work_table.proofs.Places.{all_at}
use Rattle.work_table.proofs.Tables.{one_more}
use Rattle.work_table.proofs.steps.step_each.Goals.{then-branch, else-branch}
use Rattle.work_table.proofs.steps.step_each.Goals as goal

pub returns-in_err-over-clause-machines : goal.returns-in_err-over-clause-machines
returns-in_err-over-clause-machines g c firsts all =
    c.step_at.ensures.machines firsts (c.loop-i.invariant.came firsts all)

on_true : (b : Bool) (P : Type 0) → OnTrue b P → b ≡ true → P
on_true true P h e = h
on_true false P h e = absurd (cc)

never : (b : Bool) → b ≡ false → b ≡ true → ⊥
never b e f = cc

pub loop-i-preserved : goal.loop-i-preserved
loop-i-preserved g c = record {
  came = λ firsts all. c.step_at.ensures.machines firsts (c.loop-i.invariant.came firsts all);
  count = c.step_at.ensures.count ∙ c.loop-i.invariant.count;
  finished = λ all k m below e. elim c.if-branch.branch [
    | then-branch w ↦
        one_more g.M.Machine.finished c.loop-i.machines.items c.step_at.new.machines.items c.loop-i.i k m below e
        c.step_at.ensures.others (c.loop-i.invariant.finished (sym w.over-is ∙ all))
        (on_true _ _ c.in_ok-over.ensures.finished w.if-branch.true)
    | else-branch w ↦ absurd (never _ (w.over-is ∙ w.if-branch.false) all)
  ];
}

-- where all had finished at each place, all have
pub returns-clause-finished : goal.returns-clause-finished
returns-clause-finished g c =
    when c.loop-i.over
    (λ over. all_at g.M.Machine.finished c.loop-i.machines.items
    (λ i m e. c.loop-i.invariant.finished over i m (within i (slice_get_within _ _ _ e)) e))
  where
    when : (b : Bool) → (b ≡ true → All g.M.Machine.finished c.loop-i.machines.items)
        → OnTrue b (All g.M.Machine.finished c.loop-i.machines.items)
    when true all = all refl
    when false all = tt

    within : (i : ℕ) → i < length c.loop-i.machines.items → i < c.loop-i.i
    within i h = grind (
      arith,
      common_steps,
      h,
      c.loop-i-test.false,
      c.len-i-end.ensures,
      c.loop-i.invariant.count,
      c.loop-i.machines.ok,
    )
