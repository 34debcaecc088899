use Rattle.std.proofs.Common.{◌+◌, ◌-◌, ◌/◌, Bor, sym, ap, arith, ◌∙◌}
use Rattle.std.proofs.lemmas.List.{take-map}
use Rattle.pool_law.specs.declared.note.Did.{Did}
use Rattle.pool_law.specs.Histories.{accepts}
use Rattle.run_check.proofs.fronts.accepted_of.Goals as goal

pub loop-accepted-preserved-then-branch : goal.loop-accepted-preserved-then-branch
loop-accepted-preserved-then-branch c =
    let low = c.loop-accepted.accepted in
    let high = c.loop-accepted.beyond in
    record {
      apart = omega (arith, c.loop-accepted-test.true);
      inside = c.loop-accepted.invariant.inside;
      good =
          ap (accepts c.args.shape.now c.args.object.now)
          (take-map (λ (d : Bor Did). d.now) (low + (high - low) / 2) c.args.dids.now)
          ∙ sym c.in_ok-accepts.ensures
          ∙ c.if-branch.true;
      bad = c.loop-accepted.invariant.bad;
    }

pub loop-accepted-preserved : goal.loop-accepted-preserved
loop-accepted-preserved c =
    let low = c.loop-accepted.accepted in
    let high = c.loop-accepted.beyond in
    record {
      apart = omega (arith, c.loop-accepted-test.true);
      inside = omega (arith, c.loop-accepted-test.true, c.loop-accepted.invariant.inside);
      good = c.loop-accepted.invariant.good;
      bad = λ _.
          ap (accepts c.args.shape.now c.args.object.now)
          (take-map (λ (d : Bor Did). d.now) (low + (high - low) / 2) c.args.dids.now)
          ∙ sym c.in_ok-accepts.ensures
          ∙ c.if-branch.false;
    }
