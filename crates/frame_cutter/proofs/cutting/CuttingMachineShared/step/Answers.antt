use Rattle.std.proofs.Common.{refl}
use Rattle.frame_cutter.proofs.CameLaws.{worked}
use Rattle.frame_cutter.proofs.cutting.CuttingMachineShared.step.Goals as goal

pub fill-requires-clause-came : goal.fill-requires-clause-came
fill-requires-clause-came g c =
    let comes = c.requires.comes in (comes.0.source.now, comes.0.cutter.now, comes.1.came)

pub returns-then-eq-clause-comes : goal.returns-then-eq-clause-comes
returns-then-eq-clause-comes g c first came = record {
  source = came.source;
  cutter = came.cutter;
  came = c.fill.ensures.came first.source.now first.cutter.now came.came;
}

pub returns-clause-comes : goal.returns-clause-comes
returns-clause-comes g c first came =
    let self = c.args.self.now in record {
      source = came.source;
      cutter = came.cutter;
      came =
          worked g.S.Source.left g.S.Source.faults c.args.shared.now first.source.now self.source.now self.source.now
          first.cutter.now self.cutter.now c.go_on.new.self came.came refl c.go_on.ensures.stands c.go_on.ensures.same;
    }
