use Rattle.std.proofs.Common.{◌≡◌, subst, sym}
use Rattle.std.specs.Prelude.{All, OnOk}
use Rattle.frame_hash.specs.declared.worker.Work.TheVariants.{Done}
use Rattle.frame_hash.specs.declared.worker.Worker.{Worker}
use Rattle.frame_cutter.specs.declared.cutter.Cutter.{Cutter}
use Rattle.frame_cutter.specs.declared.stage.Stage.TheVariants.{Over}
use Rattle.frame_cutter.specs.Standing.{CutterCame}
use Rattle.frame_cut.proofs.Running.{came_first, cutter_started}
use Rattle.frame_cut.proofs.hashing.step_all.Goals as goal

pub step_beside-workers-requires-clause-own : goal.step_beside-workers-requires-clause-own
step_beside-workers-requires-clause-own g c κs within = (
  _,
  cutter_started g.S.Source.left g.S.Source.faults c.args.shared.now
      (record { source = _; cutter = record { ref_ptr = _; ghost_name = _; now = c.args.cutter } }) c.requires.cutter
      c.requires.begun.0 c.requires.begun.1,
)

pub step_beside-workers-requires-clause-machines : goal.step_beside-workers-requires-clause-machines
step_beside-workers-requires-clause-machines g c κs within =
    came_first c.args.shared.now c.args.workers.items c.requires.workers

pub returns : goal.returns
returns g c =
    let shared = c.args.shared.now in
    let left = g.S.Source.left in
    let faults = g.S.Source.faults in
    let stepped = c.step_beside-workers in
    let own = stepped.new.own in
    let came = stepped.ensures.own _
    (cutter_started left faults shared (record {
      source = _;
      cutter = record { ref_ptr = _; ghost_name = _; now = c.args.cutter };
    }) c.requires.cutter c.requires.begun.0 c.requires.begun.1) in
    let source = sym (c.source-1.given.1 (sym came.source)) in
    let cutter = sym (c.cutter-2-1.given.1 (sym came.cutter)) in
    record {
      cutter =
          subst (λ s. CutterCame left faults shared c.args.source.now s c.args.cutter c.cutter-2-1.given.0) source
          (subst (λ (d : Cutter). CutterCame left faults shared c.args.source.now own.source.now c.args.cutter d) cutter
          came.came);
      workers = stepped.ensures.machines;
      count = stepped.ensures.count;
      finished =
          subst (λ (d : Cutter). OnOk stepped.result.1 ((d.stage ≡ Over)
          × All (λ (w : Worker). w.work ≡ Done) stepped.result.0.items)) cutter stepped.ensures.finished;
    }
