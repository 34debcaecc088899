use Rattle.std.proofs.Common.{◌∙◌, ◌-◌, ◌++◌, arith, refl, subst, sym}
use Rattle.frame_hash.specs.declared.turns.TheConstants.{RELEASE_TURNS}
use Rattle.frame_hash.specs.Told.{joined}
use Rattle.frame_cutter.specs.declared.cutter.Cutter.{Cutter}
use Rattle.frame_cutter.specs.declared.stage.Stage.TheVariants.{Cutting, LettingGo}
use Rattle.frame_cutter.specs.declared.stage.Verdict.TheVariants.{Fault, Refused}
use Rattle.frame_cutter.specs.Standing.{CutterCame}
use Rattle.frame_cutter.proofs.CameLaws.{no_fault, read_failed, read_on, worked}
use Rattle.frame_cutter.specs.declared.filling.TheConstants.{FILL_TURNS}
use Rattle.frame_cutter.proofs.MovedLaws.{moved_to}
use Rattle.frame_cutter.proofs.FillLaws.{placed, reading, refuses, stopped, waits, with_finds}
use Rattle.frame_cutter.proofs.filling.fill.Goals as goal

pub returns-in_err-reserve-clause-came : goal.returns-in_err-reserve-clause-came
returns-in_err-reserve-clause-came g c first begun came =
    let d = c.args.cutter.now in
    worked g.S.Source.left g.S.Source.faults c.args.shared.now first c.args.source.now c.args.source.now begun d
    (record d { finds = c.reserve.new.self }) came refl
    (λ read st. with_finds c.args.shared.now d read st c.requires.stage c.reserve.new.self)
    (record { workers = refl; block = refl; last = refl; fault = refl })

pub load_into-requires-clause-cut : goal.load_into-requires-clause-cut
load_into-requires-clause-cut g c =
    let came = c.requires.came.2 in (
      came.read,
      joined came.stands.pieces,
      (reading c.args.shared.now c.args.cutter.now came.read came.stands c.requires.stage).2,
    )

pub returns-in_default-clause-came : goal.returns-in_default-clause-came
returns-in_default-clause-came g c first begun came =
    let d = c.args.cutter.now in
    let mid = c.allocate.new.seat in
    let finds = c.reserve.new.self in
    let no = c.in_default.ensures in
    worked g.S.Source.left g.S.Source.faults c.args.shared.now first c.args.source.now c.args.source.now begun d
    (record d { seat = mid; turns = d.turns - FILL_TURNS; finds = finds }) came refl
    (λ read st. waits c.args.shared.now d read st c.requires.stage (omega arith) finds mid c.in_default.field-0 no.later
    no.proceeds)
    (record { workers = refl; block = refl; last = refl; fault = refl })

pub returns-in-Block-clause-came : goal.returns-in-Block-clause-came
returns-in-Block-clause-came g c first begun came =
    let left = g.S.Source.left in
    let faults = g.S.Source.faults in
    let shared = c.args.shared.now in
    let d = c.args.cutter.now in
    let st = came.stands in
    let stage = c.requires.stage in
    let got = c.in-Ok.ensures in
    let root = c.in-Ok.root in
    let last = c.in-Block.last in
    let into = c.load_into.ensures in
    let new = c.load_into.new.cutter in
    let loaded = c.in-Block.ensures.loaded in
    let found = loaded.4 in
    let gives = found.2.1 in
    let size = loaded.2 in
    let few = gives.few in
    let sized = got.root.0 in
    subst (λ (x : Cutter). CutterCame left faults shared first c.load_into.new.source begun
    (record x { last = last; stage = Cutting root 0 })) (sym into.cutter)
    (read_on left faults shared first c.args.source.now c.load_into.new.source begun d
    (moved_to d new.seat (d.turns - FILL_TURNS) d.moves new.finds last new.slicer d.slices (Cutting root 0) d.verdict)
    came (no_fault shared d came.read st stage) found.0
    (placed shared d came.read st stage (omega arith) new.finds c.allocate.new.seat root new.seat loaded.1 loaded.0
    got.proceeds got.born into.proceeds loaded.3 new.slicer found.0 found.1 last found.2.0
    (omega (arith, few, size)) (λ more. let a = gives.full more in omega (arith, a, size)) (omega (arith, sized))
    (found.2.2 came.read (joined st.pieces) (reading shared d came.read st stage).2))
    refl refl (no_fault shared d came.read st stage) gives.consumes gives.sound gives.end)

pub returns-in-Refused-clause-came : goal.returns-in-Refused-clause-came
returns-in-Refused-clause-came g c first begun came =
    let left = g.S.Source.left in
    let faults = g.S.Source.faults in
    let shared = c.args.shared.now in
    let d = c.args.cutter.now in
    let st = came.stands in
    let stage = c.requires.stage in
    let got = c.in-Ok.ensures in
    let root = c.in-Ok.root in
    let why = c.in-Refused.why in
    let into = c.load_into.ensures in
    let new = c.load_into.new.cutter in
    let loaded = c.in-Refused.ensures.loaded in
    let found = loaded.4 in
    let gives = found.2.0 in
    let size = loaded.2 in
    let few = gives.few in
    let end = c.stop.new.self.seat in
    let gone = c.stop.ensures in
    let here = reading shared d came.read st stage in
    let e : Cutter =
    moved_to d end (d.turns - FILL_TURNS - RELEASE_TURNS) d.moves new.finds d.last new.slicer d.slices LettingGo
    (Refused why) in
    subst (λ (x : Cutter). CutterCame left faults shared first c.load_into.new.source begun x) (sym gone.cutter)
    (subst (λ (x : Cutter). CutterCame left faults shared first c.load_into.new.source begun
    (record x { seat = end; turns = x.turns - RELEASE_TURNS; stage = LettingGo; verdict = Refused why }))
    (sym into.cutter)
    (read_on left faults shared first c.args.source.now c.load_into.new.source begun d e came
    (no_fault shared d came.read st stage) found.0
    (stopped shared d came.read st stage (omega arith) new.finds c.allocate.new.seat root new.seat loaded.1 loaded.0
    got.proceeds got.born into.proceeds loaded.3 new.slicer end gone.released.0 gone.released.1 gone.later
    (Refused why) (came.read ++ found.0)
    (refuses shared d came.read st stage e found.0 why refl (omega (arith, few, size))
    (found.2.1 came.read (joined st.pieces) here.2)))
    refl refl refl gives.consumes gives.sound (λ last. absurd (cc (sym last ∙ here.0)))))

pub returns-in-Fault-clause-came : goal.returns-in-Fault-clause-came
returns-in-Fault-clause-came g c first begun came =
    let left = g.S.Source.left in
    let faults = g.S.Source.faults in
    let shared = c.args.shared.now in
    let d = c.args.cutter.now in
    let st = came.stands in
    let stage = c.requires.stage in
    let got = c.in-Ok.ensures in
    let root = c.in-Ok.root in
    let into = c.load_into.ensures in
    let new = c.load_into.new.cutter in
    let loaded = c.in-Fault.ensures.loaded in
    let end = c.stop-in-Fault.new.self.seat in
    let gone = c.stop-in-Fault.ensures in
    subst (λ (x : Cutter). CutterCame left faults shared first c.load_into.new.source begun x) (sym gone.cutter)
    (subst (λ (x : Cutter). CutterCame left faults shared first c.load_into.new.source begun
    (record x { seat = end; turns = x.turns - RELEASE_TURNS; stage = LettingGo; verdict = Fault }))
    (sym into.cutter)
    (read_failed left faults shared first c.args.source.now c.load_into.new.source begun d
    (moved_to d end (d.turns - FILL_TURNS - RELEASE_TURNS) d.moves new.finds d.last new.slicer d.slices LettingGo
    Fault) came (no_fault shared d came.read st stage)
    (stopped shared d came.read st stage (omega arith) new.finds c.allocate.new.seat root new.seat loaded.1 loaded.0
    got.proceeds got.born into.proceeds loaded.3 new.slicer end gone.released.0 gone.released.1 gone.later Fault
    came.read tt)
    refl refl refl loaded.4))
