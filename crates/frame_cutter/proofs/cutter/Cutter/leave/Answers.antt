use Rattle.std.proofs.Common.{ap, sym, subst, ◌∙◌, arith}
use Rattle.frame_slices.specs.Slices.{HasCut}
use Rattle.frame_cutter.specs.declared.cutter.Cutter.{Cutter}
use Rattle.frame_cutter.specs.declared.stage.Stage.TheVariants.{Filling, LettingGo}
use Rattle.frame_cutter.specs.Standing.{CutterStands}
use Rattle.frame_cutter.proofs.CutLaws.{counts_root, leaves, leaves_last}
use Rattle.frame_cutter.proofs.cutter.Cutter.leave.Goals as goal

pub drop_root-requires-clause-counts : goal.drop_root-requires-clause-counts
drop_root-requires-clause-counts g c =
    let stands = c.requires.stands in
    let stage = c.requires.stage in
    counts_root c.args.shared.now c.args.self.now stands.0 stands.1 c.args.root stage.0 stage.1

pub returns-then-self-clause-stands : goal.returns-then-self-clause-stands
returns-then-self-clause-stands g c read stands =
    let d = c.args.self.now in
    let stage = c.requires.stage in
    let all = stage.2 in
    let many = d.finds.ok.0 in
    let call = c.drop_root in
    let let_go = call.ensures.released in
    let verdict = c.finish.new.self.verdict in
    subst (λ (x : Cutter). CutterStands c.args.shared.now x read) (sym c.finish.ensures.cutter)
    (subst (λ (x : Cutter). CutterStands c.args.shared.now
    (record x { stage = LettingGo; verdict = verdict }) read) (sym call.ensures.cutter)
    (leaves_last c.args.shared.now d read stands c.args.root stage.0 stage.1 (omega (arith, all, many))
    call.new.self.seat
    let_go.0 call.ensures.later let_go.1 c.requires.turns verdict
    (ap (λ (x : Cutter). x.last) (sym call.ensures.cutter) ∙ c.if-self.true)
    (λ bytes own has. c.finish.ensures.verdict bytes own
    (subst (λ (x : Cutter). HasCut x.slicer bytes own) (sym call.ensures.cutter) has))))

pub returns-else-self-clause-stands : goal.returns-else-self-clause-stands
returns-else-self-clause-stands g c read stands =
    let d = c.args.self.now in
    let stage = c.requires.stage in
    let all = stage.2 in
    let many = d.finds.ok.0 in
    let call = c.drop_root in
    let let_go = call.ensures.released in
    subst (λ (x : Cutter). CutterStands c.args.shared.now (record x { stage = Filling }) read) (sym call.ensures.cutter)
    (leaves c.args.shared.now d read stands c.args.root stage.0 stage.1 (omega (arith, all, many)) call.new.self.seat
    let_go.0 call.ensures.later let_go.1 c.requires.turns
    (ap (λ (x : Cutter). x.last) (sym call.ensures.cutter) ∙ c.if-self.false))
