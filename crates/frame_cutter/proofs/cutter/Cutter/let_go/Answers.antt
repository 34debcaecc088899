use Rattle.std.proofs.Common.{arith, subst, sym, ◌∙◌}
use Rattle.std.proofs.lemmas.List.{nil_from_length}
use Rattle.frame_cutter.specs.declared.cutter.Cutter.{Cutter}
use Rattle.frame_cutter.specs.Standing.{CutterStands}
use Rattle.frame_cutter.proofs.EndLaws.{has_slice, lets_go, none_left}
use Rattle.frame_cutter.proofs.cutter.Cutter.let_go.Goals as goal

pub drop_root-requires-clause-counts : goal.drop_root-requires-clause-counts
drop_root-requires-clause-counts g c =
    has_slice c.args.shared.now c.args.self.now c.requires.stands.0 c.requires.stands.1 c.requires.stage c.pop.new.self
    c.in-Some.slice c.in-Some.ensures.items

pub returns-in-Some-clause-stands : goal.returns-in-Some-clause-stands
returns-in-Some-clause-stands g c read st =
    let shared = c.args.shared.now in
    let gone = c.drop_root.ensures in
    subst (λ (d : Cutter). CutterStands shared d read) (sym gone.cutter)
    (lets_go shared c.args.self.now read st c.requires.stage c.pop.new.self c.in-Some.slice c.in-Some.ensures.items
    c.drop_root.new.self.seat gone.released.0 (omega arith) gone.released.1 gone.later)

pub returns-in-None-clause-stands : goal.returns-in-None-clause-stands
returns-in-None-clause-stands g c read st =
    let d = c.args.self.now in
    let popped = c.pop.new.self in
    let none = c.in-None.ensures.cases in
    none_left c.args.shared.now d read st c.requires.stage popped
    (nil_from_length d.slices.items (sym d.slices.ok.0 ∙ none.0))
    (nil_from_length popped.items (sym popped.ok.0 ∙ none.1))
