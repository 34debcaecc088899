use Rattle.std.proofs.Common.{◌≡◌, ◌∙◌, subst, sym, arith}
use Rattle.size_classes.specs.Sizes.{IsGeometry}
use Rattle.size_classes.proofs.SmallClasses.{small_below}
use Rattle.object_steps.proofs.SizeLemmas.{small-is, small-few}
use Rattle.object_steps.proofs.sizes.Sizes.is_small.Goals as goal

pub returns-clause-small : goal.returns-clause-small
returns-clause-small c =
    let g = c.args.self.now in
    let h : IsGeometry g = subst IsGeometry c.self.view_is c.self.invariant.geometry in
    let classes : c.self.inside.classes ≡ g = c.self.invariant.classes ∙ c.self.view_is in
    rw (c.small_count.ensures.count, classes) (small-is g h.page c.args.class)

pub returns-clause-few : goal.returns-clause-few
returns-clause-few c small =
    let g = c.args.self.now in
    let h : IsGeometry g = subst IsGeometry c.self.view_is c.self.invariant.geometry in
    omega (arith, small-few g h.page, small_below g h.page c.args.class (sym (returns-clause-small c) ∙ small))
