use Rattle.std.proofs.Common.{subst}
use Rattle.size_classes.specs.Sizes.{IsGeometry}
use Rattle.object_steps.proofs.SizeLemmas.{pages-capped}
use Rattle.object_steps.proofs.sizes.Sizes.pages_of.Goals as goal

pub returns-else-class-lt-SIZED_CLASSES-clause-capped : goal.returns-else-class-lt-SIZED_CLASSES-clause-capped
returns-else-class-lt-SIZED_CLASSES-clause-capped c =
    let g = c.args.self.now in
    let h : IsGeometry g = subst IsGeometry c.self.view_is c.self.invariant.geometry in
    pages-capped g h.page c.args.class c.if-class-lt-SIZED_CLASSES.false
