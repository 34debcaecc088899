use Rattle.std.proofs.Common.{subst, arith}
use Rattle.size_classes.specs.Sizes.{IsGeometry}
use Rattle.size_classes.proofs.PageClasses.{page_classes_up_to-is}
use Rattle.size_classes.proofs.classes.SizeClasses.page_class_down.Goals as goal

pub returns : goal.returns
returns c =
    let g = c.args.self.now in
    let h : IsGeometry g = subst IsGeometry c.self.view_is c.self.invariant.geometry in
    page_classes_up_to-is g h c.args.pages c.last_at_most.result c.requires.1
    (omega (arith, c.last_at_most.ensures.few)) c.last_at_most.ensures.last
