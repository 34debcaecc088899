use Rattle.std.proofs.Common.{◌≡◌, ◌∙◌, subst}
use Rattle.size_classes.specs.Sizes.{IsGeometry}
use Rattle.object_steps.proofs.SizeLemmas.{small-class}
use Rattle.object_steps.proofs.sizes.Sizes.subpage_pages.Goals as goal

pub subpage_pages-requires : goal.subpage_pages-requires
subpage_pages-requires c =
    let g = c.args.self.now in
    let h : IsGeometry g = subst IsGeometry c.self.view_is c.self.invariant.geometry in
    let classes : c.self.inside.classes ≡ g = c.self.invariant.classes ∙ c.self.view_is in
    rw classes (record { small = (small-class g h c.args.class c.requires, c.requires) })
