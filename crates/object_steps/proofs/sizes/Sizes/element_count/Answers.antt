use Rattle.std.proofs.Common.{◌≡◌, ◌∙◌, ◌*◌, ◌/◌, subst, ap}
use Rattle.size_classes.specs.Sizes.{Geometry, IsGeometry, page_of, size_at, subpage_pages, element_count}
use Rattle.size_classes.proofs.Powers.{size_at-least}
use Rattle.size_classes.proofs.SmallClasses.{small_below}
use Rattle.object_steps.proofs.SizeLemmas.{some-elements, small-class, page-most, elements-fit}
use Rattle.object_steps.proofs.sizes.Sizes.element_count.Goals as goal

pub size_of-requires : goal.size_of-requires
size_of-requires c =
    let g = c.args.self.now in
    let h : IsGeometry g = subst IsGeometry c.self.view_is c.self.invariant.geometry in
    let classes : c.self.inside.classes ≡ g = c.self.invariant.classes ∙ c.self.view_is in
    rw classes (small-class g h c.args.class c.requires)

pub returns-clause-within : goal.returns-clause-within
returns-clause-within c =
    let g = c.args.self.now in
    let h : IsGeometry g = subst IsGeometry c.self.view_is c.self.invariant.geometry in
    let classes : c.self.inside.classes ≡ g = c.self.invariant.classes ∙ c.self.view_is in
    let page : c.self.inside.page ≡ page_of g = ap (λ (g : Geometry). g.page) c.self.view_is in
    let pages : c.subpage_pages.result ≡ subpage_pages g c.args.class = c.subpage_pages.ensures.pages in
    let size : c.size_of.result ≡ size_at c.args.class = c.size_of.ensures.value in
    let is : c.self.inside.page * c.subpage_pages.result / c.size_of.result ≡ element_count g c.args.class =
    λ i. page i * pages i / size i in (
      rw is (some-elements g h.page c.args.class (small_below g h.page c.args.class c.requires)),
      elements-fit c.self.inside.page c.subpage_pages.result c.size_of.result
          (page-most c.self.inside.page c.self.invariant.geometry.page)
          c.subpage_pages.ensures.within.1
          (rw size (size_at-least c.args.class)),
    )
