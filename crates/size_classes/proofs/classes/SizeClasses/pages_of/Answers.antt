use Rattle.std.proofs.Common.{◌≡◌, ◌∙◌, ◌*◌, ◌/◌, ◌^◌, ℕ, ap, sym, subst}
use Rattle.size_classes.specs.Sizes.{Geometry, IsGeometry, IsPageClass, page_shift, size_at}
use Rattle.size_classes.proofs.SmallClasses.{pages_of-shift, pages_of-whole, pages_of-class}
use Rattle.size_classes.proofs.classes.SizeClasses.pages_of.Goals as goal

pub returns-clause-pages : goal.returns-clause-pages
returns-clause-pages c =
    let g = c.args.self.now in
    let h : IsGeometry g = subst IsGeometry c.self.view_is c.self.invariant.geometry in
    let shift : c.self.inside.shift ≡ page_shift g.page =
    c.self.invariant.shift ∙ ap (λ (g : Geometry). page_shift g.page) c.self.view_is in
    ap (λ (n : ℕ). n / 2 ^ c.self.inside.shift) c.size_of.ensures.value
    ∙ ap (λ (k : ℕ). size_at c.args.class / 2 ^ k) shift
    ∙ pages_of-shift g h.page c.args.class c.requires.normal.1

pub returns-clause-whole : goal.returns-clause-whole
returns-clause-whole c =
    let g = c.args.self.now in
    let h : IsGeometry g = subst IsGeometry c.self.view_is c.self.invariant.geometry in
    ap (λ (n : ℕ). n * g.page) (returns-clause-pages c) ∙ pages_of-whole g h.page c.args.class c.requires.normal.1

pub returns-clause-page_class : goal.returns-clause-page_class
returns-clause-page_class c =
    let g = c.args.self.now in
    let h : IsGeometry g = subst IsGeometry c.self.view_is c.self.invariant.geometry in
    subst (IsPageClass g) (sym (returns-clause-pages c))
    (pages_of-class g h.page c.args.class c.requires.normal.0 c.requires.normal.1)
