use Rattle.std.proofs.Common.{◌≡◌, ◌∙◌, ◌≤◌, ℕ, ap, sym, subst}
use Rattle.size_classes.specs.Sizes.{Geometry, IsGeometry, page_shift}
use Rattle.std.proofs.Common.{ap₂}
use Rattle.size_classes.specs.Subpages.{reckoned_pages}
use Rattle.size_classes.proofs.PageClasses.{few-are-classes}
use Rattle.size_classes.proofs.Subpages.{subpage_pages-reckoned, subpage_pages_within}
use Rattle.size_classes.proofs.classes.SizeClasses.subpage_pages.Goals as goal

pub returns-clause-pages : goal.returns-clause-pages
returns-clause-pages c =
    let g = c.args.self.now in
    let h : IsGeometry g = subst IsGeometry c.self.view_is c.self.invariant.geometry in
    let shift : c.self.inside.shift ≡ page_shift g.page =
    c.self.invariant.shift ∙ ap (λ (g : Geometry). page_shift g.page) c.self.view_is in
    c.whole_pages.ensures
    ∙ ap₂ (λ (n k : ℕ). reckoned_pages n k) c.size_of.ensures.value shift
    ∙ subpage_pages-reckoned g h.page c.args.class c.requires.small.1

pub returns-clause-within : goal.returns-clause-within
returns-clause-within c =
    let g = c.args.self.now in
    let h : IsGeometry g = subst IsGeometry c.self.view_is c.self.invariant.geometry in
    let P : ℕ → Type 0 = λ n. (1 ≤ n) × (n ≤ 7) in
    subst P (sym (returns-clause-pages c)) (subpage_pages_within g h.page c.args.class c.requires.small.1)

pub returns-clause-page_class : goal.returns-clause-page_class
returns-clause-page_class c =
    let g = c.args.self.now in
    let h : IsGeometry g = subst IsGeometry c.self.view_is c.self.invariant.geometry in
    let within = returns-clause-within c in
    few-are-classes g h c.whole_pages.result within.0 within.1
