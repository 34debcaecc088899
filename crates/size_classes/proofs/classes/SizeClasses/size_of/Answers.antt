use Rattle.std.proofs.Common.{◌∙◌, ◌<◌, ℕ, List, ap, sym, subst, get_or, arith}
use Rattle.size_classes.specs.Sizes.{Geometry, class_count}
use Rattle.size_classes.specs.Tables.{geometry_in}
use Rattle.size_classes.proofs.Powers.{first_sizes-at, size_at-least, size_at-fits}
use Rattle.size_classes.proofs.Geometries.{class_count-most}
use Rattle.size_classes.proofs.classes.SizeClasses.size_of.Goals as goal

pub returns-clause-value : goal.returns-clause-value
returns-clause-value c =
    let x : ℕ = c.index.result.now in
    let count : ℕ = class_count (geometry_in c.self.inside) in
    let P : Geometry → Type 0 = λ g. c.args.class < class_count g in
    let there : c.args.class < count = subst P (sym c.self.view_is) c.requires in
    c.index.ensures ∙ ap (λ (l : List ℕ). get_or l c.args.class x) c.self.invariant.all
    ∙ first_sizes-at count c.args.class x there

pub returns-clause-within : goal.returns-clause-within
returns-clause-within c =
    let g = geometry_in c.self.inside in
    let P : Geometry → Type 0 = λ g. c.args.class < class_count g in
    let there : c.args.class < class_count g = subst P (sym c.self.view_is) c.requires in
    let fits = size_at-fits c.args.class (omega (arith, there, class_count-most g c.self.invariant.geometry)) in
    rw (returns-clause-value c) (omega (arith, size_at-least c.args.class), fits)
