use Rattle.std.proofs.Common.{refl, sym, ap, subst, arith}
use Rattle.size_classes.specs.Sizes.{IsGeometry, class_count}
use Rattle.size_classes.proofs.Requests.{class_of-is, class_of-past, class_of-within, class_of-above}
use Rattle.size_classes.proofs.classes.SizeClasses.class_of.Goals as goal

pub returns-then-class-len-clause-class : goal.returns-then-class-len-clause-class
returns-then-class-len-clause-class c =
    let g = c.args.self.now in
    let h : IsGeometry g = subst IsGeometry c.self.view_is c.self.invariant.geometry in
    let least = c.least_class-class.ensures in
    let count = ap class_count c.self.view_is in
    let many = c.self.invariant.count in
    sym (class_of-is g h c.args.n c.least_class-class.result (omega (arith, least.few)) least.first
    (omega (arith, many, count)))

pub returns-then-class-len-clause-none : goal.returns-then-class-len-clause-none
returns-then-class-len-clause-none c =
    let g = c.args.self.now in
    let h : IsGeometry g = subst IsGeometry c.self.view_is c.self.invariant.geometry in
    let least = c.least_class-class.ensures in
    let count = ap class_count c.self.view_is in
    let many = c.self.invariant.count in
    let within = class_of-within g h c.args.n c.least_class-class.result (omega (arith, least.few)) least.first
    (omega (arith, many, count)) in
    (λ e. absurd (cc e), λ above. absurd (omega (arith, within, above)))

pub returns-else-class-len-clause-class : goal.returns-else-class-len-clause-class
returns-else-class-len-clause-class c =
    let g = c.args.self.now in
    let h : IsGeometry g = subst IsGeometry c.self.view_is c.self.invariant.geometry in
    let least = c.least_class-class.ensures in
    let count = ap class_count c.self.view_is in
    let many = c.self.invariant.count in
    sym (class_of-past g h c.args.n c.least_class-class.result (omega (arith, least.few)) least.first
    (omega (arith, many, count)))

pub returns-else-class-len-clause-none : goal.returns-else-class-len-clause-none
returns-else-class-len-clause-none c =
    let g = c.args.self.now in
    let h : IsGeometry g = subst IsGeometry c.self.view_is c.self.invariant.geometry in
    let least = c.least_class-class.ensures in
    let count = ap class_count c.self.view_is in
    let many = c.self.invariant.count in
    let above = class_of-above g h c.args.n c.least_class-class.result (omega (arith, least.few)) least.first
    (omega (arith, many, count)) in
    (λ _. above, λ _. refl)
