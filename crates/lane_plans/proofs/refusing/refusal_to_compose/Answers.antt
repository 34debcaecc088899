use Rattle.std.proofs.Common.{true, false, refl, sym, ◌∙◌}
use Rattle.std.specs.List.{list_any}
use Rattle.lane_plans.specs.Compositions.{is_composite, is_illegal, is_unbound}
use Rattle.lane_plans.proofs.CompositionTests.{by_answers}
use Rattle.lane_plans.proofs.refusing.refusal_to_compose.Goals as goal

pub returns-then-any_unbound : goal.returns-then-any_unbound
returns-then-any_unbound c =
    let names = c.args.names.now in let cs = c.args.counts.now in let of = c.args.of.now in
    by_answers names cs c.args.fresh of true (is_unbound names c.args.fresh) (list_any (is_composite names) of)
    (list_any (is_illegal names cs) of) (sym c.any_unbound.ensures ∙ c.if-any_unbound.true) refl refl refl

pub returns-then-not-is_unbound : goal.returns-then-not-is_unbound
returns-then-not-is_unbound c =
    let names = c.args.names.now in let cs = c.args.counts.now in let of = c.args.of.now in
    by_answers names cs c.args.fresh of false false (list_any (is_composite names) of)
    (list_any (is_illegal names cs) of) (sym c.any_unbound.ensures ∙ c.if-any_unbound.false)
    (sym c.is_unbound.ensures ∙ c.if-not-is_unbound.true) refl refl

pub returns-then-any_composite : goal.returns-then-any_composite
returns-then-any_composite c =
    let names = c.args.names.now in let cs = c.args.counts.now in let of = c.args.of.now in
    by_answers names cs c.args.fresh of false true true (list_any (is_illegal names cs) of)
    (sym c.any_unbound.ensures ∙ c.if-any_unbound.false) (sym c.is_unbound.ensures ∙ c.if-not-is_unbound.false)
    (sym c.any_composite.ensures ∙ c.if-any_composite.true) refl

pub returns-then-any_illegal : goal.returns-then-any_illegal
returns-then-any_illegal c =
    let names = c.args.names.now in let cs = c.args.counts.now in let of = c.args.of.now in
    by_answers names cs c.args.fresh of false true false true
    (sym c.any_unbound.ensures ∙ c.if-any_unbound.false) (sym c.is_unbound.ensures ∙ c.if-not-is_unbound.false)
    (sym c.any_composite.ensures ∙ c.if-any_composite.false) (sym c.any_illegal.ensures ∙ c.if-any_illegal.true)

pub returns : goal.returns
returns c =
    let names = c.args.names.now in let cs = c.args.counts.now in let of = c.args.of.now in
    by_answers names cs c.args.fresh of false true false false
    (sym c.any_unbound.ensures ∙ c.if-any_unbound.false) (sym c.is_unbound.ensures ∙ c.if-not-is_unbound.false)
    (sym c.any_composite.ensures ∙ c.if-any_composite.false) (sym c.any_illegal.ensures ∙ c.if-any_illegal.false)
