use Rattle.std.proofs.Common.{◌≡◌, Bool, Option, Some, sym, ap, ◌∙◌}
use Rattle.std.specs.Prelude.{not}
use Rattle.pool_law.specs.Composites.{Composite}
use Rattle.pool_law.specs.Names.{Bound, Composed, is_usable, passes}
use Rattle.lane_plans.specs.Compositions.{counts_in}
use Rattle.lane_context.specs.Named.{bound_at}
use Rattle.lane_plans.proofs.CompositionTests.{usable_so}
use Rattle.lane_plans.proofs.refusing.is_illegal.Goals as goal

pub returns-in-Some-Composed : goal.returns-in-Some-Composed
returns-in-Some-Composed c =
    let cs = c.args.counts.now in
    let w = c.in-Some-Composed in
    let whole : Composite = c.deref.result.now in
    let there : bound_at c.args.names.now c.args.name ≡ Some (Composed whole) =
    (rw w.field-0-is at w.ensures.bound) ∙ ap (λ (x : Composite). Some (Composed x)) (sym c.deref.ensures) in
    ap (λ (b : Bool). not b) (usable_so cs whole c.is_usable.result c.is_usable.ensures)
    ∙ ap (λ (o : Option Bound). passes (λ b. not (is_usable (counts_in cs) b)) o) (sym there)
