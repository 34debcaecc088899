use Rattle.std.proofs.Common.{◌≡◌, ℕ, ◌+◌, ◌≤◌, List, [], sym, ap, ◌∙◌, subst, Option, Some}
use Rattle.std.specs.Prelude.{All}
use Rattle.std.proofs.lemmas.List.Elements.{All-cons, All-nil}
use Rattle.pool_law.specs.declared.id.Part.{Part}
use Rattle.pool_law.specs.declared.id.RootId.{RootId}
use Rattle.pool_law.specs.declared.id.ViewData.{ViewData}
use Rattle.pool_law.specs.Composites.{readable}
use Rattle.pool_law.specs.Names.{Bound, Plain}
use Rattle.pool_law.specs.Views.{LiesIn}
use Rattle.lane_plans.specs.Compositions.{readable_at, readable_in}
use Rattle.lane_context.specs.Named.{AreInside, IsInRoot, bound_at, bound_of}
use Rattle.lane_context.specs.declared.bound.Bound.{Bound as HeldBound}
use Rattle.lane_plans.proofs.composing.push_readable.Goals as goal

-- what can be read of a view lies in what is known of its root, as the view does
inside_so : (names : List (Option Bound)) (name : ℕ) (v : ViewData) (p : Part)
    → bound_at names name ≡ Some (Plain v) → p ≡ readable v
    → ((capacity : ℕ) → LiesIn capacity v → p.offset + p.len ≤ capacity) → (known : RootId → ℕ) → AreInside known names
    → All (IsInRoot known) (readable_at names name)
inside_so names name v p is part within known are =
    subst (λ (o : Option Bound). All (IsInRoot known) (readable_in o)) (sym is)
    (All-cons (IsInRoot known) (readable v) []
    (subst (λ (x : Part). x.offset + x.len ≤ known v.root) part
    (within (known v.root) (are.each name (Plain v) is))) (All-nil (IsInRoot known)))

pub returns-in-Some-Plain-clause-inside : goal.returns-in-Some-Plain-clause-inside
returns-in-Some-Plain-clause-inside c =
    let w = c.in-Some-Plain in
    inside_so c.args.names.now c.args.name w.view.at c.readable.result
    (w.ensures.bound ∙ ap (λ (b : HeldBound). Some (bound_of b)) w.field-0-is) c.readable.ensures.part
    c.readable.ensures.inside
