use Rattle.std.proofs.Common.{◌≡◌, sym, ap, ◌∙◌, subst, get_or, List, Option, Some, None}
use Rattle.std.specs.Prelude.{option_map, slice_set}
use Rattle.std.proofs.lemmas.List.{map-set}
use Rattle.pool_law.specs.Composites.{Composite}
use Rattle.pool_law.specs.Names.{Bound, Plain, Composed}
use Rattle.lane_context.specs.declared.bound.Bound.{Bound as HeldBound}
use Rattle.lane_context.specs.declared.bound.Bound.TheVariants.{Composed as HeldComposite}
use Rattle.std.specs.Box.{with_value}
use Rattle.lane_context.specs.Named.{bound_of, bound_at}
use Rattle.lane_context.proofs.NameLaws.{bound_of_item}
use Rattle.lane_context.proofs.names.Names.recount.Goals as goal

-- the composite that is bound, or this
abbrev composite_or : Composite → Option Bound → Composite
composite_or c (Some (Composed other)) = other
composite_or c (Some (Plain v)) = c
composite_or c None = c

pub returns : goal.returns
returns c = λ before is.
    let items = c.self.inside.bound.items in let name = c.args.name in let item = c.index_mut.result.now in
    let here : option_map bound_of (get_or items name item) ≡ Some (Composed before) =
    bound_of_item items name item before
    (subst (λ (names : List (Option Bound)). bound_at names name ≡ Some (Composed before)) (sym c.self.view_is) is) in
    let found : item ≡ Some (HeldComposite c.in-Some-Composed.composed) =
    c.in-Some-Composed.is ∙ ap (λ (b : HeldBound). Some b) c.in-Some-Composed.field-0-is in
    let same : c.in-Some-Composed.composed.value ≡ before =
    ap (composite_or before)
    (ap (option_map bound_of) (sym found ∙ c.index_mut.ensures.value) ∙ here) in
    map-set (option_map bound_of) items name
    (Some (HeldComposite (with_value c.in-Some-Composed.composed c.recount.new.self)))
    ∙ ap (λ names. slice_set names name (Some (Composed c.recount.new.self))) c.self.view_is
    ∙ ap (λ (k : Composite). slice_set c.args.self.now name (Some (Composed k)))
    (c.recount.ensures ∙ ap (λ (k : Composite). record k { count = c.args.count })
    (c.deref_mut.ensures.value ∙ same))
