use Rattle.std.proofs.Common.{◌≡◌, ◌<◌, ◌≤◌, List, Some, length, refl, ap, ◌∙◌, arith}
use Rattle.size_classes.specs.Sizes.{class_of}
use Rattle.pool_law.specs.declared.id.Part.{Part}
use Rattle.pool_law.specs.Composites.{Composite, filled, most_bytes, most_parts, size_of}
use Rattle.pool_law.specs.Limits.{geometry_of}
use Rattle.lane_plans.specs.Compositions.{joined}
use Rattle.lane_context.specs.Named.{known_to}
use Rattle.lane_plans.proofs.CompositionLaws.{has_class, is_consolidation, is_crowded_so}
use Rattle.lane_plans.proofs.composing.made.Goals as goal

pub returns : goal.returns
returns c =
    let d = c.args.context.now in
    let parts : List Part = c.args.parts.items in
    let whole : Composite = joined parts c.args.count c.args.reader in
    let total : c.total_of-total.result ≡ size_of parts = cc (c.total_of-total.ensures, c.deref.ensures.value) in
    let least : size_of parts ≤ most_bytes = omega (arith, total, c.if-total-gt-MOST_BYTES.false) in
    let many : most_parts < length parts = omega (arith, c.len.ensures, c.if-len-le-MOST_PARTS.false) in
    let class : class_of (geometry_of d.shape) (size_of parts) ≡ Some c.in-Some.class =
    cc (c.in-Some.ensures.class, total, c.requires.classes) in
    let listed : c.of-parts.result ≡ parts = c.of-parts.ensures in
    let made : c.in_ok-whole-2.whole.value ≡ whole =
    c.in_ok-whole-2.ensures {u = tt}
    ∙ (λ i. record { parts = listed i; count = c.args.count; reader = c.args.reader; writer = total i }) in
    let bytes = c.in_ok-transfers.ensures {u = tt} in (
      refl,
      made,
      has_class d.shape whole c.in-Some.class least many class,
      is_crowded_so d.shape whole many,
      is_consolidation (known_to d.seat) d.shape d.counts parts _ c.requires.may.parts total class
          (ap (λ (c : Composite). c.parts) made) (c.into_items.ensures ∙ listed)
          (bytes.parts ∙ ap (λ (ps : List Part). filled ps) (c.items.ensures ∙ listed)) bytes.bytes,
    )
