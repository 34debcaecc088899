use Rattle.std.proofs.Common.{◌≡◌, ◌^◌, ◌<◌, ◌≤◌, sym, ne_eqb, arith, ◌∙◌, le-ltb}
use Rattle.std.specs.Prelude.{◌==◌, false}
use Rattle.size_classes.specs.Sizes.{size_at}
use Rattle.object_steps.proofs.SizeLemmas.{size_at-great}
use Rattle.object_steps.proofs.sizes.has_size.Goals as goal

pub returns-else-class-lt-SIZED_CLASSES : goal.returns-else-class-lt-SIZED_CLASSES
returns-else-class-lt-SIZED_CLASSES c =
    let great : 2 ^ 33 ≤ size_at c.args.class = size_at-great c.args.class c.if-class-lt-SIZED_CLASSES.false in
    let few : c.args.len < 2 ^ 32 = search (arith, c.ranges.len) in
    let other : (c.args.len == size_at c.args.class)
    ≡ false = ne_eqb c.args.len (size_at c.args.class) (λ e. omega (arith, e, great, few)) in
    le-ltb c.args.class 112 c.if-class-lt-SIZED_CLASSES.false ∙ sym other
