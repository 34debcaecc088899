use Rattle.std.proofs.Common.{◌≡◌, ◌-◌, List, ℕ, length, arith, ap, ◌∙◌}
use Rattle.std.specs.Prelude.{Option, unwrap_or, slice_get}
use Rattle.pool_law.specs.Composites.{size_of}
use Rattle.composite_buf.proofs.MapLaws.{same_size}
use Rattle.composite_buf.proofs.EndLaws.{last_end}
use Rattle.composite_buf.proofs.composite.Composite.len.Goals as goal

pub returns : goal.returns
returns c =
    let size : c.unwrap_or.result ≡ size_of c.args.self.now =
    c.unwrap_or.ensures
    ∙ ap (λ (o : Option ℕ). unwrap_or o 0)
    (c.copied.ensures
    ∙ c.last.ensures.value
    ∙ ap (λ (es : List ℕ). slice_get es (length es - 1)) (c.deref.ensures.value ∙ c.self.invariant.ends))
    ∙ last_end c.self.inside.parts.items
    ∙ same_size c.self.inside.parts.items c.args.self.now c.self.view_is in
    let all : size_of c.self.inside.parts.items ≡ size_of c.args.self.now =
    same_size c.self.inside.parts.items c.args.self.now c.self.view_is in
    record {
      size = size;
      bound = omega (arith, size, c.self.invariant.size, all);
    }
