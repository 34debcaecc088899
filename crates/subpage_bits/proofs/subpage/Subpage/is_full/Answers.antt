use Rattle.std.proofs.Common.{ℕ, ap, ap₂, ◌∙◌}
use Rattle.std.specs.Prelude.{◌==◌}
use Rattle.size_classes.specs.Elements.{is_full}
use Rattle.subpage_bits.specs.Elements.{SharedRun}
use Rattle.subpage_bits.proofs.Flags.{full-counted}
use Rattle.subpage_bits.proofs.subpage.Subpage.is_full.Goals as goal

pub returns : goal.returns
returns c =
    let s = c.self.inside in
    ap₂ (λ (m n : ℕ). m == n) c.self.invariant.out_count c.self.invariant.count.0
    ∙ full-counted s.rack.cells
    ∙ ap (λ (r : SharedRun). is_full r.elements) c.self.view_is
