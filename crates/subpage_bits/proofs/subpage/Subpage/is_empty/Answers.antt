use Rattle.std.proofs.Common.{ℕ, ap, ◌∙◌}
use Rattle.std.specs.Prelude.{◌==◌}
use Rattle.size_classes.specs.Elements.{is_idle}
use Rattle.subpage_bits.specs.Elements.{SharedRun}
use Rattle.subpage_bits.proofs.Flags.{idle-counted}
use Rattle.subpage_bits.proofs.subpage.Subpage.is_empty.Goals as goal

pub returns : goal.returns
returns c =
    let s = c.self.inside in
    ap (λ (m : ℕ). m == 0) c.self.invariant.out_count
    ∙ idle-counted s.rack.cells
    ∙ ap (λ (r : SharedRun). is_idle r.elements) c.self.view_is
