use Rattle.std.proofs.Common.{sym, ap, ◌∙◌}
use Rattle.size_classes.specs.Sizes.{class_of}
use Rattle.frame_cut.proofs.openings.class_for.Goals as goal

pub returns : goal.returns
returns c = ap (λ g. class_of g c.args.block) (sym c.in_ok-sizes.ensures) ∙ sym c.in-Some.ensures.class
