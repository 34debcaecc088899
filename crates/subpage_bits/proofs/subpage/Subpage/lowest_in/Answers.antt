use Rattle.std.proofs.Common.{◌∙◌, length, sym, ap, arith, eq-eqb}
use Rattle.std.specs.Prelude.{◌≢◌, not, position}
use Rattle.size_classes.specs.Elements.{is_full}
use Rattle.subpage_bits.specs.Elements.{SharedRun}
use Rattle.subpage_bits.specs.Kept.{outs}
use Rattle.subpage_bits.proofs.Flags.{full-counted, full-none, chosen-lowest}
use Rattle.subpage_bits.proofs.subpage.Subpage.lowest_in.Goals as goal

pub lowest_clear-requires : goal.lowest_clear-requires
lowest_clear-requires c = omega (arith, c.self.invariant.words)

pub returns-then-is_full : goal.returns-then-is_full
returns-then-is_full c =
    sym (full-none c.args.self.now.elements.out (sym c.is_full.ensures ∙ c.if-is_full.true))

pub returns-else-is_full : goal.returns-else-is_full
returns-else-is_full c =
    let s = c.self.inside in
    let cells = s.rack.cells in
    let not_full = full-counted cells ∙ ap (λ (r : SharedRun). is_full r.elements) c.self.view_is
    ∙ sym c.is_full.ensures ∙ c.if-is_full.false in
    let some : outs cells ≢ length cells = λ e. cc (eq-eqb (outs cells) (length cells) e, not_full) in
    chosen-lowest c.lowest_clear.result s.out cells c.self.invariant.bits some
    (omega (arith, c.self.invariant.count.0, c.self.invariant.count.1, c.self.invariant.words)) c.lowest_clear.ensures
    ∙ ap (λ (r : SharedRun). position not r.elements.out) c.self.view_is
