use Rattle.std.proofs.Common.{◌≡◌, ℕ, ◌/◌, ◌≤◌, Bool, List, length, get_or, refl, sym, ap, ◌∙◌, arith}
use Rattle.std.specs.Prelude.{map, None, false}
use Rattle.ground.specs.Rack.{Cell, Racked}
use Rattle.subpage_bits.specs.Kept.{cell_out, outs, bit}
use Rattle.subpage_bits.proofs.Flags.{flags_new, length-cells, outs-new, zero-bits, clear-flags}
use Rattle.subpage_bits.proofs.subpage.Subpage.of.Goals as goal

pub invariant_of-result : goal.invariant_of-result
invariant_of-result c =
    let n = c.args.size in
    let k = length c.args.run.bytes / n in
    let counted : c.len.result / n ≡ k = ap (λ (m : ℕ). m / n) c.len.ensures.len in
    let cells = ap (λ (r : Racked). r.cells) c.of.ensures in
    let few : c.len.result / n ≤ 2048 = omega (arith, counted, c.requires.few) in
    record {
      words = refl;
      bits = λ i less. zero-bits 32 i
          ∙ sym (ap bit (ap (λ (cs : List Cell). get_or (map cell_out cs) i false) cells
          ∙ ap (λ (l : List Bool). get_or l i false) (flags_new n k c.args.run.bytes) ∙ clear-flags k i));
      count = (counted ∙ sym (ap length cells ∙ length-cells n k c.args.run.bytes), few);
      out_count = sym (ap outs cells ∙ outs-new n k c.args.run.bytes);
      remembered = tt;
    }

pub returns : goal.returns
returns c =
    let n = c.args.size in
    let k = length c.args.run.bytes / n in
    ap (λ (r : Racked). record {
      origin = r.origin;
      start = r.start;
      size = r.each;
      elements =
          record { out = map cell_out r.cells; remembered = None };
    }) c.of.ensures
    ∙ ap (λ (l : List Bool). record {
      origin = c.args.run.origin;
      start = c.args.run.start;
      size = n;
      elements =
          record { out = l; remembered = None };
    }) (flags_new n k c.args.run.bytes)
