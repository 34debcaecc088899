use Rattle.std.proofs.Common.{◌≡◌, ℕ, ◌-◌, Bool, false, List, length, sym, ap, ◌∙◌, subst, arith}
use Rattle.std.specs.Prelude.{map, Some}
use Rattle.ground.specs.Ground.{Segment}
use Rattle.ground.specs.Rack.{Racked, Cell}
use Rattle.subpage_bits.specs.Elements.{SharedRun, IsElementOf, given, KeepsOutBut}
use Rattle.subpage_bits.specs.Kept.{cell_out, IsIn, AreBits, outs, shared_in}
use Rattle.subpage_bits.proofs.Flags.{IsOutAt, flags_in, out_cell, out_within, length-flags, now_in, length-with, outs-given, AreBits-changed, KeepsOut-given}
use Rattle.subpage_bits.proofs.subpage.Subpage.give.Goals as goal

asked : (e v : SharedRun) (i : ℕ) (s : Segment) → e ≡ v → IsElementOf v i s → IsOutAt i v.elements.out →
    IsElementOf e i s × IsOutAt i e.elements.out
asked e v i s same element out =
    let P : SharedRun → Type 0 = λ x. IsElementOf x i s × IsOutAt i x.elements.out in subst P (sym same) (element, out)

pub push-requires : goal.push-requires
push-requires c =
    let h = asked (shared_in c.self.inside) c.args.self.now c.args.i c.args.piece c.self.view_is c.requires.element
    c.requires.out in
    (c.args.i, (h.0.origin, h.0.start, h.0.size), out_cell c.args.i c.self.inside.rack.cells h.1)

pub clear-requires : goal.clear-requires
clear-requires c =
    let s = c.self.inside in
    let h = asked (shared_in s) c.args.self.now c.args.i c.args.piece c.self.view_is c.requires.element
    c.requires.out in
    omega (
      arith,
      out_within c.args.i (map cell_out s.rack.cells) h.1,
      length-flags s.rack.cells,
      c.self.invariant.count.0,
      c.self.invariant.count.1,
      c.self.invariant.words,
    )

pub invariant_of-self : goal.invariant_of-self
invariant_of-self c =
    let s = c.self.inside in
    let i = c.args.i in
    let h = asked (shared_in s) c.args.self.now i c.args.piece c.self.view_is c.requires.element c.requires.out in
    let back = c.push.ensures i (h.0.origin, h.0.start, h.0.size) in
    let cells = ap (λ (r : Racked). r.cells) back in
    let within = out_within i (map cell_out s.rack.cells) h.1 in
    let I : List Cell → Type 0 = λ cs. IsIn i cs in
    let bytes = c.args.piece.bytes in
    let bits = AreBits-changed s.out c.clear.new.words (map cell_out s.rack.cells) i false c.self.invariant.bits
    c.clear.ensures within in
    let B : List Bool → Type 0 = λ l. AreBits c.clear.new.words l in
    record {
      words = c.clear.ensures.length ∙ c.self.invariant.words;
      bits = subst B (flags_in i bytes s.rack.cells ∙ sym (ap (map cell_out) cells)) bits;
      count = (
        c.self.invariant.count.0 ∙ sym (ap length cells ∙ length-with i (Some bytes) s.rack.cells),
        c.self.invariant.count.1,
      );
      out_count =
          ap (λ (n : ℕ). n - 1) (c.self.invariant.out_count
          ∙ sym (outs-given i bytes s.rack.cells (out_cell i s.rack.cells h.1)))
          ∙ omega arith ∙ sym (ap outs cells);
      remembered = subst I (sym cells) (now_in i bytes s.rack.cells (omega (arith, within, length-flags s.rack.cells)));
    }

pub returns-clause-back : goal.returns-clause-back
returns-clause-back c =
    let s = c.self.inside in
    let i = c.args.i in
    let h = asked (shared_in s) c.args.self.now i c.args.piece c.self.view_is c.requires.element c.requires.out in
    let back = c.push.ensures i (h.0.origin, h.0.start, h.0.size) in
    ap (λ (r : Racked). shared_in (record s { rack = r; remembered = Some i })) back
    ∙ ap (λ (l : List Bool). record (shared_in s) { elements = record { out = l; remembered = Some i } })
    (sym (flags_in i c.args.piece.bytes s.rack.cells))
    ∙ ap (λ (e : SharedRun). given e i) c.self.view_is

pub returns-clause-kept : goal.returns-clause-kept
returns-clause-kept c =
    let K : SharedRun → Type 0 = λ after. KeepsOutBut c.args.i c.args.self.now after in
    subst K (sym (returns-clause-back c)) (KeepsOut-given c.args.self.now c.args.i)

pub overflow_sub-self : goal.overflow_sub-self
overflow_sub-self c =
    let s = c.self.inside in
    let h = asked (shared_in s) c.args.self.now c.args.i c.args.piece c.self.view_is c.requires.element
    c.requires.out in
    let one = outs-given c.args.i c.args.piece.bytes s.rack.cells (out_cell c.args.i s.rack.cells h.1) in
    omega (arith, one, c.self.invariant.out_count)
