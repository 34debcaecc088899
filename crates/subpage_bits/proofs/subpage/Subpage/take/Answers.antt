use Rattle.std.proofs.Common.{◌≡◌, ℕ, ◌+◌, ◌<◌, Bool, true, false, List, length, refl, sym, ap, ◌∙◌, subst, arith, ◌≤◌, ◌^◌, Fits-le, Fits-lit}
use Rattle.std.specs.Prelude.{map, Some, None, Option}
use Rattle.ground.specs.Rack.{Racked, Cell}
use Rattle.size_classes.specs.Elements.{next_element, is_full}
use Rattle.subpage_bits.specs.Elements.{SharedRun, IsElementOf, IsElementOut, KeepsOut, taken}
use Rattle.subpage_bits.specs.Kept.{cell_out, IsIn, RemembersIn, AreBits, outs, shared_in}
use Rattle.subpage_bits.proofs.Flags.{flags_out, in_cell, in_within, next_in, none_next, some_next, length-with, outs-most, length-flags, outs-taken, AreBits-changed, KeepsOut-taken, out-taken}
use Rattle.subpage_bits.proofs.subpage.Subpage.take.Goals as goal

handed : (o : Option ℕ) (i : ℕ) (cs : List Cell) (e v : SharedRun) (r : Option ℕ) → RemembersIn o cs → e ≡ v
    → e.elements ≡ record { out = map cell_out cs; remembered = o } → r ≡ next_element v.elements → r ≡ Some i
    → IsIn i cs
handed o i cs e v r h same l c is =
    next_in o i cs h (ap next_element (sym l) ∙ ap (λ (x : SharedRun). next_element x.elements) same ∙ sym c ∙ is)

pub pull-piece-requires : goal.pull-piece-requires
pull-piece-requires c =
    let s = c.self.inside in
    in_cell c.in-Some.i s.rack.cells
    (handed s.remembered c.in-Some.i s.rack.cells (shared_in s) c.args.self.now c.choose.result
    c.self.invariant.remembered c.self.view_is refl c.choose.ensures c.in-Some.is)

pub set-requires : goal.set-requires
set-requires c =
    let s = c.self.inside in
    let is = handed s.remembered c.in-Some.i s.rack.cells (shared_in s) c.args.self.now c.choose.result
    c.self.invariant.remembered c.self.view_is refl c.choose.ensures c.in-Some.is in
    omega (
      arith,
      in_within c.in-Some.i s.rack.cells is,
      c.self.invariant.count.0,
      c.self.invariant.count.1,
      c.self.invariant.words,
    )

pub invariant_of-self : goal.invariant_of-self
invariant_of-self c =
    let s = c.self.inside in
    let i = c.in-Some.i in
    let is = handed s.remembered i s.rack.cells (shared_in s) c.args.self.now c.choose.result
    c.self.invariant.remembered c.self.view_is refl c.choose.ensures c.in-Some.is in
    let cells = ap (λ (r : Racked). r.cells) c.pull-piece.ensures.rack in
    let within = in_within i s.rack.cells is in
    let bits = AreBits-changed s.out c.set.new.words (map cell_out s.rack.cells) i true c.self.invariant.bits
    c.set.ensures (omega (arith, within, length-flags s.rack.cells)) in
    let B : List Bool → Type 0 = λ l. AreBits c.set.new.words l in
    record {
      words = c.set.ensures.length ∙ c.self.invariant.words;
      bits = subst B (flags_out i s.rack.cells ∙ sym (ap (map cell_out) cells)) bits;
      count = (
        c.self.invariant.count.0 ∙ sym (ap length cells ∙ length-with i None s.rack.cells),
        c.self.invariant.count.1,
      );
      out_count = ap (λ (n : ℕ). n + 1) c.self.invariant.out_count ∙ sym (ap outs cells ∙ outs-taken i s.rack.cells is);
      remembered = tt;
    }

pub returns-in-Some-clause-some : goal.returns-in-Some-clause-some
returns-in-Some-clause-some c =
    let s = c.self.inside in
    let i = c.in-Some.i in
    let P : SharedRun → Type 0 = λ e. IsElementOf e i c.pull-piece.result in
    let at = c.pull-piece.ensures.place in
    record {
      next = sym c.choose.ensures ∙ c.in-Some.is;
      piece = subst P c.self.view_is (record { origin = at.0; start = at.1; size = at.2 });
      rest =
          ap (λ (r : Racked). shared_in (record s { rack = r; remembered = None })) c.pull-piece.ensures.rack
          ∙ ap (λ (l : List Bool). record (shared_in s) { elements = record { out = l; remembered = None } })
          (sym (flags_out i s.rack.cells))
          ∙ ap (λ (e : SharedRun). taken e i) c.self.view_is;
    }

pub returns-in-None-clause-full : goal.returns-in-None-clause-full
returns-in-None-clause-full c =
    let s = c.self.inside in
    let P : SharedRun → Type 0 = λ v. next_element v.elements ≡ None → is_full v.elements ≡ true in
    let full = subst P c.self.view_is (none_next s.remembered s.rack.cells) (sym c.choose.ensures ∙ c.in-None.is) in
    (λ _. full, λ _. refl)

pub returns-in-Some-clause-full : goal.returns-in-Some-clause-full
returns-in-Some-clause-full c =
    let s = c.self.inside in
    let i = c.in-Some.i in
    let P : SharedRun → Type 0 = λ v. next_element v.elements ≡ Some i → is_full v.elements ≡ false in
    let some = subst P c.self.view_is (some_next s.remembered i s.rack.cells c.self.invariant.remembered)
    (sym c.choose.ensures ∙ c.in-Some.is) in
    (λ e. absurd (cc e), λ full. absurd (cc (full, some)))

pub returns-in-Some-clause-out : goal.returns-in-Some-clause-out
returns-in-Some-clause-out c =
    let s = c.self.inside in
    let i = c.in-Some.i in
    let hands = returns-in-Some-clause-some c in
    let is = handed s.remembered i s.rack.cells (shared_in s) c.args.self.now c.choose.result
    c.self.invariant.remembered c.self.view_is refl c.choose.ensures c.in-Some.is in
    let L : SharedRun → Type 0 = λ r. i < length r.elements.out in
    let there = subst L c.self.view_is (omega (arith, in_within i s.rack.cells is, length-flags s.rack.cells)) in
    let O : SharedRun → Type 0 = λ after. IsElementOut after i c.pull-piece.result in
    subst O (sym hands.rest) (out-taken c.args.self.now i c.pull-piece.result there hands.piece)

pub returns-in-Some-clause-kept : goal.returns-in-Some-clause-kept
returns-in-Some-clause-kept c =
    let K : SharedRun → Type 0 = λ after. KeepsOut c.args.self.now after in
    subst K (sym (returns-in-Some-clause-some c).rest) (KeepsOut-taken c.args.self.now c.in-Some.i)

pub overflow_add-self : goal.overflow_add-self
overflow_add-self c =
    let s = c.self.inside in
    let h = c.self.invariant in
    let small : s.out_count + 1 ≤ 2 ^ 31 =
    omega (arith, h.out_count, h.count.0, h.count.1, outs-most s.rack.cells) in
    Fits-le small (Fits-lit tt)
