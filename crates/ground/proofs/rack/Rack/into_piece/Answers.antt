-- Where all elements are in, their bytes are those of one piece.
use Rattle.std.proofs.Common.{◌≡◌, ℕ, ◌*◌, List, length, sym, ap, ap₂, ◌∙◌, arith, subst, mul-lt-mul_of_pos_right}
use Rattle.std.specs.Prelude.{Option, Some}
use Rattle.ground.specs.Rack.{Cell, AllIn, bytes_of, Racked}
use Rattle.ground.specs.Racks.{cells_in, Fits, IsRack}
use Rattle.ground.specs.Ownership.{AreAllIn}
use Rattle.ground.specs.declared.rack.Rack.TheInside.{Inside}
use Rattle.ground.specs.declared.raw_rack.RawRack.{RawRack}
use Rattle.ground.proofs.RackLaws.{all_in_bytes, all_in_bytes_are, first_in}
use Rattle.ground.proofs.RackPulled.{opened}
use Rattle.ground.proofs.rack.Rack.into_piece.Goals as goal

pub whole-requires : goal.whole-requires
whole-requires c =
    let r = c.self.inside in
    let sh = c.in-Some.raw_rack in
    let o = opened r sh c.self.invariant c.in-Some.is in
    let P : Racked → Type 0 = λ v. AllIn v.cells in
    let C : Option RawRack → Type 0 = λ x. AllIn (cells_in x) in
    let F : ℕ → Type 0 = λ n. Fits n sh.cells in
    let L : List Cell → Type 0 = λ x. AllIn x in
    first_in sh.each sh.cells o.filled.0 (subst C c.in-Some.is (subst P (sym c.self.view_is) c.requires))
    (subst F (sym o.raw_rack.2) o.fits)

-- the bytes of all elements are as many as the rack has
whole_long : (r : Inside) (sh : RawRack) (bs : List ℕ) → IsRack r → r.raw_rack ≡ Some sh → AreAllIn sh.each sh.cells bs
    → length bs ≡ r.len
whole_long r sh bs is e all =
    let o = opened r sh is e in
    all_in_bytes sh.each sh.cells bs all ∙ ap (λ (k : ℕ). length sh.cells * k) o.raw_rack.2 ∙ o.filled.1

pub invariant_of-result : goal.invariant_of-result
invariant_of-result c =
    let r = c.self.inside in
    let sh = c.in-Some.raw_rack in
    let o = opened r sh c.self.invariant c.in-Some.is in
    let raw = c.parts-raw_bytes in
    let long = whole_long r sh c.whole.result.items c.self.invariant c.in-Some.is c.whole.ensures.0 in
    let product = mul-lt-mul_of_pos_right {m = 0} {n = length sh.cells} {k = r.each} o.filled.0 o.some in
    let size : sh.size ≡ raw.result.1.size = sym (raw.ensures.5 ∙ c.whole.ensures.5) in
    record {
      placed = o.placed;
      there = (raw.ensures.0 ∙ c.whole.ensures.1 ∙ o.raw_rack.0, ap length raw.ensures.1 ∙ long);
      some = omega (arith, product, o.filled.1);
      claimed = (
        raw.ensures.3 ∙ c.whole.ensures.3 ∙ o.raw_rack.1,
        raw.ensures.4 ∙ c.whole.ensures.4 ∙ ap (λ (k : ℕ). length sh.cells * k) o.raw_rack.2 ∙ o.filled.1,
      );
      within = omega (arith, size, o.within);
      above = o.above;
      small = omega (arith, size, o.small);
    }

pub returns-clause-bytes : goal.returns-clause-bytes
returns-clause-bytes c =
    let sh = c.in-Some.raw_rack in
    c.parts-raw_bytes.ensures.1
    ∙ all_in_bytes_are sh.each sh.cells c.whole.result.items c.whole.ensures.0
    ∙ ap (λ (x : Option RawRack). bytes_of (cells_in x)) (sym c.in-Some.is)
    ∙ ap (λ (v : Racked). bytes_of v.cells) c.self.view_is

pub returns-clause-len : goal.returns-clause-len
returns-clause-len c =
    let sh = c.in-Some.raw_rack in
    ap length c.parts-raw_bytes.ensures.1 ∙ all_in_bytes sh.each sh.cells c.whole.result.items c.whole.ensures.0
    ∙ ap₂ (λ (x : Option RawRack) (k : ℕ). length (cells_in x) * k) (sym c.in-Some.is)
    (opened c.self.inside sh c.self.invariant c.in-Some.is).raw_rack.2
    ∙ ap (λ (v : Racked). length v.cells * v.each) c.self.view_is
