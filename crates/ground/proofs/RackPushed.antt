-- A rack with an element put back.
use Rattle.std.proofs.Common.{◌≡◌, ℕ, ◌+◌, ◌-◌, ◌*◌, ◌/◌, ◌<◌, List, length, sym, ap, ap₂, ◌∙◌, subst, arith, mul-div_cancel}
use Rattle.std.specs.Prelude.{Option, Some, None}
use denote.RawPtr.{Ptr, block_ptr, null_ptr, count_of, block_of, ◌+ₚ◌}
use Rattle.ground.specs.Ownership.{IsPlaced}
use Rattle.ground.specs.Rack.{with_cell, HasCell, with_element}
use Rattle.ground.specs.Racks.{rack_of, IsRack}
use Rattle.ground.specs.declared.raw_rack.RawRack.{RawRack}
use Rattle.ground.specs.declared.rack.Rack.TheInside.{Inside}
use Rattle.ground.proofs.RackLaws.{length-with_cell, fits_with}
use Rattle.ground.proofs.RackPulled.{opened, null_not_placed}

pub index_of : (start from i each : ℕ) → start ≡ from + i * each → 0 < each → (start - from) / each ≡ i
index_of start from i each e some =
    let far : start - from ≡ i * each = omega (arith, e) in
    ap (λ (m : ℕ). m / each) far ∙ mul-div_cancel i some

pub at_pointer : (p q : Ptr) (k : ℕ) → IsPlaced p → IsPlaced q → block_of p ≡ block_of q → count_of p ≡ count_of q + k
    → p ≡ (q +ₚ k)
at_pointer null_ptr q k hp hq b c = absurd (null_not_placed hp)
at_pointer (block_ptr x o) null_ptr k hp hq b c = absurd (null_not_placed hq)
at_pointer (block_ptr x o) (block_ptr y u) k hp hq b c = ap₂ block_ptr b c

pub rack_with : (r : Inside) (sh sh' : RawRack) (now : Option RawRack) (i : ℕ) (b : List ℕ) → IsRack r
    → r.raw_rack ≡ Some sh → HasCell i None sh.cells
    → now ≡ Some sh' → sh' ≡ record sh { cells = with_cell i (Some b) sh.cells } → length b ≡ r.each
    → IsRack (record r { raw_rack = now })
rack_with r sh sh' now i b is e h n s long =
    let P : Option RawRack → Type 0 = λ x. IsRack (record r { raw_rack = x }) in
    let o = opened r sh is e in
    let many = length-with_cell i (Some b) sh.cells in
    subst P (sym (n ∙ ap (λ (x : RawRack). Some x) s)) (record {
      raw_rack = o.raw_rack;
      placed = o.placed;
      above = o.above;
      some = o.some;
      filled = (omega (arith, many, o.filled.0), ap (λ (m : ℕ). m * r.each) many ∙ o.filled.1);
      fits = fits_with r.each i b sh.cells long h o.fits;
      within = o.within;
      small = o.small;
    })

pub view_with : (r : Inside) (sh sh' : RawRack) (now : Option RawRack) (j i : ℕ) (b bs : List ℕ) → r.raw_rack ≡ Some sh
    → now ≡ Some sh' → sh' ≡ record sh { cells = with_cell j (Some b) sh.cells } → j ≡ i → b ≡ bs
    → rack_of (record r { raw_rack = now }) ≡ with_element (rack_of r) i bs
view_with r sh sh' now j i b bs e n s at same =
    ap (λ (x : Option RawRack). rack_of (record r { raw_rack = x })) (n ∙ ap (λ (x : RawRack). Some x) s)
    ∙ ap₂ (λ (k : ℕ) (y : List ℕ). rack_of
    (record r { raw_rack = Some (record sh { cells = with_cell k (Some y) sh.cells }) })) at same
    ∙ ap (λ (x : Option RawRack). with_element (rack_of (record r { raw_rack = x })) i bs) (sym e)
