-- A rack less an element, and the element.
use Rattle.std.proofs.Common.{◌≡◌, ℕ, suc, ◌+◌, ◌-◌, ◌*◌, ◌^◌, ◌<◌, ◌≤◌, List, length, refl, sym, ap, ap₂, ◌∙◌, subst, arith, mul-le-mul_right}
use Rattle.std.specs.Prelude.{Option, Some, None}
use denote.RawPtr.{Ptr, block_ptr, null_ptr, block_of, count_of, ◌+ₚ◌}
use Rattle.ground.specs.Ownership.{IsPlaced}
use Rattle.ground.specs.Rack.{with_cell, HasCell, Racked, IsElement}
use Rattle.ground.specs.Racks.{name_in, size_in, rack_of, IsRack}
use Rattle.ground.specs.Ground.{Origin}
use Rattle.ground.specs.Pieces.{segment_of, IsPiece}
use Rattle.ground.specs.declared.raw_rack.RawRack.{RawRack}
use Rattle.ground.specs.declared.claim.Claim.{Claim}
use Rattle.ground.specs.declared.raw_bytes.RawBytes.{RawBytes}
use Rattle.ground.specs.declared.rack.Rack.TheInside.{Inside}
use Rattle.ground.proofs.RackLaws.{length-with_cell, cell_within, cell_fits, fits_without}

pub opened : (r : Inside) (sh : RawRack) → IsRack r → r.raw_rack ≡ Some sh → IsRack (record r { raw_rack = Some sh })
opened r sh is e = let P : Option RawRack → Type 0 = λ o. IsRack (record r { raw_rack = o }) in subst P e is

left_over : (r : Inside) (sh : RawRack) (i : ℕ) (bs : List ℕ) → IsRack r → r.raw_rack ≡ Some sh
    → HasCell i (Some bs) sh.cells
    → IsRack (record r { raw_rack = Some (record sh { cells = with_cell i None sh.cells }) })
left_over r sh i bs is e h =
    let o = opened r sh is e in
    let many = length-with_cell i None sh.cells in
    record {
      raw_rack = o.raw_rack;
      placed = o.placed;
      above = o.above;
      some = o.some;
      filled = (omega (arith, many, o.filled.0), ap (λ (m : ℕ). m * r.each) many ∙ o.filled.1);
      fits = fits_without r.each i sh.cells o.fits;
      within = o.within;
      small = o.small;
    }

pub rack_left : (r : Inside) (sh sh' : RawRack) (after : Option RawRack) (i : ℕ) (bs : List ℕ) → IsRack r
    → r.raw_rack ≡ Some sh → HasCell i (Some bs) sh.cells
    → after ≡ Some sh' → sh' ≡ record sh { cells = with_cell i None sh.cells } → IsRack (record r { raw_rack = after })
rack_left r sh sh' after i bs is e h a s =
    let P : Option RawRack → Type 0 = λ x. IsRack (record r { raw_rack = x }) in
    subst P (sym (a ∙ ap (λ (x : RawRack). Some x) s)) (left_over r sh i bs is e h)

-- ---- the element
moved_placed : (p : Ptr) (k : ℕ) → IsPlaced p → IsPlaced (p +ₚ k)
moved_placed null_ptr k h = h
moved_placed (block_ptr b o) k h = refl

abbrev IsNull : Ptr → Type 0
IsNull null_ptr = Unit {0}
IsNull (block_ptr b o) = ⊥

pub null_not_placed : IsPlaced null_ptr → ⊥
null_not_placed h = subst IsNull h tt

placed_count : (p : Ptr) (k : ℕ) → IsPlaced p → count_of (p +ₚ k) ≡ count_of p + k
placed_count null_ptr k h = absurd (subst IsNull h tt)
placed_count (block_ptr b o) k h = refl

moved_block : (p : Ptr) (k : ℕ) → block_of (p +ₚ k) ≡ block_of p
moved_block null_ptr k = refl
moved_block (block_ptr b o) k = refl

element_end : (i each len m : ℕ) → i < m → m * each ≡ len → i * each + each ≤ len
element_end i each len m h e =
    let product : suc i * each ≤ m * each = mul-le-mul_right {m = suc i} {n = m} each h in
    let next : suc i * each ≡ i * each + each = omega arith in
    omega (arith, product, next, e)

pub element_is : (r : Inside) (sh : RawRack) (i : ℕ) (ptr : Ptr) (raw : RawBytes) (claim : Claim) → IsRack r
    → r.raw_rack ≡ Some sh → HasCell i (Some raw.items) sh.cells
    → ptr ≡ (r.at +ₚ i * r.each) → raw.ptr ≡ ptr → claim.start ≡ r.start + i * r.each → claim.len ≡ r.each
    → claim.size ≡ sh.size
    → IsPiece (record {
      ptr = ptr;
      start = r.start + i * r.each;
      len = r.each;
      raw_bytes = raw;
      claim = claim;
    })
element_is r sh i ptr raw claim is e h far there from long whole =
    let o = opened r sh is e in
    let end = element_end i r.each r.len (length sh.cells) (cell_within i (Some raw.items) sh.cells h) o.filled.1 in
    let L : Ptr → Type 0 = λ q. IsPlaced q in
    let count : count_of ptr ≡ count_of r.at + i * r.each = ap count_of far
    ∙ placed_count r.at (i * r.each) o.placed in
    record {
      placed = subst L (sym far) (moved_placed r.at (i * r.each) o.placed);
      there = (there, cell_fits r.each i raw.items sh.cells h o.fits);
      some = o.some;
      claimed = (from, long);
      within = omega (arith, end, o.within, whole);
      above = omega (arith, count, o.above);
      small = omega (arith, whole, o.small);
    }

abbrev origin_at : ℕ → ℕ → ℕ → ℕ → Origin
origin_at n b f s = record { name = n; block = b; first = f; size = s }

-- what lies k bytes into a rack, s bytes into its ground, is of that ground
origin_is : (r : Inside) (sh : RawRack) (k s : ℕ) (ptr : Ptr) (claim : Claim) → IsRack r → r.raw_rack ≡ Some sh
    → s ≡ r.start + k → ptr ≡ (r.at +ₚ k) → claim.name ≡ sh.name → claim.size ≡ sh.size
    → origin_at claim.name (block_of ptr) (count_of ptr - s) claim.size ≡ (rack_of r).origin
origin_is r sh k s ptr claim is e from far name size =
    let count : count_of ptr ≡ count_of r.at + k = ap count_of far ∙ placed_count r.at k is.placed in
    let first : count_of ptr - s ≡ count_of r.at - r.start = omega (arith, count, from, is.above) in
    let name' = name ∙ sym (ap name_in e) in
    let size' = size ∙ sym (ap size_in e) in
    let block = ap block_of far ∙ moved_block r.at k in
    ap₂ (λ x y. origin_at x (block_of ptr) (count_of ptr - s) y) name' size'
    ∙ ap₂ (λ x y. origin_at (name_in r.raw_rack) x y (size_in r.raw_rack)) block first

pub element_at : (r : Inside) (sh : RawRack) (v : Racked) (i : ℕ) (ptr : Ptr) (raw : RawBytes) (claim : Claim)
    → IsRack r → r.raw_rack ≡ Some sh → rack_of r ≡ v → HasCell i (Some raw.items) sh.cells
    → ptr ≡ (r.at +ₚ i * r.each) → claim.name ≡ sh.name → claim.size ≡ sh.size
    → IsElement v i (segment_of (record {
      ptr = ptr;
      start = r.start + i * r.each;
      len = r.each;
      raw_bytes = raw;
      claim = claim;
    }))
element_at r sh v i ptr raw claim is e same h far name size =
    let fits = (opened r sh is e).fits in
    let S = segment_of (record {
      ptr = ptr;
      start = r.start + i * r.each;
      len = r.each;
      raw_bytes = raw;
      claim = claim;
    }) in
    let P : Racked → Type 0 = λ x. IsElement x i S in
    subst P same (
      origin_is r sh (i * r.each) (r.start + i * r.each) ptr claim is e refl far name size,
      refl,
      cell_fits r.each i raw.items sh.cells h fits,
    )

pub element_far : (r : Inside) (sh : RawRack) (i : ℕ) (bs : List ℕ) → IsRack r → r.raw_rack ≡ Some sh
    → HasCell i (Some bs) sh.cells → r.start + i * r.each ≤ 2 ^ 24
element_far r sh i bs is e h =
    let o = opened r sh is e in
    let end = element_end i r.each r.len (length sh.cells) (cell_within i (Some bs) sh.cells h) o.filled.1 in
    omega (arith, end, o.within, o.small)

pub element_bytes : (r : Inside) (sh : RawRack) (i : ℕ) (bs : List ℕ) → IsRack r → r.raw_rack ≡ Some sh
    → HasCell i (Some bs) sh.cells → (length bs ≡ r.each) × (0 < r.each) × (r.each ≤ 2 ^ 24) × (sh.ptr ≡ r.at)
    × (sh.start ≡ r.start) × (sh.each ≡ r.each)
element_bytes r sh i bs is e h =
    let o = opened r sh is e in
    let end = element_end i r.each r.len (length sh.cells) (cell_within i (Some bs) sh.cells h) o.filled.1 in (
      cell_fits r.each i bs sh.cells h o.fits,
      o.some,
      omega (arith, end, o.within, o.small),
      o.raw_rack.0,
      o.raw_rack.1,
      o.raw_rack.2,
    )
