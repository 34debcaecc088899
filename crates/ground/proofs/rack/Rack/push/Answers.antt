-- The start of a piece tells which element it is.
use Rattle.std.proofs.Common.{◌≡◌, ℕ, ◌+◌, ◌-◌, ◌*◌, ◌/◌, length, sym, ap, ap₂, ◌∙◌, arith, subst}
use Rattle.std.specs.Prelude.{Option, Some, None}
use denote.RawPtr.{Ptr, ◌+ₚ◌}
use Rattle.ground.specs.Ground.{Origin, Segment}
use Rattle.ground.specs.Rack.{HasCell, Racked, IsElement, with_element}
use Rattle.ground.specs.Racks.{cells_in, name_in, size_in, rack_of, IsRack}
use Rattle.ground.specs.Pieces.{segment_of, IsPiece}
use Rattle.ground.specs.declared.raw_rack.RawRack.{RawRack}
use Rattle.ground.specs.declared.rack.Rack.TheInside.{Inside}
use Rattle.ground.specs.declared.piece.Piece.TheInside.{Inside as PieceInside}
use Rattle.ground.proofs.RackPulled.{opened}
use Rattle.ground.proofs.RackPushed.{index_of, at_pointer, rack_with, view_with}
use Rattle.ground.proofs.rack.Rack.push.Goals as goal

-- the element's place
record Placed (r : Inside) (sh : RawRack) (p : PieceInside) (i : ℕ) : Type 0 where
  index : (p.start - r.start) / r.each ≡ i
  start : p.start ≡ r.start + i * r.each
  cell : HasCell i None sh.cells
  pointer : p.ptr ≡ (r.at +ₚ i * r.each)
  name : p.claim.name ≡ sh.name
  size : p.claim.size ≡ sh.size
  long : length p.raw_bytes.items ≡ r.each

place : (r : Inside) (sh : RawRack) (p : PieceInside) (v : Racked) (s : Segment) (i : ℕ) → IsRack r → IsPiece p
    → r.raw_rack ≡ Some sh → rack_of r ≡ v → segment_of p ≡ s → IsElement v i s → HasCell i None v.cells
    → Placed r sh p i
place r sh p v s i is piece e same here element none =
    let E : Racked → Type 0 = λ x. IsElement x i s × HasCell i None x.cells in
    let known = subst E (sym same) (element, none) in
    let F : Segment → Type 0 = λ x. IsElement (rack_of r) i x in
    let at = subst F (sym here) known.0 in
    let C : Option RawRack → Type 0 = λ x. HasCell i None (cells_in x) in
    let first = ap (λ (o : Origin). o.first) at.0 in
    record {
      index = index_of p.start r.start i r.each at.1 is.some;
      start = at.1;
      cell = subst C e known.1;
      pointer =
          at_pointer p.ptr r.at (i * r.each) piece.placed is.placed (ap (λ (o : Origin). o.block) at.0)
          (omega (arith, first, at.1, piece.above, is.above));
      name = ap (λ (o : Origin). o.name) at.0 ∙ ap name_in e;
      size = ap (λ (o : Origin). o.size) at.0 ∙ ap size_in e;
      long = at.2;
    }

pub push-raw_rack-requires : goal.push-raw_rack-requires
push-raw_rack-requires c =
    let r = c.self.inside in
    let p = c.piece.inside in
    let sh = c.in-Some.raw_rack in
    let e = sym c.take.ensures.value ∙ c.in-Some.is in
    let i = c.requires.0 in
    let w = place r sh p c.args.self.now c.args.piece i c.self.invariant c.piece.invariant e c.self.view_is
    c.piece.view_is c.requires.1 c.requires.2 in
    let o = opened r sh c.self.invariant e in
    let long = sym c.piece.invariant.there.1 ∙ w.long ∙ sym o.raw_rack.2 in
    rw w.index (
      w.cell,
      c.of-raw_piece.ensures.0 ∙ c.piece.invariant.there.0 ∙ w.pointer
          ∙ ap₂ (λ (x : Ptr) (k : ℕ). x +ₚ i * k) (sym o.raw_rack.0) (sym o.raw_rack.2),
      c.of-raw_piece.ensures.2 ∙ w.name,
      c.of-raw_piece.ensures.3 ∙ c.piece.invariant.claimed.0 ∙ w.start
          ∙ ap₂ (λ (x k : ℕ). x + i * k) (sym o.raw_rack.1) (sym o.raw_rack.2),
      c.of-raw_piece.ensures.4 ∙ c.piece.invariant.claimed.1 ∙ long,
    )

pub invariant_of-self : goal.invariant_of-self
invariant_of-self c =
    let r = c.self.inside in
    let p = c.piece.inside in
    let sh = c.in-Some.raw_rack in
    let e = sym c.take.ensures.value ∙ c.in-Some.is in
    let i = c.requires.0 in
    let j = (p.start - r.start) / r.each in
    let w = place r sh p c.args.self.now c.args.piece i c.self.invariant c.piece.invariant e c.self.view_is
    c.piece.view_is c.requires.1 c.requires.2 in
    let K : ℕ → Type 0 = λ k. HasCell k None sh.cells in
    rack_with r sh c.push-raw_rack.result c.replace-empty.new.dest j c.of-raw_piece.result.items c.self.invariant e
    (subst K (sym w.index) w.cell)
    c.replace-empty.ensures.after c.push-raw_rack.ensures
    (ap length c.of-raw_piece.ensures.1 ∙ w.long)

pub returns : goal.returns
returns c = λ k is.
    let r = c.self.inside in
    let p = c.piece.inside in
    let sh = c.in-Some.raw_rack in
    let e = sym c.take.ensures.value ∙ c.in-Some.is in
    let j = (p.start - r.start) / r.each in
    let here : p.start ≡ r.start + k * r.each = ap (λ (s : Segment). s.start) c.piece.view_is ∙ is.1
    ∙ sym (ap (λ (v : Racked). v.start + k * v.each) c.self.view_is) in
    let bytes : c.of-raw_piece.result.items ≡ c.args.piece.bytes = c.of-raw_piece.ensures.1
    ∙ ap (λ (s : Segment). s.bytes) c.piece.view_is in
    view_with r sh c.push-raw_rack.result c.replace-empty.new.dest j k c.of-raw_piece.result.items c.args.piece.bytes e
    c.replace-empty.ensures.after c.push-raw_rack.ensures
    (index_of p.start r.start k r.each here c.self.invariant.some) bytes
    ∙ ap (λ (v : Racked). with_element v k c.args.piece.bytes) c.self.view_is
