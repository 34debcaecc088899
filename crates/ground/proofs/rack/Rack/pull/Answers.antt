-- The element has its place, its bytes and its claim, and the rack is whole without it.
use Rattle.std.proofs.Common.{◌≡◌, ℕ, ◌+◌, ◌*◌, ◌^◌, List, Fits-le, Fits-lit, refl, sym, ap₂, ◌∙◌, arith, subst}
use Rattle.std.specs.Prelude.{Option, Some}
use denote.RawPtr.{Ptr, ◌+ₚ◌}
use Rattle.ground.specs.Rack.{Cell, HasCell, Racked}
use Rattle.ground.specs.Racks.{cells_in}
use Rattle.ground.specs.declared.raw_rack.RawRack.{RawRack}
use Rattle.ground.proofs.RackPulled.{rack_left, element_is, element_at, element_far, element_bytes}
use Rattle.ground.proofs.rack.Rack.pull.Goals as goal

-- the element that is asked for is in the raw rack
has : (r v : Racked) (o : Option RawRack) (sh : RawRack) (i : ℕ) (bs : List ℕ) → r ≡ v → r.cells ≡ cells_in o
    → o ≡ Some sh → HasCell i (Some bs) v.cells → HasCell i (Some bs) sh.cells
has r v o sh i bs same cells e h =
    let P : Racked → Type 0 = λ x. HasCell i (Some bs) x.cells in
    let C : Option RawRack → Type 0 = λ x. HasCell i (Some bs) (cells_in x) in
    let L : List Cell → Type 0 = λ x. HasCell i (Some bs) x in
    subst C e (subst L cells (subst P (sym same) h))

far_ptr : (p q : Ptr) (i m n : ℕ) → p ≡ q → m ≡ n → (p +ₚ i * m) ≡ (q +ₚ i * n)
far_ptr p q i m n a b = ap₂ (λ (x : Ptr) (k : ℕ). x +ₚ i * k) a b

pub overflow_mul-far : goal.overflow_mul-far
overflow_mul-far c =
    let r = c.self.inside in
    let sh = c.in-Some.raw_rack in
    let e = sym c.take.ensures.value ∙ c.in-Some.is in
    let h = has _ c.args.self.now r.raw_rack sh c.args.i c.requires.0 c.self.view_is refl e c.requires.1 in
    Fits-le {n = 2 ^ 24} (omega (arith, element_far r sh c.args.i c.requires.0 c.self.invariant e h)) (Fits-lit tt)

pub overflow_add-result : goal.overflow_add-result
overflow_add-result c =
    let r = c.self.inside in
    let sh = c.in-Some.raw_rack in
    let e = sym c.take.ensures.value ∙ c.in-Some.is in
    let h = has _ c.args.self.now r.raw_rack sh c.args.i c.requires.0 c.self.view_is refl e c.requires.1 in
    Fits-le {n = 2 ^ 24} (element_far r sh c.args.i c.requires.0 c.self.invariant e h) (Fits-lit tt)

pub overflow_cast-result : goal.overflow_cast-result
overflow_cast-result c =
    let r = c.self.inside in
    let sh = c.in-Some.raw_rack in
    let e = sym c.take.ensures.value ∙ c.in-Some.is in
    let h = has _ c.args.self.now r.raw_rack sh c.args.i c.requires.0 c.self.view_is refl e c.requires.1 in
    Fits-le {n = 2 ^ 24} (element_far r sh c.args.i c.requires.0 c.self.invariant e h) (Fits-lit tt)

pub returns-clause-place : goal.returns-clause-place
returns-clause-place c =
    let sh = c.in-Some.raw_rack in
    let e = sym c.take.ensures.value ∙ c.in-Some.is in
    let raw = c.parts-raw_bytes in
    element_at c.self.inside sh c.args.self.now c.args.i c.byte_add.result raw.result.0 raw.result.1 c.self.invariant e
    c.self.view_is (rw raw.ensures.1 c.pull-raw_piece.ensures.1)
    c.byte_add.ensures.value (raw.ensures.2 ∙ c.pull-raw_piece.ensures.2) (raw.ensures.5 ∙ c.pull-raw_piece.ensures.5)

pub invariant_of-self : goal.invariant_of-self
invariant_of-self c =
    let r = c.self.inside in
    let sh = c.in-Some.raw_rack in
    let e = sym c.take.ensures.value ∙ c.in-Some.is in
    rack_left r sh c.pull-raw_piece.result.1 c.replace-empty.new.dest c.args.i c.pull-raw_piece.result.0.items
    c.self.invariant e c.pull-raw_piece.ensures.1
    c.replace-empty.ensures.after c.pull-raw_piece.ensures.6

pub invariant_of-result : goal.invariant_of-result
invariant_of-result c =
    let r = c.self.inside in
    let sh = c.in-Some.raw_rack in
    let e = sym c.take.ensures.value ∙ c.in-Some.is in
    let pulled = c.pull-raw_piece in
    let raw = c.parts-raw_bytes in
    let is = element_bytes r sh c.args.i pulled.result.0.items c.self.invariant e pulled.ensures.1 in
    let at : raw.result.0.ptr ≡ (r.at +ₚ c.args.i * r.each) = raw.ensures.0 ∙ pulled.ensures.0
    ∙ far_ptr sh.ptr r.at c.args.i sh.each r.each is.3 is.5 in
    let start : raw.result.1.start ≡ r.start + c.args.i * r.each = raw.ensures.3 ∙ pulled.ensures.3
    ∙ ap₂ (λ (x k : ℕ). x + c.args.i * k) is.4 is.5 in
    element_is r sh c.args.i c.byte_add.result raw.result.0 raw.result.1 c.self.invariant e
    (rw raw.ensures.1 pulled.ensures.1) c.byte_add.ensures.value (at ∙ sym c.byte_add.ensures.value) start
    (raw.ensures.4 ∙ pulled.ensures.4 ∙ is.5)
    (raw.ensures.5 ∙ pulled.ensures.5)
