-- A rack of four elements, of which the last and the first are out and come back.
use Rattle.std.proofs.Common.{◌≡◌, ℕ, ◌*◌, ◌/◌, List, length, slice_set, refl, sym, ap, ◌∙◌, subst}
use Rattle.std.specs.Prelude.{Result, Ok, IfOk, replicate}
use Rattle.std.proofs.lemmas.List.{length-replicate}
use Rattle.std.proofs.lemmas.Result.{IfOk-at_ok}
use Rattle.ground.specs.Ground.{Origin, Segment, IsWhole, overwritten}
use Rattle.ground.specs.Rack.{Racked, IsIn, IsElement, IsOutOf, AllIn, cells_of, elements_of, without_element, with_element}
use Rattle.ground.proofs.PieceLaws.{length-overwritten}
use Rattle.memory_cases.proofs.grounds.elements_come_from_their_places.Goals as goal

-- s as four elements; the same once the elements 3 and 0 are out; and once xs and ys are in their places
abbrev four : Segment → Racked
four s = record { origin = s.origin; start = s.start; each = 2048; cells = cells_of 2048 4 s.bytes }

abbrev pulled : Segment → Racked
pulled s = without_element (without_element (four s) 3) 0

abbrev pushed : Segment → List ℕ → List ℕ → Racked
pushed s xs ys = with_element (with_element (pulled s) 3 xs) 0 ys

-- a new ground of 8,192 bytes
record IsNew (s : Segment) : Type 0 where
  whole : IsWhole s
  long : length s.bytes ≡ 8192

is_new : {E : Type 0} (r : Result (Segment × Origin) E) (x : Segment × Origin) → r ≡ Ok x
    → IfOk r (λ y. IsWhole y.0) → IfOk r (λ y. y.0.bytes ≡ replicate 8192 0) → IsNew x.0
is_new r x e whole zeros =
    let s : Segment = x.0 in
    let all : s.bytes ≡ replicate 8192 0 = IfOk-at_ok (λ y. y.0.bytes ≡ replicate 8192 0) e zeros in
    record { whole = IfOk-at_ok (λ y. IsWhole y.0) e whole; long = ap length all ∙ length-replicate {A = ℕ} 8192 0 }

made : (s : Segment) (r : Racked) → IsNew s → r ≡ elements_of s 2048 → r ≡ four s
made s r new e = e ∙ ap (λ (n : ℕ). record (four s) { cells = cells_of 2048 (n / 2048) s.bytes }) new.long

record BothOut (s p q : Segment) (r : Racked) : Type 0 where
  rack : r ≡ pulled s
  last : IsElement (pulled s) 3 p
  first : IsElement (pulled s) 0 q

both_out : (s p q : Segment) (r r' r'' : Racked) → IsNew s → r ≡ elements_of s 2048
    → IsElement r 3 p → r' ≡ without_element r 3 → IsElement r' 0 q → r'' ≡ without_element r' 0 → BothOut s p q r''
both_out s p q r r' r'' new e at e' at' e'' =
    let P : Racked → Type 0 = λ x. IsElement x 3 p in
    let Q : Racked → Type 0 = λ x. IsElement x 0 q in
    let all = made s r new e in
    let less = e' ∙ ap (λ (x : Racked). without_element x 3) all in
    record {
      rack = e'' ∙ ap (λ (x : Racked). without_element x 0) less;
      last = subst P all at;
      first = subst Q less at';
    }

-- an element at its place, whatever was written over it
written : (s p : Segment) (xs : List ℕ) → IsElement (pulled s) 3 p → IsElement (pulled s) 3 (overwritten p xs)
written s p xs at = (at.0, at.1, length-overwritten p xs ∙ at.2)

back : (i : ℕ) (p : Segment) (r q v : Racked) → r ≡ v → IsElement v i p
    → ((j : ℕ) → IsElement r j p → q ≡ with_element r j p.bytes) → q ≡ with_element v i p.bytes
back i p r q v e at pushes =
    let P : Racked → Type 0 = λ x. IsElement x i p in
    pushes i (subst P (sym e) at) ∙ ap (λ (x : Racked). with_element x i p.bytes) e

both_in : (s p q : Segment) (xs : List ℕ) (r r' r'' : Racked) → BothOut s p q r
    → ((j : ℕ) → IsElement r j (overwritten p xs) → r' ≡ with_element r j (overwritten p xs).bytes)
    → ((j : ℕ) → IsElement r' j q → r'' ≡ with_element r' j q.bytes) → r'' ≡ pushed s (overwritten p xs).bytes q.bytes
both_in s p q xs r r' r'' out pushes pushes' =
    let w = overwritten p xs in
    back 0 q r' r'' (with_element (pulled s) 3 w.bytes)
    (back 3 w r r' (pulled s) out.rack (written s p xs out.last) pushes)
    out.first pushes'

pub pull-last-requires : goal.pull-last-requires
pull-last-requires g c =
    let x = c.expect-ground.result in
    let s = x.0 in
    let new = is_new c.new.result x c.expect-ground.ensures c.new.ensures.whole c.new.ensures.zeros in
    let P : Racked → Type 0 = λ x. IsIn 3 x.cells in
    subst P (sym (made s c.of-rack.result new c.of-rack.ensures)) (_, refl)

pub push-requires : goal.push-requires
push-requires g c =
    let x = c.expect-ground.result in
    let s = x.0 in
    let p = c.pull-last.result in
    let xs = slice_set c.bytes_mut.result.now 1 9 in
    let new = is_new c.new.result x c.expect-ground.ensures c.new.ensures.whole c.new.ensures.zeros in
    let out = both_out s p c.pull-first.result c.of-rack.result c.pull-last.new.self c.pull-first.new.self new
    c.of-rack.ensures
    c.pull-last.ensures.place c.pull-last.ensures.rack c.pull-first.ensures.place c.pull-first.ensures.rack in
    let P : Racked → Type 0 = λ x. IsOutOf x (overwritten p xs) in
    subst P (sym out.rack) (3, written s p xs out.last, refl)

pub push-requires-2 : goal.push-requires-2
push-requires-2 g c =
    let x = c.expect-ground.result in
    let s = x.0 in
    let p = c.pull-last.result in
    let q = c.pull-first.result in
    let xs = slice_set c.bytes_mut.result.now 1 9 in
    let new = is_new c.new.result x c.expect-ground.ensures c.new.ensures.whole c.new.ensures.zeros in
    let out = both_out s p q c.of-rack.result c.pull-last.new.self c.pull-first.new.self new c.of-rack.ensures
    c.pull-last.ensures.place c.pull-last.ensures.rack c.pull-first.ensures.place c.pull-first.ensures.rack in
    let P : Racked → Type 0 = λ x. IsOutOf x q in
    let one = back 3 (overwritten p xs) c.pull-first.new.self c.push.new.self (pulled s) out.rack
    (written s p xs out.last) c.push.ensures in
    subst P (sym one) (0, out.first, refl)

pub into_piece-whole-requires : goal.into_piece-whole-requires
into_piece-whole-requires g c =
    let x = c.expect-ground.result in
    let s = x.0 in
    let p = c.pull-last.result in
    let q = c.pull-first.result in
    let xs = slice_set c.bytes_mut.result.now 1 9 in
    let new = is_new c.new.result x c.expect-ground.ensures c.new.ensures.whole c.new.ensures.zeros in
    let out = both_out s p q c.of-rack.result c.pull-last.new.self c.pull-first.new.self new c.of-rack.ensures
    c.pull-last.ensures.place c.pull-last.ensures.rack c.pull-first.ensures.place c.pull-first.ensures.rack in
    let P : Racked → Type 0 = λ x. AllIn x.cells in
    subst P (sym (both_in s p q xs c.pull-first.new.self c.push.new.self c.push-2.new.self out c.push.ensures
    c.push-2.ensures)) tt

pub close-requires-clause-whole : goal.close-requires-clause-whole
close-requires-clause-whole g c =
    let x = c.expect-ground.result in
    let s = x.0 in
    let p = c.pull-last.result in
    let q = c.pull-first.result in
    let xs = slice_set c.bytes_mut.result.now 1 9 in
    let new = is_new c.new.result x c.expect-ground.ensures c.new.ensures.whole c.new.ensures.zeros in
    let out = both_out s p q c.of-rack.result c.pull-last.new.self c.pull-first.new.self new c.of-rack.ensures
    c.pull-last.ensures.place c.pull-last.ensures.rack c.pull-first.ensures.place c.pull-first.ensures.rack in
    let e = both_in s p q xs c.pull-first.new.self c.push.new.self c.push-2.new.self out c.push.ensures
    c.push-2.ensures in
    let piece = c.into_piece-whole.ensures in (
      piece.place.1 ∙ ap (λ (x : Racked). x.start) e ∙ new.whole.0,
      piece.len ∙ ap (λ (x : Racked). length x.cells * x.each) e ∙ sym new.long ∙ new.whole.1
          ∙ sym (ap (λ (o : Origin). o.size) (piece.place.0 ∙ ap (λ (x : Racked). x.origin) e)),
    )

pub close-requires-clause-deed : goal.close-requires-clause-deed
close-requires-clause-deed g c =
    let x = c.expect-ground.result in
    let s = x.0 in
    let p = c.pull-last.result in
    let q = c.pull-first.result in
    let xs = slice_set c.bytes_mut.result.now 1 9 in
    let new = is_new c.new.result x c.expect-ground.ensures c.new.ensures.whole c.new.ensures.zeros in
    let out = both_out s p q c.of-rack.result c.pull-last.new.self c.pull-first.new.self new c.of-rack.ensures
    c.pull-last.ensures.place c.pull-last.ensures.rack c.pull-first.ensures.place c.pull-first.ensures.rack in
    let e = both_in s p q xs c.pull-first.new.self c.push.new.self c.push-2.new.self out c.push.ensures
    c.push-2.ensures in
    let same = IfOk-at_ok (λ y. y.1 ≡ y.0.origin) c.expect-ground.ensures c.new.ensures.deed in
    same ∙ sym (c.into_piece-whole.ensures.place.0 ∙ ap (λ (z : Racked). z.origin) e)
