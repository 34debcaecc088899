-- Circles of a graph.
use Rattle.std.proofs.Common.{◌≡◌, ◌<◌, ◌≤◌, ◌+◌, ◌-◌, true, ℕ, zero, suc, List, [], ◌∷◌, length, drop, Some, sym, ap, arith, ◌∙◌, subst, eqb-true, eq-eqb}
use Rattle.std.proofs.lemmas.Option.{same_Some}
use Rattle.std.specs.Prelude.{◌==◌, if◌then◌else◌, slice_get}
use Rattle.std.proofs.lemmas.Bool.{cond_both}
use Rattle.topo_order.specs.Sorting.{Graph, MustPrecede, IsOrder, IsCircle}
use Rattle.topo_order.specs.Walking.{IsMarked, IsWalk}
use Rattle.topo_order.specs.declared.walk.Mark.{Mark}
use Rattle.topo_order.specs.declared.walk.Mark.TheVariants.{Open}
use Rattle.topo_order.proofs.Lists.{item, within, get_drop, length_drop}

-- numbers that fall along a circle come to no end
module _ (graph : Graph) (circle : List ℕ) (c : IsCircle graph circle) (rank : ℕ → ℕ)
    (falls : (first node : ℕ) → MustPrecede graph first node → rank first < rank node) where
  -- the first node has the highest number
  falls-from : (k node first : ℕ) → slice_get circle zero ≡ Some first → slice_get circle k ≡ Some node
      → rank node ≤ rank first
  falls-from zero node first at is =
      let same : first ≡ node = same_Some _ _ (sym at ∙ is) in omega (arith, ap rank same)
  falls-from (suc k) node first at is =
      let low = within circle (suc k) node is in
      let before = item circle k (omega (arith, low)) in
      let less : rank node < rank before.0 = falls node before.0 (c.links k before.0 node before.1 is) in
      omega (arith, less, falls-from k before.0 first at before.1)

  pub no-circle : ⊥
  no-circle =
      let first = item circle zero c.some in
      let end : suc (length circle - 1) ≡ length circle = omega (arith, c.some) in
      let last = item circle (length circle - 1) (omega (arith, c.some)) in
      let less : rank first.0 < rank last.0 =
      falls first.0 last.0 (c.closes (length circle - 1) last.0 first.0 end last.1 first.1) in
      omega (arith, less, falls-from (length circle - 1) last.0 first.0 first.1 last.1)

-- the end of the path from a node on that must stand before the last
pub path-closes : (graph : Graph) (marks : List Mark) (path order : List ℕ) (node next d t : ℕ)
    → IsWalk graph marks path order → IsMarked marks next (Open d t)
    → slice_get path (length path - 1) ≡ Some node → MustPrecede graph next node
    → IsCircle graph (drop d path)
path-closes graph marks path order node next d t w is end must = record {
  some = omega (arith, low, length_drop path d);
  links = λ k v u at behind.
      w.linked (d + k) v u (sym (get_drop path d k) ∙ at)
      (ap (slice_get path) (next-place k) ∙ sym (get_drop path d (suc k)) ∙ behind);
  closes = λ k last first all at start.
      let place : d + k ≡ length path - 1 = omega (arith, all, length_drop path d, low) in
      let one : node ≡ last =
      same_Some _ _ (sym end ∙ ap (slice_get path) (sym place) ∙ sym (get_drop path d k) ∙ at) in
      let other : next ≡ first =
      same_Some _ _ (sym (w.on_path next d t is) ∙ ap (slice_get path) here ∙ sym (get_drop path d zero) ∙ start) in
      subst (λ z. MustPrecede graph z last) other (subst (λ z. MustPrecede graph next z) one must);
}
  where
    low : d < length path
    low = within path d next (w.on_path next d t is)

    here : d ≡ d + zero
    here = omega arith

    next-place : (k : ℕ) → suc (d + k) ≡ d + suc k
    next-place k = omega arith

-- the first place of a node in an order
place_in : List ℕ → ℕ → ℕ
place_in [] x = 0
place_in (y ∷ ys) x = if y == x then 0 else suc (place_in ys x)

place-there : (xs : List ℕ) (j x : ℕ) → slice_get xs j ≡ Some x
    → (place_in xs x ≤ j) × (slice_get xs (place_in xs x) ≡ Some x)
unfolding place_in
place-there [] j x e = absurd (cc e)
place-there (y ∷ ys) zero x e =
    let same : y ≡ x = same_Some _ _ e in
    let test : (y == x) ≡ true = eq-eqb y x same in (
      omega (arith, ap (λ z. if z then 0 else suc (place_in ys x)) test),
      ap (λ z. slice_get (y ∷ ys) (if z then 0 else suc (place_in ys x))) test ∙ e,
    )
place-there (y ∷ ys) (suc j) x e =
    let r = place-there ys j x e in
    cond_both {A = ℕ} (y == x) 0 (suc (place_in ys x)) (λ n. (n ≤ suc j) × (slice_get (y ∷ ys) n ≡ Some x))
    (λ test. (omega arith, ap Some (eqb-true y x test)))
    (λ _. (omega (arith, r.0), r.1))

pub an-order-has-no-circle : (graph : Graph) (order circle : List ℕ) → IsOrder graph order
    → IsCircle graph circle → ⊥
an-order-has-no-circle graph order circle o c = no-circle graph circle c (place_in order) falls
  where
    falls : (first node : ℕ) → MustPrecede graph first node → place_in order first < place_in order node
    falls first node must =
        let stands = o.all node (within graph node must.0 must.2) in
        let there = place-there order stands.0 node stands.1 in
        let before = o.forward first node (place_in order node) must there.1 in
        omega (arith, before.1, (place-there order before.0 first before.2).0)
