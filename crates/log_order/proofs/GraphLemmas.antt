-- Notes as nodes of a graph, and a circle of them.
use Rattle.std.proofs.Common.{⊎_elim, inl, inr, ◌⊎◌, ◌≡◌, ℕ, zero, suc, ◌+◌, ◌-◌, ◌<◌, List, [], ◌∷◌, ◌++◌, length, set, Some, sym, ap, arith, ◌∙◌}
use Rattle.std.specs.Prelude.{slice_get, Vec}
use Rattle.std.specs.declared.alloc.Global.{Global}
use Rattle.std.proofs.lemmas.Bool.{cases_eq, cases_lt}
use Rattle.std.proofs.lemmas.List.{length-set, length_push}
use Rattle.std.proofs.lemmas.Option.{slice_get_within, same_Some}
use Rattle.pool_law.specs.Logs.{Logs}
use Rattle.topo_order.specs.Sorting.{MustPrecede, AreNodes, IsCircle}
use Rattle.topo_order.proofs.Lists.{item, get_set, get_set_other, set_cases, pushed, pushed_before, pushed_last}
use Rattle.log_order.specs.Graphs.{AreNodesOf, AreBack}
use Rattle.log_order.specs.Precedence.{MustStandBefore, GoesInACircle}
use Rattle.log_order.specs.declared.spots.Spot.{Spot}

-- one node more, before which nothing must stand
pub pushes : (logs : Logs) (spots : List Spot) (needs : List (Vec ℕ Global)) (s : Spot) (v : Vec ℕ Global)
    → AreNodesOf logs spots needs → v.items ≡ [] → AreNodesOf logs (spots ++ s ∷ []) (needs ++ v ∷ [])
pushes logs spots needs s v g empty = record {
  as_many = length_push needs v ∙ ap (λ n. n + 1) g.as_many ∙ sym (length_push spots s);
  low = λ first node must. omega (arith, g.low first node (was first node must), length_push spots s);
  edges = λ first node a b must at bt.
      let old = was first node must in
      let low = g.low first node old in
      let high = slice_get_within needs node old.0 old.2 in
      g.edges first node a b old
      (⊎_elim (λ e. e) (λ h. absurd (omega (arith, low, h.0))) (pushed spots s first a at))
      (⊎_elim (λ e. e) (λ h. absurd (omega (arith, high, h.0, g.as_many))) (pushed spots s node b bt));
}
  where
    was : (first node : ℕ) → MustPrecede (needs ++ v ∷ []) first node → MustPrecede needs first node
    was first node must =
        ⊎_elim (λ old. (must.0, must.1, old, must.3))
        (λ here.
        let none : slice_get [] must.1 ≡ Some first =
        ap (λ xs. slice_get xs must.1) (sym (ap (λ (z : Vec ℕ Global). z.items) (sym here.1) ∙ empty)) ∙ must.3 in
        absurd (cc none))
        (pushed needs v node must.0 must.2)

-- one more node that must stand before another
pub links : (logs : Logs) (spots : List Spot) (needs : List (Vec ℕ Global)) (node first : ℕ)
    (old new : Vec ℕ Global) → AreNodesOf logs spots needs → slice_get needs node ≡ Some old
    → new.items ≡ old.items ++ first ∷ [] → first < length spots
    → ((a b : Spot) → slice_get spots first ≡ Some a → slice_get spots node ≡ Some b → MustStandBefore logs a b)
    → AreNodesOf logs spots (set needs node new)
links logs spots needs node first old new g is more low must = record {
  as_many = length-set needs node new ∙ g.as_many;
  low = λ f v p. ⊎_elim (g.low f v) (λ h. omega (arith, low, h.0)) (cases f v p);
  edges = λ f v a b p at bt. ⊎_elim (λ o. g.edges f v a b o at bt)
      (λ h. must a b (ap (slice_get spots) (sym h.0) ∙ at) (ap (slice_get spots) (sym h.1) ∙ bt))
      (cases f v p);
}
  where
    cases : (f v : ℕ) → MustPrecede (set needs node new) f v
        → MustPrecede needs f v ⊎ ((f ≡ first) × (v ≡ node))
    cases f v p =
        ⊎_elim
        (λ here.
        let stands : slice_get (old.items ++ first ∷ []) p.1 ≡ Some f =
        ap (λ xs. slice_get xs p.1) (sym (ap (λ (z : Vec ℕ Global). z.items) (sym here.1) ∙ more)) ∙ p.3 in
        ⊎_elim
        (λ at. inl (old, p.1, ap (slice_get needs) here.0 ∙ is, at))
        (λ last. inr (sym last.1, here.0))
        (pushed old.items first p.1 f stands))
        (λ was. inl (p.0, p.1, was, p.3))
        (set_cases needs node new v p.0 p.2)

-- what had to stand before a node still must
pub kept-needs : (needs : List (Vec ℕ Global)) (node first : ℕ) (old new : Vec ℕ Global) (f v : ℕ)
    → slice_get needs node ≡ Some old → new.items ≡ old.items ++ first ∷ [] → MustPrecede needs f v
    → MustPrecede (set needs node new) f v
kept-needs needs node first old new f v is more p =
    ⊎_elim
    (λ same.
    let one : p.0 ≡ old = same_Some _ _ (sym p.2 ∙ ap (slice_get needs) same ∙ is) in (
      new,
      p.1,
      ap (slice_get (set needs node new)) same ∙ get_set needs node new (slice_get_within needs node old is),
      ap (λ xs. slice_get xs p.1) more
          ∙ pushed_before old.items first p.1 f (ap (λ (z : Vec ℕ Global). slice_get z.items p.1) (sym one) ∙ p.3),
    ))
    (λ other. (p.0, p.1, get_set_other needs node v new other ∙ p.2, p.3))
    (cases_eq v node)

-- and the new one must
pub linked-now : (needs : List (Vec ℕ Global)) (node first : ℕ) (old new : Vec ℕ Global)
    → slice_get needs node ≡ Some old → new.items ≡ old.items ++ first ∷ []
    → MustPrecede (set needs node new) first node
linked-now needs node first old new is more = (
  new,
  length old.items,
  get_set needs node new (slice_get_within needs node old is),
  ap (λ xs. slice_get xs (length old.items)) more ∙ pushed_last old.items first,
)

-- the nodes of a graph
pub are-nodes : (logs : Logs) (spots : List Spot) (needs : List (Vec ℕ Global)) → AreNodesOf logs spots needs
    → AreNodes needs
are-nodes logs spots needs g = λ first node must. omega (arith, g.low first node must, g.as_many)

-- the nodes of a circle
pub circle-low : (needs : List (Vec ℕ Global)) (nodes : List ℕ) → IsCircle needs nodes → (k node : ℕ)
    → slice_get nodes k ≡ Some node → node < length needs
circle-low needs nodes c k node at =
    ⊎_elim
    (λ low.
    let next = item nodes (suc k) low in
    let must = c.links k node next.0 at next.1 in
    slice_get_within needs node must.0 must.2)
    (λ high.
    let first = item nodes zero c.some in
    let must = c.closes k node first.0 (omega (arith, high, slice_get_within nodes k node at)) at first.1 in
    slice_get_within needs node must.0 must.2)
    (cases_lt (suc k) (length nodes))

-- a circle of nodes is one of notes, the other way round
pub goes-round : (logs : Logs) (spots : List Spot) (needs : List (Vec ℕ Global)) (nodes : List ℕ) (back : List Spot)
    → AreNodesOf logs spots needs → IsCircle needs nodes → AreBack spots nodes back → GoesInACircle logs back
goes-round logs spots needs nodes back g c r = record {
  some = omega (arith, c.some, r.as_many);
  links = λ k a b at behind.
      let low = slice_get_within back (suc k) b behind in
      let x = r.each k a at in
      let y = r.each (suc k) b behind in
      let place : length nodes - 1 - k ≡ suc (length nodes - 1 - suc k) = omega (arith, low, r.as_many) in
      let must = c.links (length nodes - 1 - suc k) y.0 x.0 y.1 (ap (slice_get nodes) (sym place) ∙ x.1) in
      g.edges x.0 y.0 a b must x.2 y.2;
  closes = λ k a b all at start.
      let x = r.each k a at in
      let y = r.each zero b start in
      let low : length nodes - 1 - k ≡ zero = omega (arith, all, r.as_many) in
      let top : suc (length nodes - 1 - zero) ≡ length nodes = omega (arith, c.some) in
      let must = c.closes (length nodes - 1 - zero) y.0 x.0 top y.1 (ap (slice_get nodes) (sym low) ∙ x.1) in
      g.edges x.0 y.0 a b must x.2 y.2;
}
