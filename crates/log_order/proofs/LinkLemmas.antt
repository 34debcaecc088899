-- That all pairs of which one must stand before the other are linked.
use Rattle.std.proofs.Common.{⊎_elim, inl, ◌≡◌, ℕ, zero, suc, ◌+◌, ◌-◌, ◌<◌, ◌≤◌, true, List, length, Option, Some, sym, ap, subst, arith, ◌∙◌}
use Rattle.std.specs.Prelude.{slice_get}
use Rattle.std.proofs.lemmas.Bool.{cases_lt}
use Rattle.std.proofs.lemmas.Option.{slice_get_within, same_Some}
use Rattle.pool_law.specs.declared.note.Note.{Note}
use Rattle.pool_law.specs.Logs.{Logs}
use Rattle.pool_law.specs.Lives.{StandsAt}
use Rattle.topo_order.specs.Sorting.{IsOrder}
use Rattle.topo_order.proofs.Lists.{item}
use Rattle.log_order.specs.Precedence.{note_precedes, MustStandBefore, GoesInACircle}
use Rattle.log_order.specs.Staging.{Stage, stage_of, first_want, second_want}
use Rattle.log_order.specs.Indexing.{listed}
use Rattle.log_order.specs.Filling.{before, IsFilled, Links, Grows, IsWhole}
use Rattle.log_order.specs.declared.graph.Graph.{Graph}
use Rattle.log_order.specs.declared.index.Index.{Index}
use Rattle.log_order.specs.declared.spots.Spot.{Spot}
use Rattle.log_order.proofs.FillLemmas.{one-note, lane-low}
use Rattle.log_order.proofs.StageLemmas.{wanted}

-- what is linked stays so
pub links-on : (logs : Logs) (old new : Graph) (H : Type 0) (first node : ℕ) → Grows logs old new H
    → Links logs old first node → Links logs new first node
links-on logs old new H first node g links a b at bt must =
    g.keeps first node (links a b (ap (λ z. slice_get z first) (sym g.spots) ∙ at)
    (ap (λ z. slice_get z node) (sym g.spots) ∙ bt) must)

pub grows-on : (logs : Logs) (old mid new : Graph) (H K L : Type 0) → Grows logs old mid H → Grows logs mid new K → L
    → Grows logs old new L
grows-on logs old mid new H K L g h l = record {
  graph = h.graph;
  spots = h.spots ∙ g.spots;
  keeps = λ first node must. h.keeps first node (g.keeps first node must);
  holds = l;
}

-- those of the stages that a note wants, and the one before it in its lane, are all that must stand before it
pub node-linked : (logs : Logs) (old mid some new : Graph) (index : Index) (lane at : ℕ) (node : ℕ) (s : Spot)
    (n : Note) (want other : Option Stage) → want ≡ first_want n → other ≡ second_want n
    → IsFilled logs old index lane at → slice_get old.spots.items node ≡ Some s → StandsAt logs s.lane s.at n
    → Grows logs old mid ((first : ℕ) → first + 1 ≡ node → Links logs mid first node)
    → Grows logs mid some ((t : Stage) (k first : ℕ) → want ≡ Some t
    → slice_get (listed index t) k ≡ Some first → Links logs some first node)
    → Grows logs some new ((t : Stage) (k first : ℕ) → other ≡ Some t
    → slice_get (listed index t) k ≡ Some first → Links logs new first node)
    → (first : ℕ) → Links logs new first node
node-linked logs old mid some new index lane at node s n want other w v f here is last one two first a b there bt must =
    ⊎_elim
    (λ h. links-on logs some new _ first node two
    (links-on logs mid some _ first node one (last.holds first (next h.0 h.1))) a b there bt must)
    (λ why. ⊎_elim
    (λ e. links-on logs some new _ first node two (one.holds (stage_of must.first) k.0 first (w ∙ e) k.1)
    a b there bt must)
    (λ e. two.holds (stage_of must.first) k.0 first (v ∙ e) k.1 a b there bt must)
    (wanted must.first n (subst (λ z. note_precedes must.first z ≡ true) second why)))
    must.why
  where
    same : new.spots.items ≡ old.spots.items
    same = two.spots ∙ one.spots ∙ last.spots

    a-old : slice_get old.spots.items first ≡ Some a
    a-old = ap (λ z. slice_get z first) (sym same) ∙ there

    b-old : slice_get old.spots.items node ≡ Some b
    b-old = ap (λ z. slice_get z node) (sym same) ∙ bt

    second : must.second ≡ n
    second = one-note logs b s must.second n (same_Some b s (sym b-old ∙ here)) must.second_stands is

    k : (k : ℕ) × (slice_get (listed index (stage_of must.first)) k ≡ Some first)
    k = f.listed first a must.first a-old must.first_stands

    next : a.lane ≡ b.lane → suc a.at ≡ b.at → first + 1 ≡ node
    next lanes ats =
        omega (arith, f.placed.own first a a-old, f.placed.own node b b-old, ap (before logs) lanes, ats)

-- where all nodes are linked the graph is whole
pub is-whole : (logs : Logs) (old new : Graph) (index : Index) → IsFilled logs old index (length logs) 0
    → Grows logs old new ((node : ℕ) → node < length old.spots.items → (first : ℕ) → Links logs new first node)
    → IsWhole logs new
is-whole logs old new index f g = record {
  graph = g.graph;
  placed = λ s n is. (
    before logs s.lane + s.at,
    ap (λ z. slice_get z (before logs s.lane + s.at)) g.spots
        ∙ f.placed.each s n is (inl (lane-low logs s.lane s.at n is)),
  );
  once = λ node other s at bt.
      omega (
        arith,
        f.placed.own node s (ap (λ z. slice_get z node) (sym g.spots) ∙ at),
        f.placed.own other s (ap (λ z. slice_get z other) (sym g.spots) ∙ bt),
      );
  linked = λ first node a b at bt must.
      g.holds node
      (slice_get_within old.spots.items node b (ap (λ z. slice_get z node) (sym g.spots) ∙ bt))
      first a b at bt must;
}

-- a note's node stands at this place of an order
record IsRanked (graph : Graph) (order : List ℕ) (s : Spot) (place : ℕ) : Type 0 where
  pub node : ℕ
  pub is : slice_get graph.spots.items node ≡ Some s
  pub there : slice_get order place ≡ Some node

module _ (logs : Logs) (graph : Graph) (order : List ℕ) (w : IsWhole logs graph)
    (o : IsOrder graph.needs.items order) where
  ranked : (s : Spot) (n : Note) → StandsAt logs s.lane s.at n → (p : ℕ) × IsRanked graph order s p
  ranked s n is =
      let u = w.placed s n is in
      let p = o.all u.0 (omega (arith, slice_get_within graph.spots.items u.0 s u.1, w.graph.as_many)) in
      (p.0, record { node = u.0; is = u.1; there = p.1 })

  one-rank : (s : Spot) (p q : ℕ) → IsRanked graph order s p → IsRanked graph order s q → p ≡ q
  one-rank s p q x y =
      let same = w.once x.node y.node s x.is y.is in
      o.once p q y.node (x.there ∙ ap Some same) y.there

  rises : (a b : Spot) (p q : ℕ) → MustStandBefore logs a b → IsRanked graph order a p
      → IsRanked graph order b q → p < q
  rises a b p q must x y =
      let j = o.forward x.node y.node q (w.linked x.node y.node a b x.is y.is must) y.there in
      omega (arith, j.1, o.once j.0 p x.node j.2 x.there)

  module _ (spots : List Spot) (c : GoesInACircle logs spots) where
    in-circle : (k : ℕ) (s : Spot) → slice_get spots k ≡ Some s → (n : Note) × StandsAt logs s.lane s.at n
    in-circle k s at =
        ⊎_elim
        (λ low. let t = item spots (suc k) low in
        let must = c.links k s t.0 at t.1 in
        (must.first, must.first_stands))
        (λ high. let t = item spots zero c.some in
        let must = c.closes k s t.0 (omega (arith, high, slice_get_within spots k s at)) at t.1 in
        (must.first, must.first_stands))
        (cases_lt (suc k) (length spots))

    climbs : (k : ℕ) (first a : Spot) (p q : ℕ) → slice_get spots zero ≡ Some first → slice_get spots k ≡ Some a
        → IsRanked graph order first p → IsRanked graph order a q → p ≤ q
    climbs zero first a p q start at x y =
        let same : first ≡ a = same_Some first a (sym start ∙ at) in
        omega (arith, one-rank a p q (subst (λ z. IsRanked graph order z p) same x) y)
    climbs (suc k) first a p q start at x y =
        let t = item spots k (omega (arith, slice_get_within spots (suc k) a at)) in
        let n = in-circle k t.0 t.1 in
        let r = ranked t.0 n.0 n.1 in
        omega (arith, climbs k first t.0 p r.0 start t.1 x r.1, rises t.0 a r.0 q (c.links k t.0 a t.1 at) r.1 y)

    -- notes whose nodes stand in order go in no circle
    pub none-round : ⊥
    none-round =
        let end : suc (length spots - 1) ≡ length spots = omega (arith, c.some) in
        let a = item spots zero c.some in
        let b = item spots (length spots - 1) (omega (arith, c.some)) in
        let n = in-circle zero a.0 a.1 in
        let m = in-circle (length spots - 1) b.0 b.1 in
        let p = ranked a.0 n.0 n.1 in
        let q = ranked b.0 m.0 m.1 in
        absurd (omega (
          arith,
          climbs (length spots - 1) a.0 b.0 p.0 q.0 a.1 b.1 p.1 q.1,
          rises b.0 a.0 q.0 p.0 (c.closes (length spots - 1) b.0 a.0 end b.1 a.1) q.1 p.1,
        ))
