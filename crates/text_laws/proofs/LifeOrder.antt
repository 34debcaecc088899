-- In the life of a taking what comes later has no fewer uses, and a use has more.
use Rattle.std.proofs.Common.{⊎_elim, inl, inr, ◌≡◌, ℕ, ◌+◌, ◌≤◌, List, [], ◌∷◌, refl, sym, ap, subst, arith, ◌∙◌}
use Rattle.std.specs.Prelude.{◌<◌, ◌⊎◌}
use Rattle.std.proofs.lemmas.Bool.{cases_lt}
use Rattle.pool_law.specs.declared.id.RegionId.{RegionId}
use Rattle.pool_law.specs.declared.id.RootId.{RootId}
use Rattle.pool_law.specs.Lives.{Happening, Happens, Move, Begins, Gives, Hits, Keeps, Leaves, Sheds, Where, Cached, Dropped, Freed, Got, Used, InOrder, IsAmong, LivesOn, moves_of, region_of}
use Rattle.pool_law.specs.Logs.{Logs}
use Rattle.run_laws.proofs.OverlapLaw.{Reaches, among-after, first-happens}
use Rattle.run_text.specs.Lines.{with_uses}

-- the uses of a happening's region
abbrev pub uses_of : Happening → ℕ
uses_of t = (region_of t.move).uses

abbrev no_root : RootId
no_root = record { place = 0; generation = 0; capacity = 0 }

-- how a life goes on behind a move
pub record Onto (r : RegionId) (m : Move) (ms : List Move) : Type 0 where
  pub to : Where
  pub region : RegionId
  pub rest : LivesOn to region ms
  pub same : region.uses ≡ (region_of m).uses
  pub on : with_uses 0 region ≡ with_uses 0 r
  pub taking : with_uses 0 (region_of m) ≡ with_uses 0 r
  pub least : r.uses ≤ (region_of m).uses
  pub less : (q : RootId) (x : RegionId) → m ≡ Begins q x → r.uses < x.uses
  pub begins : r.uses < (region_of m).uses → (q : RootId) × (x : RegionId) × (m ≡ Begins q x)

-- a move of this region that begins no use
stays : (to : Where) (r x : RegionId) (m : Move) (ms : List Move) → region_of m ≡ x → x ≡ r → LivesOn to r ms
    → ((q : RootId) (y : RegionId) → m ≡ Begins q y → ⊥) → Onto r m ms
stays to r x m ms of is lives none =
    let number : (region_of m).uses ≡ r.uses = ap (λ (y : RegionId). y.uses) (of ∙ is) in
    record {
      to = to;
      region = r;
      rest = lives;
      same = sym number;
      on = refl;
      taking = ap (with_uses 0) (of ∙ is);
      least = omega (arith, number);
      less = λ q y e. absurd (none q y e);
      begins = λ low. absurd (omega (arith, low, number));
    }

onto : (w : Where) (r : RegionId) (m : Move) (ms : List Move) → LivesOn w r (m ∷ ms) → Onto r m ms
onto Got r (Begins root x) ms l =
    let number : x.uses ≡ r.uses + 1 = ap (λ (y : RegionId). y.uses) l.0 in
    record {
      to = Used root;
      region = x;
      rest = l.1;
      same = refl;
      on = ap (with_uses 0) l.0;
      taking = ap (with_uses 0) l.0;
      least = omega (arith, number);
      less =
          λ q y e. let same : x ≡ y = cc e in
          omega (arith, number, ap (λ (z : RegionId). z.uses) same);
      begins = λ low. (root, x, refl);
    }
onto Got r (Keeps x) ms l = stays Cached r x (Keeps x) ms refl l.0 l.1 (λ q y e. cc e)
onto Got r (Gives x) [] l = stays (Used no_root) r x (Gives x) [] refl l tt (λ q y e. cc e)
onto (Used root) r (Leaves q x) ms l = stays Freed r x (Leaves q x) ms refl l.1.0 l.1.1 (λ p y e. cc e)
onto Freed r (Keeps x) ms l = stays Cached r x (Keeps x) ms refl l.0 l.1 (λ q y e. cc e)
onto Freed r (Gives x) [] l = stays (Used no_root) r x (Gives x) [] refl l tt (λ q y e. cc e)
onto Cached r (Hits x) ms l = stays Got r x (Hits x) ms refl l.0 l.1 (λ q y e. cc e)
onto Cached r (Sheds x) ms l = stays Dropped r x (Sheds x) ms refl l.0 l.1 (λ q y e. cc e)
onto Dropped r (Gives x) [] l = stays (Used no_root) r x (Gives x) [] refl l tt (λ q y e. cc e)
onto w r m ms l = absurd l

-- what happens later has no fewer uses, and a use has more
abbrev Grows : ℕ → Happening → Type 0
Grows uses v = (uses ≤ uses_of v) × ((q : RootId) (x : RegionId) → v.move ≡ Begins q x → uses < x.uses)

grows : (w : Where) (r : RegionId) (ts : List Happening) (v : Happening) → LivesOn w r (moves_of ts)
    → IsAmong v ts → Grows r.uses v
grows w r [] v lives among = absurd among
grows w r (g ∷ gs) v lives (inl same) =
    let o : Onto r g.move (moves_of gs) = onto w r g.move (moves_of gs) lives in (
      omega (arith, o.least, ap uses_of same),
      λ q x e. o.less q x (ap (λ (z : Happening). z.move) (sym same) ∙ e),
    )
grows w r (g ∷ gs) v lives (inr among) =
    let o : Onto r g.move (moves_of gs) = onto w r g.move (moves_of gs) lives in
    let rest : Grows o.region.uses v = grows o.to o.region gs v o.rest among in (
      omega (arith, o.least, o.same, rest.0),
      λ q x e. omega (arith, o.least, o.same, rest.1 q x e),
    )

module _ (logs : Logs) where
  -- one happening comes before another
  pub record Ahead (u v : Happening) : Type 0 where
    pub order : Reaches logs u.event v.event
    pub least : uses_of u ≤ uses_of v
    pub less : (q : RootId) (x : RegionId) → v.move ≡ Begins q x → uses_of u < x.uses

  first-ahead : (w : Where) (r : RegionId) (g : Happening) (gs : List Happening) (u v : Happening)
      → LivesOn w r (moves_of (g ∷ gs)) → InOrder logs g gs → u ≡ g → IsAmong v gs → Ahead u v
  first-ahead w r g gs u v lives order is among =
      let o : Onto r g.move (moves_of gs) = onto w r g.move (moves_of gs) lives in
      let rest : Grows o.region.uses v = grows o.to o.region gs v o.rest among in
      let own : uses_of u ≡ uses_of g = ap uses_of is in
      record {
        order = subst (λ z. Reaches logs z.event v.event) (sym is) (among-after logs g gs v order among);
        least = omega (arith, own, o.same, rest.0);
        less = λ q x e. omega (arith, own, o.same, rest.1 q x e);
      }

  -- of two happenings of a life one comes before the other
  pub compare : (w : Where) (r : RegionId) (t : Happening) (ts : List Happening) (u v : Happening)
      → LivesOn w r (moves_of ts) → InOrder logs t ts → IsAmong u ts → IsAmong v ts
      → (u ≡ v) ⊎ (Ahead u v ⊎ Ahead v u)
  compare w r t [] u v lives order at_u at_v = absurd at_u
  compare w r t (g ∷ gs) u v lives order (inl u_is) (inl v_is) = inl (u_is ∙ sym v_is)
  compare w r t (g ∷ gs) u v lives order (inl u_is) (inr at_v) =
      inr (inl (first-ahead w r g gs u v lives order.1.1 u_is at_v))
  compare w r t (g ∷ gs) u v lives order (inr at_u) (inl v_is) =
      inr (inr (first-ahead w r g gs v u lives order.1.1 v_is at_u))
  compare w r t (g ∷ gs) u v lives order (inr at_u) (inr at_v) =
      let o : Onto r g.move (moves_of gs) = onto w r g.move (moves_of gs) lives in
      compare o.to o.region g gs u v o.rest order.1.1 at_u at_v

  -- the use that gave a region its uses
  pub record UseOf (start : RegionId) (ts : List Happening) (v : Happening) : Type 0 where
    pub begin : Happening
    pub root : RootId
    pub region : RegionId
    pub is : begin.move ≡ Begins root region
    pub among : IsAmong begin ts
    pub uses : region.uses ≡ uses_of v
    pub taking : with_uses 0 region ≡ with_uses 0 start
    pub order : (begin ≡ v) ⊎ Reaches logs begin.event v.event

  pub use-of : (w : Where) (r : RegionId) (t : Happening) (ts : List Happening) (v : Happening)
      → LivesOn w r (moves_of ts) → InOrder logs t ts → IsAmong v ts → r.uses < uses_of v → UseOf r ts v
  use-of w r t [] v lives order among more = absurd among
  use-of w r t (g ∷ gs) v lives order (inl same) more =
      let o : Onto r g.move (moves_of gs) = onto w r g.move (moves_of gs) lives in
      let own : uses_of v ≡ uses_of g = ap uses_of same in
      let b = o.begins (omega (arith, more, own)) in
      let uses : b.1.uses ≡ uses_of g = sym (ap (λ (m : Move). (region_of m).uses) b.2) in
      record {
        begin = g;
        root = b.0;
        region = b.1;
        is = b.2;
        among = inl refl;
        uses = omega (arith, uses, own);
        taking = sym (ap (λ (m : Move). with_uses 0 (region_of m)) b.2) ∙ o.taking;
        order = inl (sym same);
      }
  use-of w r t (g ∷ gs) v lives order (inr among) more =
      let o : Onto r g.move (moves_of gs) = onto w r g.move (moves_of gs) lives in
      let rest : Grows o.region.uses v = grows o.to o.region gs v o.rest among in
      ⊎_elim
      (λ later.
      let u : UseOf o.region gs v = use-of o.to o.region g gs v o.rest order.1.1 among later in
      record {
        begin = u.begin;
        root = u.root;
        region = u.region;
        is = u.is;
        among = inr u.among;
        uses = u.uses;
        taking = u.taking ∙ o.on;
        order = u.order;
      })
      (λ here.
      let b = o.begins (omega (arith, more, here, o.same)) in
      let uses : b.1.uses ≡ uses_of g = sym (ap (λ (m : Move). (region_of m).uses) b.2) in
      record {
        begin = g;
        root = b.0;
        region = b.1;
        is = b.2;
        among = inl refl;
        uses = omega (arith, uses, here, o.same, rest.0);
        taking = sym (ap (λ (m : Move). with_uses 0 (region_of m)) b.2) ∙ o.taking;
        order = inr (among-after logs g gs v order.1.1 among);
      })
      (cases_lt o.region.uses (uses_of v))

  -- what is among the happenings of a life happens
  pub among-happens : (t : Happening) (ts : List Happening) (u : Happening) → InOrder logs t ts → IsAmong u ts
      → Happens logs u
  among-happens t [] u order among = absurd among
  among-happens t (g ∷ gs) u order (inl same) = subst (Happens logs) (sym same) (first-happens logs g gs order.1.1)
  among-happens t (g ∷ gs) u order (inr among) = among-happens g gs u order.1.1 among

-- ---- Nothing begins behind a shed.

given-alone : (r : RegionId) (m : Move) (ms : List Move) → LivesOn Dropped r (m ∷ ms)
    → (x : RegionId) × (m ≡ Gives x) × (ms ≡ [])
given-alone r (Gives x) [] l = (x, refl, refl)
given-alone r m ms l = absurd l

none-there : (gs : List Happening) (v : Happening) → moves_of gs ≡ [] → IsAmong v gs → ⊥
none-there [] v e among = among
none-there (g ∷ gs) v e among = cc e

dropped-begins : (r : RegionId) (gs : List Happening) (v : Happening) (q : RootId) (y : RegionId)
    → LivesOn Dropped r (moves_of gs) → IsAmong v gs → v.move ≡ Begins q y → ⊥
dropped-begins r [] v q y lives among is = among
dropped-begins r (g ∷ gs) v q y lives (inl same) is =
    let f = given-alone r g.move (moves_of gs) lives in
    let both : Gives f.0 ≡ Begins q y = sym f.1 ∙ ap (λ (z : Happening). z.move) (sym same) ∙ is in cc both
dropped-begins r (g ∷ gs) v q y lives (inr among) is =
    none-there gs v (given-alone r g.move (moves_of gs) lives).2 among

shed-begins : (w : Where) (r x : RegionId) (gs : List Happening) (v : Happening) (q : RootId) (y : RegionId)
    → LivesOn w r (Sheds x ∷ moves_of gs) → IsAmong v gs → v.move ≡ Begins q y → ⊥
shed-begins Cached r x gs v q y lives among is = dropped-begins r gs v q y lives.1 among is
shed-begins w r x gs v q y lives among is = absurd lives

-- so each use comes before it
pub shed-last : (logs : Logs) (w : Where) (r : RegionId) (t : Happening) (ts : List Happening) (u v : Happening)
    (x : RegionId) (q : RootId) (y : RegionId) → LivesOn w r (moves_of ts) → InOrder logs t ts → IsAmong u ts
    → IsAmong v ts → u.move ≡ Sheds x → v.move ≡ Begins q y → Reaches logs v.event u.event
shed-last logs w r t [] u v x q y lives order at_u at_v sheds begins = absurd at_u
shed-last logs w r t (g ∷ gs) u v x q y lives order (inl u_is) (inl v_is) sheds begins =
    let both : Sheds x ≡ Begins q y =
    sym sheds ∙ ap (λ (z : Happening). z.move) (u_is ∙ sym v_is) ∙ begins in absurd (cc both)
shed-last logs w r t (g ∷ gs) u v x q y lives order (inl u_is) (inr at_v) sheds begins =
    let shed : LivesOn w r (Sheds x ∷ moves_of gs) =
    subst (λ m. LivesOn w r (m ∷ moves_of gs)) (sym (ap (λ (z : Happening). z.move) u_is) ∙ sheds) lives in
    absurd (shed-begins w r x gs v q y shed at_v begins)
shed-last logs w r t (g ∷ gs) u v x q y lives order (inr at_u) (inl v_is) sheds begins =
    subst (λ z. Reaches logs z.event u.event) (sym v_is) (among-after logs g gs u order.1.1 at_u)
shed-last logs w r t (g ∷ gs) u v x q y lives order (inr at_u) (inr at_v) sheds begins =
    let o : Onto r g.move (moves_of gs) = onto w r g.move (moves_of gs) lives in
    shed-last logs o.to o.region g gs u v x q y o.rest order.1.1 at_u at_v sheds begins
