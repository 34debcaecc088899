-- What comes in the life of a taking behind a use: its end, and then its region's return.
use Rattle.std.proofs.Common.{⊎_elim, inl, inr, ◌≡◌, ◌≤◌, List, [], ◌∷◌, refl, sym, ap, subst, arith, ◌∙◌}
use Rattle.std.specs.Prelude.{◌<◌, ◌⊎◌}
use Rattle.pool_law.specs.declared.id.RootId.{RootId}
use Rattle.pool_law.specs.declared.id.RegionId.{RegionId}
use Rattle.pool_law.specs.Logs.{Logs}
use Rattle.pool_law.specs.Lives.{Event, Happening, Happens, Move, Gives, Keeps, Hits, Sheds, Begins, Leaves, Where, Got, Used, Freed, Cached, Dropped, LivesOn, InOrder, moves_of, IsAmong}
use Rattle.run_laws.proofs.OverlapLaw.{Reaches, first-happens, among-after}

-- a region returns
abbrev pub IsReturn : RegionId → Move → Type 0
IsReturn region m = (m ≡ Keeps region) ⊎ (m ≡ Gives region)

-- how a life goes on, where no use is undone
abbrev Onward : RegionId → List Move → Type 0
Onward r ms = (w : Where) × (s : RegionId) × LivesOn w s ms × (r.uses ≤ s.uses)

onward : (w : Where) (r : RegionId) (m : Move) (ms : List Move) → LivesOn w r (m ∷ ms) → Onward r ms
onward Got r (Begins root x) ms l = (Used root, x, l.1, omega (arith, ap (λ y. y.uses) l.0))
onward Got r (Keeps x) ms l = (Cached, r, l.1, omega arith)
onward Got r (Gives x) [] l = (Used (record { place = 0; generation = 0; capacity = 0 }), r, tt, omega arith)
onward (Used root) r (Leaves q x) ms l = (Freed, r, l.1.1, omega arith)
onward Freed r (Keeps x) ms l = (Cached, r, l.1, omega arith)
onward Freed r (Gives x) [] l = (Used (record { place = 0; generation = 0; capacity = 0 }), r, tt, omega arith)
onward Cached r (Hits x) ms l = (Got, r, l.1, omega arith)
onward Cached r (Sheds x) ms l = (Dropped, r, l.1, omega arith)
onward Dropped r (Gives x) [] l = (Used (record { place = 0; generation = 0; capacity = 0 }), r, tt, omega arith)
onward w r m ms l = absurd l

-- a use is of what was got once more, and lasts from then on
begin-next : (w : Where) (r : RegionId) (p : RootId) (x : RegionId) (ms : List Move) → LivesOn w r (Begins p x ∷ ms)
    → (r.uses < x.uses) × LivesOn (Used p) x ms
begin-next Got r p x ms l = (omega (arith, ap (λ y. y.uses) l.0), l.1)
begin-next w r p x ms l = absurd l

-- a use ends, and its region was left
leave-next : (p : RootId) (r : RegionId) (m : Move) (ms : List Move) → LivesOn (Used p) r (m ∷ ms)
    → (m ≡ Leaves p r) × LivesOn Freed r ms
leave-next p r (Leaves q x) ms l = (λ i. Leaves (l.0 i) (l.1.0 i), l.1.1)
leave-next p r m ms l = absurd l

-- a region that was left returns
return-next : (r : RegionId) (m : Move) (ms : List Move) → LivesOn Freed r (m ∷ ms) → IsReturn r m
return-next r (Gives x) [] l = inr (ap Gives l)
return-next r (Keeps x) ms l = inl (ap Keeps l.0)
return-next r m ms l = absurd l

-- what is kept or given is the region that is there
kept-own : (w : Where) (r y : RegionId) (ms : List Move) → LivesOn w r (Keeps y ∷ ms) → y ≡ r
kept-own Got r y ms l = l.0
kept-own Freed r y ms l = l.0
kept-own w r y ms l = absurd l

give-own : (w : Where) (r y : RegionId) (ms : List Move) → LivesOn w r (Gives y ∷ ms) → (y ≡ r) × (ms ≡ [])
give-own Got r y [] l = (l, refl)
give-own Freed r y [] l = (l, refl)
give-own Dropped r y [] l = (l, refl)
give-own w r y ms l = absurd l

return-own : (w : Where) (r y : RegionId) (m : Move) (ms : List Move) → LivesOn w r (m ∷ ms) → IsReturn y m → y ≡ r
return-own w r y m ms l (inl is) = kept-own w r y ms (subst (λ z. LivesOn w r (z ∷ ms)) is l)
return-own w r y m ms l (inr is) = (give-own w r y ms (subst (λ z. LivesOn w r (z ∷ ms)) is l)).0

-- a later use has a higher number
uses-grow : (w : Where) (r : RegionId) (ts : List Happening) (b : Happening) (p : RootId) (x : RegionId)
    → LivesOn w r (moves_of ts) → IsAmong b ts → b.move ≡ Begins p x → r.uses < x.uses
uses-grow w r [] b p x lives among is = absurd among
uses-grow w r (g ∷ gs) b p x lives (inl same) is =
    (begin-next w r p x (moves_of gs)
    (subst (λ m. LivesOn w r (m ∷ moves_of gs)) (sym (ap (λ z. z.move) same) ∙ is) lives)).0
uses-grow w r (g ∷ gs) b p x lives (inr among) is =
    let s = onward w r g.move (moves_of gs) lives in
    omega (arith, s.3, uses-grow s.0 s.1 gs b p x s.2 among is)

-- the end of a use and its region's return come no later than a happening
pub record ReturnThen (logs : Logs) (root : RootId) (region : RegionId) (f : Happening) : Type 0 where
  pub end : Event
  pub ended : Happens logs (record { event = end; move = Leaves root region })
  pub back : Happening
  pub back_happens : Happens logs back
  pub back_is : IsReturn region back.move
  pub ends : Reaches logs end back.event
  pub order : (back ≡ f) ⊎ Reaches logs back.event f.event

-- a happening comes before a use of this region, and if it is a return, of fewer uses
pub record Sooner (logs : Logs) (region : RegionId) (f b : Happening) : Type 0 where
  pub order : Reaches logs f.event b.event
  pub fewer : (y : RegionId) → IsReturn y f.move → y.uses < region.uses

module _ (logs : Logs) where
  after-use : (p : RootId) (r : RegionId) (t : Happening) (ts : List Happening) (f : Happening)
      → LivesOn (Used p) r (moves_of ts) → InOrder logs t ts → IsAmong f ts → (f.move ≡ Leaves p r → ⊥)
      → ReturnThen logs p r f
  after-use p r t [] f lives order among other = absurd among
  after-use p r t (d ∷ ds) f lives order (inl same) other =
      absurd (other (ap (λ z. z.move) same ∙ (leave-next p r d.move (moves_of ds) lives).0))
  after-use p r t (d ∷ []) f lives order (inr among) other = absurd among
  after-use p r t (d ∷ g ∷ gs) f lives order (inr among) other =
      let n = leave-next p r d.move (g.move ∷ moves_of gs) lives in
      record {
        end = d.event;
        ended =
            subst (λ m. Happens logs (record { event = d.event; move = m })) n.0
            (first-happens logs d (g ∷ gs) order.1.1);
        back = g;
        back_happens = first-happens logs g gs order.1.1.1.1;
        back_is = return-next r g.move (moves_of gs) n.1;
        ends = among-after logs d (g ∷ gs) g order.1.1 (inl refl);
        order =
            ⊎_elim (λ same. inl (sym same)) (λ later. inr (among-after logs g gs f order.1.1.1.1 later)) among;
      }

  -- a happening of a life other than the use's end comes before the use, or behind the region's return
  pub returns-or : (w : Where) (r : RegionId) (t : Happening) (ts : List Happening) (b f : Happening) (p : RootId)
      (x : RegionId) → LivesOn w r (moves_of ts) → InOrder logs t ts → IsAmong b ts → IsAmong f ts
      → b.move ≡ Begins p x → (f.move ≡ Leaves p x → ⊥) → (b ≡ f) ⊎ (Sooner logs x f b ⊎ ReturnThen logs p x f)
  returns-or w r t [] b f p x lives order at_b at_f is other = absurd at_b
  returns-or w r t (g ∷ gs) b f p x lives order (inl b_is) (inl f_is) is other = inl (b_is ∙ sym f_is)
  returns-or w r t (g ∷ gs) b f p x lives order (inl b_is) (inr at_f) is other =
      let begun : LivesOn w r (Begins p x ∷ moves_of gs) =
      subst (λ m. LivesOn w r (m ∷ moves_of gs)) (sym (ap (λ z. z.move) b_is) ∙ is) lives in
      inr (inr (after-use p x g gs f (begin-next w r p x (moves_of gs) begun).1 order.1.1 at_f other))
  returns-or w r t (g ∷ gs) b f p x lives order (inr at_b) (inl f_is) is other =
      let s = onward w r g.move (moves_of gs) lives in
      inr (inl (record {
        order = subst (λ z. Reaches logs z.event b.event) (sym f_is) (among-after logs g gs b order.1.1 at_b);
        fewer =
            λ y back. let own : y ≡ r = return-own w r y g.move (moves_of gs) lives
            (subst (λ z. IsReturn y z.move) f_is back) in
            omega (arith, ap (λ z. z.uses) own, s.3, uses-grow s.0 s.1 gs b p x s.2 at_b is);
      }))
  returns-or w r t (g ∷ gs) b f p x lives order (inr at_b) (inr at_f) is other =
      let s = onward w r g.move (moves_of gs) lives in
      returns-or s.0 s.1 g gs b f p x s.2 order.1.1 at_b at_f is other

  -- nothing in a life comes behind what gives its region back
  pub give-last : (w : Where) (r : RegionId) (t : Happening) (ts : List Happening) (b f : Happening) (y : RegionId)
      → LivesOn w r (moves_of ts) → InOrder logs t ts → IsAmong b ts → IsAmong f ts → f.move ≡ Gives y
      → (b ≡ f) ⊎ Reaches logs b.event f.event
  give-last w r t [] b f y lives order at_b at_f is = absurd at_b
  give-last w r t (g ∷ gs) b f y lives order (inl b_is) (inl f_is) is = inl (b_is ∙ sym f_is)
  give-last w r t (g ∷ gs) b f y lives order (inl b_is) (inr at_f) is =
      inr (subst (λ z. Reaches logs z.event f.event) (sym b_is) (among-after logs g gs f order.1.1 at_f))
  give-last w r t (g ∷ gs) b f y lives order (inr at_b) (inl f_is) is =
      let given : LivesOn w r (Gives y ∷ moves_of gs) =
      subst (λ m. LivesOn w r (m ∷ moves_of gs)) (sym (ap (λ z. z.move) f_is) ∙ is) lives in
      absurd (none gs (give-own w r y (moves_of gs) given).1 at_b)
    where
      none : (gs : List Happening) → moves_of gs ≡ [] → IsAmong b gs → ⊥
      none [] e among = among
      none (h ∷ hs) e among = absurd (cc e)
  give-last w r t (g ∷ gs) b f y lives order (inr at_b) (inr at_f) is =
      let s = onward w r g.move (moves_of gs) lives in
      give-last s.0 s.1 g gs b f y s.2 order.1.1 at_b at_f is
