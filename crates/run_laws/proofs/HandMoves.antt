-- What a lane has in hand comes from one move of the region, and goes on with the next.
use Rattle.std.proofs.Common.{inl, inr, ◌≡◌, ℕ, refl, sym, ap, subst, Some, ◌∙◌}
use Rattle.std.specs.Prelude.{◌⊎◌, ◌<◌, Option, slice_get}
use Rattle.pool_law.specs.declared.id.RootId.{RootId}
use Rattle.pool_law.specs.declared.id.RegionId.{RegionId}
use Rattle.pool_law.specs.declared.note.Object.{Object}
use Rattle.pool_law.specs.declared.note.Did.{Did}
use Rattle.pool_law.specs.declared.note.Did.TheVariants.{Take, Give, Hit, Kept, Shed, Birth, Grow, End}
use Rattle.pool_law.specs.declared.note.Note.TheVariants.{At}
use Rattle.pool_law.specs.Roots.{Present}
use Rattle.pool_law.specs.Logs.{Logs, of_lane, entry_of}
use Rattle.pool_law.specs.Lives.{Event, Stands, Move, Takes, Gives, Keeps, Hits, Sheds, Begins, Leaves, Follows, present_at}
use Rattle.run_laws.specs.Hands.{Source, Got, Ended, Dropped}
use Rattle.run_laws.proofs.LogEntries.{LanesAct}
use Rattle.run_laws.proofs.HandSteps.{EndsUse, Fills, Empties, IsIn, IsOut}
use Rattle.run_laws.proofs.HandNotes.{Held, held-from, held-to}
use Rattle.run_laws.proofs.Doings.{Does, left-present}
use Rattle.run_laws.proofs.NextMoves.{FromGot, FromFreed, FromDropped, Steps, Link}

-- what gave a region into a hand tells where it came from, and which it is
pub got-fills : (d : Did) (r : RegionId) → (d ≡ Hit r) ⊎ ((c : ℕ) × (d ≡ Take c r)) → (from : Source) (y : RegionId)
    (t : Option RegionId) → Fills from y t d → (from ≡ Got) × (y ≡ r)
got-fills d r (inl a) Got y t (inl f) = let e : Hit y ≡ Hit r = sym f ∙ a in (refl, cc e)
got-fills d r (inl a) Got y t (inr f) = let e : Take f.0 y ≡ Hit r = sym f.1 ∙ a in absurd (cc e)
got-fills d r (inr a) Got y t (inl f) = let e : Hit y ≡ Take a.0 r = sym f ∙ a.1 in absurd (cc e)
got-fills d r (inr a) Got y t (inr f) = let e : Take f.0 y ≡ Take a.0 r = sym f.1 ∙ a.1 in (refl, cc e)
got-fills d r (inl a) Ended y t (inl u, f) = let e : End u.0 ≡ Hit r = sym u.1 ∙ a in absurd (cc e)
got-fills d r (inl a) Ended y t (inr u, f) = let e : Grow u.0 u.1 ≡ Hit r = sym u.2 ∙ a in absurd (cc e)
got-fills d r (inr a) Ended y t (inl u, f) = let e : End u.0 ≡ Take a.0 r = sym u.1 ∙ a.1 in absurd (cc e)
got-fills d r (inr a) Ended y t (inr u, f) = let e : Grow u.0 u.1 ≡ Take a.0 r = sym u.2 ∙ a.1 in absurd (cc e)
got-fills d r (inl a) Dropped y t f = let e : Shed y ≡ Hit r = sym f ∙ a in absurd (cc e)
got-fills d r (inr a) Dropped y t f = let e : Shed y ≡ Take a.0 r = sym f ∙ a.1 in absurd (cc e)

pub ends-fills : (d : Did) (r : RegionId) (t : Option RegionId) → EndsUse d → t ≡ Some r → (from : Source)
    (y : RegionId) → Fills from y t d → (from ≡ Ended) × (y ≡ r)
ends-fills d r t (inl u) is Got y (inl f) = let e : Hit y ≡ End u.0 = sym f ∙ u.1 in absurd (cc e)
ends-fills d r t (inl u) is Got y (inr f) = let e : Take f.0 y ≡ End u.0 = sym f.1 ∙ u.1 in absurd (cc e)
ends-fills d r t (inr u) is Got y (inl f) = let e : Hit y ≡ Grow u.0 u.1 = sym f ∙ u.2 in absurd (cc e)
ends-fills d r t (inr u) is Got y (inr f) = let e : Take f.0 y ≡ Grow u.0 u.1 = sym f.1 ∙ u.2 in absurd (cc e)
ends-fills d r t ends is Ended y f = let e : Some y ≡ Some r = sym f.1 ∙ is in (refl, cc e)
ends-fills d r t (inl u) is Dropped y f = let e : Shed y ≡ End u.0 = sym f ∙ u.1 in absurd (cc e)
ends-fills d r t (inr u) is Dropped y f = let e : Shed y ≡ Grow u.0 u.1 = sym f ∙ u.2 in absurd (cc e)

pub shed-fills : (d : Did) (r : RegionId) (t : Option RegionId) → d ≡ Shed r → (from : Source) (y : RegionId)
    → Fills from y t d → (from ≡ Dropped) × (y ≡ r)
shed-fills d r t is Got y (inl f) = let e : Hit y ≡ Shed r = sym f ∙ is in absurd (cc e)
shed-fills d r t is Got y (inr f) = let e : Take f.0 y ≡ Shed r = sym f.1 ∙ is in absurd (cc e)
shed-fills d r t is Ended y (inl u, f) = let e : End u.0 ≡ Shed r = sym u.1 ∙ is in absurd (cc e)
shed-fills d r t is Ended y (inr u, f) = let e : Grow u.0 u.1 ≡ Shed r = sym u.2 ∙ is in absurd (cc e)
shed-fills d r t is Dropped y f = let e : Shed y ≡ Shed r = sym f ∙ is in (refl, cc e)

-- the move that gave a region into a hand
abbrev pub GaveBy : Source → RegionId → Move → Type 0
GaveBy Got r m = ((c : ℕ) × (m ≡ Takes c r)) ⊎ (m ≡ Hits r)
GaveBy Ended r m = (root : RootId) × (m ≡ Leaves root r)
GaveBy Dropped r m = m ≡ Sheds r

-- what may come of a region in hand, by where it came from
abbrev pub FromHand : Source → RegionId → Move → Type 0
FromHand Got r m = FromGot r m
FromHand Ended r m = FromFreed r m
FromHand Dropped r m = FromDropped r m

module _ (logs : Logs) (acts : LanesAct logs) where
  -- where a root grows one is present
  pub growth-finds : (lane k n c : ℕ) (o : Object) (x : RegionId)
      → slice_get (of_lane logs lane) k ≡ Some (At o n (Grow c x))
      → (p : Present) × (present_at logs o n ≡ Some p)
  growth-finds lane k n c o x is =
      let h = held-from logs acts lane k n o (Grow c x) is tt in go h.1 h.2 h.4
    where
      go : (from : Source) (y : RegionId) → Fills from y (entry_of logs (At o n (Grow c x))).region (Grow c x)
          → (p : Present) × (present_at logs o n ≡ Some p)
      go Got y (inl f) = absurd (cc f)
      go Got y (inr f) = absurd (cc f.1)
      go Ended y f = let p = left-present logs o n (Grow c x) y f.0 f.1 in (p.0, p.1)
      go Dropped y f = absurd (cc f)

  -- the move that puts a region down that came into the hand with an event
  pub record Onto (from : Source) (r : RegionId) (e : Event) : Type 0 where
    pub event : Event
    pub move : Move
    pub stands : Stands logs event
    pub does : Does logs move event
    pub may : FromHand from r move
    pub lane : e.lane ≡ event.lane
    pub order : e.at < event.at
    pub held : Held logs e.lane e.at event.at from r

  pub onto : (from : Source) (r : RegionId) (e : Event) → Stands logs e → IsIn e.did
      → ((of : Source) (y : RegionId) → Fills of y (entry_of logs (At e.object e.number e.did)).region e.did
      → (of ≡ from) × (y ≡ r)) → Onto from r e
  onto from r e s kind tells =
      let h = held-from logs acts e.lane e.at e.number e.object e.did s kind in
      let same = tells h.1 h.2 h.4 in
      go from r h.0 (subst (λ y. Held logs e.lane e.at h.0 from y) same.1
      (subst (λ of. Held logs e.lane e.at h.0 of h.2) same.0 h.3))
    where
      goes : (from : Source) (r : RegionId) (k : ℕ) → (h : Held logs e.lane e.at k from r) → (d : Did)
          → h.out ≡ d → (m : Move)
          → Does logs m (record { object = h.out_object; did = h.out; lane = e.lane; at = k; number = h.out_number })
          → FromHand from r m → Onto from r e
      goes from r k h d is m does may =
          record {
            event = record {
              object = h.out_object;
              did = h.out;
              lane = e.lane;
              at = k;
              number = h.out_number;
            };
            move = m;
            stands = h.out_is;
            does = does;
            may = may;
            lane = refl;
            order = h.order;
            held = h;
          }

      go : (from : Source) (r : RegionId) (k : ℕ) → Held logs e.lane e.at k from r → Onto from r e
      go from r k h = by from r h h.out refl h.empties
        where
          by : (from : Source) (r : RegionId) (h : Held logs e.lane e.at k from r) (d : Did) → h.out ≡ d
              → Empties from r d → Onto from r e
          by Got r h (Birth root x) is e' = goes Got r k h (Birth root x) is (Begins root x) (inl is) e'
          by Got r h (Grow c x) is e' =
              let p = growth-finds e.lane k h.out_number c h.out_object x
              (h.out_is ∙ ap (λ d. Some (At h.out_object h.out_number d)) is) in
              goes Got r k h (Grow c x) is (Begins p.0.root x) (inr (c, is, (p.0, p.1, refl))) e'
          by Got r h (Kept x) is e' = goes Got r k h (Kept x) is (Keeps x) is e'
          by Got r h (Give x) is e' = goes Got r k h (Give x) is (Gives x) is e'
          by Got r h _ is e' = absurd e'
          by Ended r h (Kept x) is e' = goes Ended r k h (Kept x) is (Keeps x) is e'
          by Ended r h (Give x) is e' = goes Ended r k h (Give x) is (Gives x) is e'
          by Ended r h _ is e' = absurd e'
          by Dropped r h (Give x) is e' = goes Dropped r k h (Give x) is (Gives x) is e'
          by Dropped r h _ is e' = absurd e'

  -- the move that gave a region into the hand, which an event puts down
  pub record OutOf (e : Event) : Type 0 where
    pub event : Event
    pub move : Move
    pub stands : Stands logs event
    pub does : Does logs move event
    pub from : Source
    pub region : RegionId
    pub gave : GaveBy from region move
    pub empties : Empties from region e.did
    pub may : (m : Move) → FromHand from region m → Steps move m
    pub follows : Follows move event e
    pub link : Link logs move event e

  -- the event that filled the hand
  abbrev came : (e : Event) (i : ℕ) (from : Source) (y : RegionId) → Held logs e.lane i e.at from y → Event
  came e i from y h =
      record { object = h.into_object; did = h.into; lane = e.lane; at = i; number = h.into_number }

  pub out-of : (e : Event) → Stands logs e → IsOut e.did → OutOf e
  out-of e s kind =
      let h = held-to logs acts e.lane e.at e.number e.object e.did s kind in go h.0 h.1 h.2 h.3 h.4
    where
      comes : (i : ℕ) (from : Source) (y : RegionId) (h : Held logs e.lane i e.at from y) → Empties from y e.did
          → (m : Move) → GaveBy from y m → Does logs m (came e i from y h)
          → ((n : Move) → FromHand from y n → Steps m n)
          → Follows m (came e i from y h) e → Link logs m (came e i from y h) e → OutOf e
      comes i from y h empties m gave does may follows link =
          record {
            event = came e i from y h;
            move = m;
            stands = h.into_is;
            does = does;
            from = from;
            region = y;
            gave = gave;
            empties = empties;
            may = may;
            follows = follows;
            link = link;
          }

      got : (i : ℕ) (y : RegionId) (h : Held logs e.lane i e.at Got y) → Empties Got y e.did
          → Fills Got y (entry_of logs (At h.into_object h.into_number h.into)).region h.into → OutOf e
      got i y h empties (inl f) =
          comes i Got y h empties (Hits y) (inr refl) f (λ n may. may) (refl, h.order) (Got, y, h)
      got i y h empties (inr f) =
          comes i Got y h empties (Takes f.0 y) (inl (f.0, refl)) f.1 (λ n may. may) (refl, h.order) (Got, y, h)

      go : (i : ℕ) (from : Source) (y : RegionId) → Held logs e.lane i e.at from y → Empties from y e.did → OutOf e
      go i Got y h empties = got i y h empties h.fills
      go i Ended y h empties =
          let p = left-present logs h.into_object h.into_number h.into y h.fills.0 h.fills.1 in
          comes i Ended y h empties (Leaves p.0.root y) (p.0.root, refl) (h.fills.0, (p.0, p.1, refl, p.2))
          (λ n may. may) (refl, h.order) (Ended, y, h)
      go i Dropped y h empties =
          comes i Dropped y h empties (Sheds y) refl h.fills (λ n may. may) (refl, h.order) (Dropped, y, h)
