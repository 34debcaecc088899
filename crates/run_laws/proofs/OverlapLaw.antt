-- Of two uses whose places overlap one ended before the other began: what the lives of takings say.
use Rattle.std.proofs.Common.{⊎_elim, inl, inr, ◌≡◌, ℕ, List, [], ◌∷◌, ◌++◌, refl, sym, ap, subst, ◌∙◌}
use Rattle.std.specs.Prelude.{◌⊎◌, IsTrue}
use Rattle.pool_law.specs.declared.id.RootId.{RootId}
use Rattle.pool_law.specs.declared.id.RegionId.{RegionId}
use Rattle.pool_law.specs.declared.note.Object.{Object}
use Rattle.pool_law.specs.Places.{Overlap}
use Rattle.pool_law.specs.Same.{same_taking}
use Rattle.pool_law.specs.Logs.{Logs}
use Rattle.pool_law.specs.Lives.{arena_of, with_uses, Event, Stands, InOneLog, AtOneObject, Happening, Happens, Move, Takes, Gives, Keeps, Hits, Sheds, Begins, Leaves, Where, Got, Used, Freed, Cached, Dropped, LivesOn, Follows, IsAmong, InOrder, moves_of, Life, RegionsLive, IsUse, region_of}
use Rattle.pool_law.specs.Apart.{Leads, Before, EndsBefore, IsOneUse, NeverOverlap, LieApart}
use Rattle.pool_law.proofs.PatternLemmas.{same_taking-refl}
use Rattle.run_laws.proofs.Doings.{happens}
use Rattle.run_laws.proofs.EventLaw.{the}
use Rattle.run_laws.proofs.Births.{use_event, use-does}

-- one event leads to another by way of some
abbrev pub Reaches : Logs → Event → Event → Type 0
Reaches logs e g = (between : List Event) × Leads logs e between g

pub leads-on : (logs : Logs) (e : Event) (fs : List Event) (f : Event) (gs : List Event) (g : Event) → Leads logs e fs f
    → Stands logs f → Leads logs f gs g → Leads logs e (fs ++ f ∷ gs) g
leads-on logs e [] f gs g one s two = (one, (s, two))
leads-on logs e (x ∷ fs) f gs g one s two = (one.0, (one.1.0, leads-on logs x fs f gs g one.1.1 s two))

pub reach : (logs : Logs) (e f g : Event) → Reaches logs e f → Stands logs f → Reaches logs f g → Reaches logs e g
reach logs e f g one s two = (one.0 ++ f ∷ two.0, leads-on logs e one.0 f two.0 g one.1 s two.1)

pub follows-later : (m : Move) (e f : Event) → Follows m e f → InOneLog e f ⊎ AtOneObject e f
follows-later (Begins root region) e f h = inr h
follows-later (Keeps region) e f h = inr h
follows-later _ e f h = inl h

pub first-happens : (logs : Logs) (t : Happening) (ts : List Happening) → InOrder logs t ts → Happens logs t
first-happens logs t [] order = order
first-happens logs t (u ∷ us) order = order.0

-- a happening leads to each that comes later in its chain
pub among-after : (logs : Logs) (t : Happening) (ts : List Happening) (u : Happening) → InOrder logs t ts
    → IsAmong u ts → Reaches logs t.event u.event
among-after logs t [] u order among = absurd among
among-after logs t (v ∷ vs) u order (inl same) = (
  [],
  subst (λ x. InOneLog t.event x.event ⊎ AtOneObject t.event x.event) (sym same)
      (follows-later t.move t.event v.event order.1.0),
)
among-after logs t (v ∷ vs) u order (inr among) =
    let r : Reaches logs v.event u.event = among-after logs v vs u order.1.1 among in (
      v.event ∷ r.0,
      (
        follows-later t.move t.event v.event order.1.0,
        ((first-happens logs v vs order.1.1).stands, r.1),
      ),
    )

-- what a life's first move says, and how it goes on
pub record Step (w : Where) (r : RegionId) (m : Move) (ms : List Move) : Type 0 where
  pub to : Where
  pub region : RegionId
  pub rest : LivesOn to region ms
  pub begin : (root : RootId) (x : RegionId) → m ≡ Begins root x → (to ≡ Used root) × (region ≡ x)
  pub used : (root : RootId) → w ≡ Used root → m ≡ Leaves root r
  pub give : (x : RegionId) → m ≡ Gives x → ms ≡ []
  pub take : (c : ℕ) (x : RegionId) → m ≡ Takes c x → ⊥

abbrev no_root : RootId
no_root = record { place = 0; generation = 0; capacity = 0 }

pub step : (w : Where) (r : RegionId) (m : Move) (ms : List Move) → LivesOn w r (m ∷ ms) → Step w r m ms
step Got r (Begins root x) ms l =
    record {
      to = Used root;
      region = x;
      rest = l.1;
      begin = λ p y e. (ap Used (let same : root ≡ p = cc e in same), (let same : x ≡ y = cc e in same));
      used = λ p e. absurd (cc e);
      give = λ y e. absurd (cc e);
      take = λ c y e. absurd (cc e);
    }
step Got r (Keeps x) ms l =
    record {
      to = Cached;
      region = r;
      rest = l.1;
      begin = λ p y e. absurd (cc e);
      used = λ p e. absurd (cc e);
      give = λ y e. absurd (cc e);
      take = λ c y e. absurd (cc e);
    }
step Got r (Gives x) [] l =
    record {
      to = Used no_root;
      region = r;
      rest = tt;
      begin = λ p y e. absurd (cc e);
      used = λ p e. absurd (cc e);
      give = λ y e. refl;
      take = λ c y e. absurd (cc e);
    }
step (Used root) r (Leaves q x) ms l =
    record {
      to = Freed;
      region = r;
      rest = l.1.1;
      begin = λ p y e. absurd (cc e);
      used = λ p e. (let same : root ≡ p = cc e in λ i. Leaves ((l.0 ∙ same) i) (l.1.0 i));
      give = λ y e. absurd (cc e);
      take = λ c y e. absurd (cc e);
    }
step Freed r (Keeps x) ms l =
    record {
      to = Cached;
      region = r;
      rest = l.1;
      begin = λ p y e. absurd (cc e);
      used = λ p e. absurd (cc e);
      give = λ y e. absurd (cc e);
      take = λ c y e. absurd (cc e);
    }
step Freed r (Gives x) [] l =
    record {
      to = Used no_root;
      region = r;
      rest = tt;
      begin = λ p y e. absurd (cc e);
      used = λ p e. absurd (cc e);
      give = λ y e. refl;
      take = λ c y e. absurd (cc e);
    }
step Cached r (Hits x) ms l =
    record {
      to = Got;
      region = r;
      rest = l.1;
      begin = λ p y e. absurd (cc e);
      used = λ p e. absurd (cc e);
      give = λ y e. absurd (cc e);
      take = λ c y e. absurd (cc e);
    }
step Cached r (Sheds x) ms l =
    record {
      to = Dropped;
      region = r;
      rest = l.1;
      begin = λ p y e. absurd (cc e);
      used = λ p e. absurd (cc e);
      give = λ y e. absurd (cc e);
      take = λ c y e. absurd (cc e);
    }
step Dropped r (Gives x) [] l =
    record {
      to = Used no_root;
      region = r;
      rest = tt;
      begin = λ p y e. absurd (cc e);
      used = λ p e. absurd (cc e);
      give = λ y e. refl;
      take = λ c y e. absurd (cc e);
    }
step w r m ms l = absurd l

-- the end of a use, from which an event comes later
pub record EndThen (logs : Logs) (root : RootId) (region : RegionId) (f : Event) : Type 0 where
  pub end : Event
  pub ended : Happens logs (record { event = end; move = Leaves root region })
  pub order : Reaches logs end f

module _ (logs : Logs) where
  -- what comes behind a use comes behind its end
  pub after-use : (p : RootId) (r : RegionId) (t : Happening) (ts : List Happening) (u : Happening)
      → LivesOn (Used p) r (moves_of ts) → InOrder logs t ts → IsAmong u ts → (u.move ≡ Leaves p r → ⊥)
      → EndThen logs p r u.event
  after-use p r t [] u lives order among other = absurd among
  after-use p r t (v ∷ vs) u lives order (inl same) other =
      absurd (other (ap (λ x. x.move) same ∙ (step (Used p) r v.move (moves_of vs) lives).used p refl))
  after-use p r t (v ∷ vs) u lives order (inr among) other =
      record {
        end = v.event;
        ended =
            subst (λ m. Happens logs (record { event = v.event; move = m }))
            ((step (Used p) r v.move (moves_of vs) lives).used p refl) (first-happens logs v vs order.1.1);
        order = among-after logs v vs u order.1.1 among;
      }

  after-begin : (p : RootId) (x : RegionId) (w : Where) (r : RegionId) (v : Happening) (vs : List Happening)
      (u : Happening) → LivesOn w r (v.move ∷ moves_of vs) → InOrder logs v vs → v.move ≡ Begins p x → IsAmong u vs
      → (u.move ≡ Leaves p x → ⊥) → EndThen logs p x u.event
  after-begin p x w r v vs u lives order is among other =
      let s : Step w r v.move (moves_of vs) = step w r v.move (moves_of vs) lives in
      let b = s.begin p x is in
      after-use p x v vs u
      (subst (λ z. LivesOn z x (moves_of vs)) b.0 (subst (λ z. LivesOn s.to z (moves_of vs)) b.1 s.rest)) order among
      other

  begin-no_end : (m : Move) (p q : RootId) (x y : RegionId) → m ≡ Begins p x → m ≡ Leaves q y → ⊥
  begin-no_end m p q x y e f = let same : Begins p x ≡ Leaves q y = sym e ∙ f in absurd (cc same)

  give-no_end : (m : Move) (q : RootId) (x y : RegionId) → m ≡ Gives x → m ≡ Leaves q y → ⊥
  give-no_end m q x y e f = let same : Gives x ≡ Leaves q y = sym e ∙ f in absurd (cc same)

  -- of two uses of a taking one ended before the other began
  pub two-uses : (w : Where) (r : RegionId) (t : Happening) (ts : List Happening) (p q : RootId) (x y : RegionId)
      (b c : Happening) → LivesOn w r (moves_of ts) → InOrder logs t ts → IsAmong b ts → IsAmong c ts
      → b.move ≡ Begins p x → c.move ≡ Begins q y → (IsOneUse p x q y → ⊥)
      → EndThen logs p x c.event ⊎ EndThen logs q y b.event
  two-uses w r t [] p q x y b c lives order at_b at_c is_b is_c differ = absurd at_b
  two-uses w r t (v ∷ vs) p q x y b c lives order (inl b_is) (inl c_is) is_b is_c differ =
      let same : Begins p x ≡ Begins q y = sym is_b ∙ ap (λ z. z.move) (b_is ∙ sym c_is) ∙ is_c in
      absurd (differ (cc same, cc same))
  two-uses w r t (v ∷ vs) p q x y b c lives order (inl b_is) (inr at_c) is_b is_c differ =
      inl (after-begin p x w r v vs c lives order.1.1 (sym (ap (λ z. z.move) b_is) ∙ is_b) at_c
      (begin-no_end c.move q p y x is_c))
  two-uses w r t (v ∷ vs) p q x y b c lives order (inr at_b) (inl c_is) is_b is_c differ =
      inr (after-begin q y w r v vs b lives order.1.1 (sym (ap (λ z. z.move) c_is) ∙ is_c) at_b
      (begin-no_end b.move p q x y is_b))
  two-uses w r t (v ∷ vs) p q x y b c lives order (inr at_b) (inr at_c) is_b is_c differ =
      let s : Step w r v.move (moves_of vs) = step w r v.move (moves_of vs) lives in
      two-uses s.to s.region v vs p q x y b c s.rest order.1.1 at_b at_c is_b is_c differ

  -- where a taking came back each of its uses ended before that
  pub use-back : (w : Where) (r : RegionId) (t : Happening) (ts : List Happening) (p : RootId) (x y : RegionId)
      (b f : Happening) → LivesOn w r (moves_of ts) → InOrder logs t ts → IsAmong b ts → IsAmong f ts
      → b.move ≡ Begins p x → f.move ≡ Gives y → EndThen logs p x f.event
  use-back w r t [] p x y b f lives order at_b at_f is_b is_f = absurd at_b
  use-back w r t (v ∷ vs) p x y b f lives order (inl b_is) (inl f_is) is_b is_f =
      let same : Begins p x ≡ Gives y = sym is_b ∙ ap (λ z. z.move) (b_is ∙ sym f_is) ∙ is_f in absurd (cc same)
  use-back w r t (v ∷ vs) p x y b f lives order (inl b_is) (inr at_f) is_b is_f =
      after-begin p x w r v vs f lives order.1.1 (sym (ap (λ z. z.move) b_is) ∙ is_b) at_f
      (give-no_end f.move p y x is_f)
  use-back w r t (v ∷ vs) p x y b f lives order (inr at_b) (inl f_is) is_b is_f =
      let s : Step w r v.move (moves_of vs) = step w r v.move (moves_of vs) lives in
      absurd (none vs (s.give y (sym (ap (λ z. z.move) f_is) ∙ is_f)) at_b)
    where
      none : (vs : List Happening) → moves_of vs ≡ [] → IsAmong b vs → ⊥
      none [] e among = among
      none (v ∷ vs) e among = absurd (cc e)
  use-back w r t (v ∷ vs) p x y b f lives order (inr at_b) (inr at_f) is_b is_f =
      let s : Step w r v.move (moves_of vs) = step w r v.move (moves_of vs) lives in
      use-back s.to s.region v vs p x y b f s.rest order.1.1 at_b at_f is_b is_f

  -- a life has one Take
  pub no-take : (w : Where) (r : RegionId) (ts : List Happening) (t : Happening) (c : ℕ) (x : RegionId)
      → LivesOn w r (moves_of ts) → IsAmong t ts → t.move ≡ Takes c x → ⊥
  no-take w r [] t c x lives among is = among
  no-take w r (v ∷ vs) t c x lives (inl same) is =
      (step w r v.move (moves_of vs) lives).take c x (sym (ap (λ z. z.move) same) ∙ is)
  no-take w r (v ∷ vs) t c x lives (inr among) is =
      let s : Step w r v.move (moves_of vs) = step w r v.move (moves_of vs) lives in
      no-take s.to s.region vs t c x s.rest among is

  -- a happening of a life other than its Take
  later-of : (t : RegionId) (l : Life logs t) (u : Happening) → Happens logs u
      → IsTrue (same_taking t (region_of u.move)) → (u.move ≡ Takes t.class t → ⊥) → IsAmong u l.later
  later-of t l u h same other =
      ⊎_elim (λ first. absurd (other (ap (λ z. z.move) first ∙ l.taken))) (λ among. among) (l.all u h same)

  -- a use, as a happening
  abbrev pub the_use : {root : RootId} {region : RegionId} → IsUse logs root region → Happening
  the_use {root = root} {region = region} u = record { event = use_event u; move = Begins root region }

  pub use-happens : (root : RootId) (r : RegionId) (u : IsUse logs root r) → Happens logs (the_use u)
  use-happens root r u = happens logs (use_event u) (Begins root r) u.stands (use-does logs root r u)

  uses-later : (t : RegionId) (l : Life logs (with_uses t 0)) (root : RootId) (x : RegionId) (u : IsUse logs root x)
      → IsTrue (same_taking t x) → IsAmong (the_use u) l.later
  uses-later t l root x u same =
      later-of (with_uses t 0) l (the_use u) (use-happens root x u) same (λ e. absurd (cc e))

  module _ (lives : RegionsLive logs) where
    life-of : (root : RootId) (r : RegionId) → IsUse logs root r → Life logs (with_uses r 0)
    life-of root r u = lives (the_use u) (use-happens root r u)

    ends-before : (first second : RootId) (a b : RegionId) (v : IsUse logs second b)
        → EndThen logs first a (use_event v) → EndsBefore logs first a second b
    ends-before first second a b v e =
        record {
          end = e.end;
          birth = use_event v;
          ended = e.ended;
          born = use-happens second b v;
          between = e.order.0;
          order = e.order.1;
        }

    -- the taking of the first came back before that of the second was taken
    pub apart-before : (first second : RootId) (a b : RegionId) → IsUse logs first a → IsUse logs second b
        → Overlap a.place b.place → Before logs a b → EndsBefore logs first a second b
    apart-before first second a b u v over before =
        let l : Life logs (with_uses a 0) = life-of first a u in
        let m : Life logs (with_uses b 0) = life-of second b v in
        let gives : Happens logs (record { event = the before.given; move = Gives (with_uses a before.uses) }) =
        happens logs (the before.given) (Gives (with_uses a before.uses)) before.given.stands refl in
        let takes : Happens logs (record { event = the before.taken; move = Takes b.class (with_uses b 0) }) =
        happens logs (the before.taken) (Takes b.class (with_uses b 0)) before.taken.stands refl in
        let at_given : IsAmong (record { event = the before.given; move = Gives (with_uses a before.uses) }) l.later =
        later-of (with_uses a 0) l (record { event = the before.given; move = Gives (with_uses a before.uses) }) gives
        (same_taking-refl a) (λ e. absurd (cc e)) in
        let end : EndThen logs first a (the before.given) =
        use-back Got (with_uses a 0) l.take l.later first a (with_uses a before.uses) (the_use u)
        (record { event = the before.given; move = Gives (with_uses a before.uses) }) l.lives l.order
        (uses-later a l first a u (same_taking-refl a)) at_given refl refl in
        let taken_is : record { event = the before.taken; move = Takes b.class (with_uses b 0) } ≡ m.take =
        ⊎_elim (λ same. same)
        (λ among. absurd (no-take Got (with_uses b 0) m.later
        (record { event = the before.taken; move = Takes b.class (with_uses b 0) }) b.class (with_uses b 0) m.lives
        among refl))
        (m.all (record { event = the before.taken; move = Takes b.class (with_uses b 0) }) takes
        (same_taking-refl b)) in
        let born : Reaches logs (the before.taken) (use_event v) =
        subst (λ t. Reaches logs t.event (use_event v)) (sym taken_is)
        (among-after logs m.take m.later (the_use v) m.order (uses-later b m second b v (same_taking-refl b))) in
        let arenas : arena_of a ≡ arena_of b = ap Object.Arena over.arena in
        let back : Reaches logs (the before.given) (the before.taken) = ([], inr (arenas, (before.order, refl))) in
        let way : Reaches logs end.end (use_event v) =
        reach logs end.end (the before.given) (use_event v) end.order before.given.stands
        (reach logs (the before.given) (the before.taken) (use_event v) back before.taken.stands born) in
        ends-before first second a b v (record { end = end.end; ended = end.ended; order = way })

    overlap-back : (a b : RegionId) → Overlap a.place b.place → Overlap b.place a.place
    overlap-back a b over =
        record { arena = sym over.arena; chunk = sym over.chunk; first = over.second; second = over.first }

    pub never-overlap : LieApart logs → NeverOverlap logs
    never-overlap apart first second a b u v differ over =
        ⊎_elim
        (λ same.
        let l : Life logs (with_uses a 0) = life-of first a u in
        ⊎_elim (λ e. inl (ends-before first second a b v e)) (λ e. inr (ends-before second first b a u e))
        (two-uses Got (with_uses a 0) l.take l.later first second a b (the_use u) (the_use v) l.lives l.order
        (uses-later a l first a u (same_taking-refl a)) (uses-later a l second b v same) refl refl differ))
        (λ before. ⊎_elim (λ x. inl (apart-before first second a b u v over x))
        (λ x. inr (apart-before second first b a v u (overlap-back a b over) x)) before)
        (apart first second a b u v differ over)
