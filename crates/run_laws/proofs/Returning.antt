-- What a root leaves returns: what puts the region down behind its use, in the same log.
use Rattle.std.proofs.Common.{⊎_elim, inl, inr, ◌≡◌, ℕ, zero, suc, ◌+◌, ◌≤◌, refl, sym, ap, subst, arith, Some, ◌∙◌}
use Rattle.std.specs.Prelude.{◌⊎◌, ◌<◌, slice_get}
use Rattle.pool_law.specs.declared.id.RootId.{RootId}
use Rattle.pool_law.specs.declared.id.RegionId.{RegionId}
use Rattle.pool_law.specs.declared.note.Did.TheVariants.{Take, Give, Hit, Kept, Shed}
use Rattle.pool_law.specs.declared.note.Note.TheVariants.{At}
use Rattle.pool_law.specs.declared.run.Shape.{Shape}
use Rattle.pool_law.specs.Logs.{Logs, of_lane, history_of, entry_of}
use Rattle.pool_law.specs.Lives.{Done, Event, Stands, InOneLog, Move, Gives, Keeps, Leaves, Follows, arena_of, cache_of}
use Rattle.run_laws.specs.Conserved.{Returned}
use Rattle.run_laws.specs.Hands.{Source, Got, Ended, Dropped}
use Rattle.run_laws.proofs.PagedHistories.{HistoriesPaged}
use Rattle.run_laws.proofs.LogEntries.{LanesAct}
use Rattle.run_laws.proofs.Numbered.{rises-in_log}
use Rattle.run_laws.proofs.HandSteps.{Empties, IsOut}
use Rattle.run_laws.proofs.HandNotes.{Held, held-once}
use Rattle.run_laws.proofs.HandTotals.{note-placed}
use Rattle.run_laws.proofs.EventLaw.{the, same-event, stands-as, take-noted, same-leaves}
use Rattle.run_laws.proofs.Doings.{Does, left-region}
use Rattle.run_laws.proofs.NextMoves.{FromFreed, Link}
use Rattle.run_laws.proofs.HandMoves.{ends-fills, GaveBy, Onto, onto, OutOf, out-of}
use Rattle.run_laws.proofs.PlaceMoves.{LeftBy}
use Rattle.run_laws.proofs.CacheMoves.{ComesOut, KeptOf, kept-of, kept-placed, comes-placed}
use Rattle.run_laws.proofs.LifeSteps.{ends-in, hit-kept}

module _ (shape : Shape) (logs : Logs) (holds : HistoriesPaged shape logs) (acts : LanesAct logs) where
  abbrev pub Left : RootId → RegionId → Type 0
  Left root r = LeftBy shape logs holds acts root r

  -- what puts the region down that a root has left
  pub left-onto : (root : RootId) (r : RegionId) (l : Left root r) → Onto logs acts Ended r l.event
  left-onto root r l =
      onto logs acts Ended r l.event l.stands (ends-in shape logs holds acts l.event.did l.does.0)
      (λ of y f. ends-fills l.event.did r (entry_of logs (At l.event.object l.event.number l.event.did)).region l.does.0
      (left-region logs l.event.object l.event.number l.event.did l.does.1.0 l.does.0 l.does.1.1
      ∙ ap (λ x. Some x) l.does.1.3) of y f)

  -- what left a hand after the end of a use is one
  pub one-onto : (root q : RootId) (r : RegionId) (l : Left root r) (o : Onto logs acts Ended r l.event) (e : Event)
      → Stands logs e → (b : Event) → Stands logs b → Does logs (Leaves q r) b → b.lane ≡ e.lane → (from : Source)
      (y : RegionId) → Held logs b.lane b.at e.at from y → e ≡ o.event
  one-onto root q r l o e s b t does lane from y h =
      let same : l.event ≡ b = same-leaves shape logs holds acts r root q l.event b l.stands t l.does does in
      let mine : Held logs l.event.lane l.event.at e.at from y =
      subst (λ x. Held logs x.lane x.at e.at from y) (sym same) h in
      let at : e.at ≡ o.event.at =
      held-once logs acts l.event.lane l.event.at e.at o.event.at from Ended y r mine o.held in
      same-event logs e o.event s o.stands (sym lane ∙ ap (λ x. x.lane) (sym same) ∙ o.lane) at

  -- what comes out of a cache was put there behind the end of the use
  pub put-before : (root : RootId) (r : RegionId) → 1 ≤ r.uses → (l : Left root r) (o : Onto logs acts Ended r l.event)
      → (n : ℕ) (f : Event) → f.number < n → Stands logs f → ComesOut r f.did
      → (o.event.did ≡ Kept r) × (o.event.number < f.number)
  put-before root r used l o zero f less s out = absurd (omega (arith, less))
  put-before root r used l o (suc n) f less s out =
      let k : KeptOf shape logs holds acts r f = kept-of shape logs holds acts r f s out in
      let b = out-of logs acts k.event k.stands (subst IsOut (sym k.is) tt) in
      go k b b.from b.region b.gave (subst (Empties b.from b.region) k.is b.empties)
      (λ g h t under. put-before root r used l o n g under t h)
    where
      go : (k : KeptOf shape logs holds acts r f) (b : OutOf logs acts k.event) (from : Source) (y : RegionId)
          → GaveBy from y b.move → Empties from y (Kept r) →
          ((g : Event) → ComesOut r g.did → Stands logs g → g.number < n
          → (o.event.did ≡ Kept r) × (o.event.number < g.number)) →
          (o.event.did ≡ Kept r) × (o.event.number < f.number)
      go k b Got y (inl t) e again =
          let does : b.event.did ≡ Take t.0 y = subst (λ m. Does logs m b.event) t.1 b.does in
          absurd (omega (
            arith,
            used,
            (take-noted shape logs holds acts y t.0 b.event b.stands does).1.0,
            ap (λ x. x.uses) e,
          ))
      go k b Got y (inr t) e again =
          let does : b.event.did ≡ Hit r =
          subst (λ m. Does logs m b.event) t b.does ∙ ap Hit (sym e) in
          let order = subst (λ m. Follows m b.event k.event) t b.follows in
          let less_k = hit-kept shape logs holds acts r r b.event k.event refl b.stands k.stands does k.is order in
          let up = again b.event (inl does) b.stands (omega (arith, less, less_k, k.order.1.0)) in
          (up.0, omega (arith, up.1, less_k, k.order.1.0))
      go k b Ended y t e again =
          let does : Does logs (Leaves t.0 r) b.event =
          subst (λ z. Does logs (Leaves t.0 z) b.event) (sym e) (subst (λ m. Does logs m b.event) t.1 b.does) in
          let order = subst (λ m. Follows m b.event k.event) t.1 b.follows in
          let link = subst (λ m. Link logs m b.event k.event) t.1 b.link in
          let same : k.event ≡ o.event =
          one-onto root t.0 r l o k.event k.stands b.event b.stands does order.0 link.0 link.1 link.2 in (
            ap (λ x. x.did) (sym same) ∙ k.is,
            omega (arith, ap (λ x. x.number) same, k.order.1.0),
          )
      go k b Dropped y t e again = absurd e

  -- so nothing comes out of the cache in that log before the region is put away
  none-before : (root : RootId) (r : RegionId) → 1 ≤ r.uses → (l : Left root r) (o : Onto logs acts Ended r l.event)
      → (f : Event) → Stands logs f → ComesOut r f.did → f.lane ≡ o.event.lane → f.at < o.event.at → ⊥
  none-before root r used l o f s out lane less =
      let p = put-before root r used l o (f.number + 1) f (omega arith) s out in
      let here : f.object ≡ cache_of r = comes-placed shape logs holds acts r f s out in
      let there : o.event.object ≡ cache_of r = kept-placed shape logs holds acts r o.event o.stands p.0 in
      absurd (omega (
        arith,
        p.1,
        rises-in_log (cache_of r) logs (history_of (cache_of r) logs) (holds.whole (cache_of r) refl) o.event.lane f.at
            o.event.at f.number o.event.number f.did o.event.did
            (ap (λ x. slice_get (of_lane logs x) f.at) (sym lane) ∙ s ∙ ap (λ x. Some (At x f.number f.did)) here)
            (o.stands ∙ ap (λ x. Some (At x o.event.number o.event.did)) there) less,
      ))

  pub left-returned : (root : RootId) (r : RegionId) → 1 ≤ r.uses → (l : Left root r)
      → (a : Returned logs r) × (l.event.lane ≡ a.lane) × (l.event.at < a.at)
  left-returned root r used l =
      let o : Onto logs acts Ended r l.event = left-onto root r l in go o o.move o.may o.does
    where
      hit_none : (o : Onto logs acts Ended r l.event) (d : Done logs (cache_of r) (Hit r)) → d.lane ≡ o.event.lane
          → d.at < o.event.at → ⊥
      hit_none o d lane less = none-before root r used l o (the d) d.stands (inl refl) lane less

      shed_none : (o : Onto logs acts Ended r l.event) (d : Done logs (cache_of r) (Shed r)) → d.lane ≡ o.event.lane
          → d.at < o.event.at → ⊥
      shed_none o d lane less = none-before root r used l o (the d) d.stands (inr refl) lane less

      go : (o : Onto logs acts Ended r l.event) (m : Move) → FromFreed r m → Does logs m o.event
          → (a : Returned logs r) × (l.event.lane ≡ a.lane) × (l.event.at < a.at)
      go o (Keeps x) same does =
          let is : o.event.did ≡ Kept r = does ∙ ap Kept same in
          let here : o.event.object ≡ cache_of r = kept-placed shape logs holds acts r o.event o.stands is in (
            record {
              lane = o.event.lane;
              at = o.event.at;
              number = o.event.number;
              is =
                  inl (stands-as logs o.event (Kept r) o.stands is
                  ∙ ap (λ p. Some (At p o.event.number (Kept r))) here);
              not_hit = hit_none o;
              not_shed = shed_none o;
            },
            o.lane,
            o.order,
          )
      go o (Gives x) same does =
          let is : o.event.did ≡ Give r = does ∙ ap Give same in
          let here : o.event.object ≡ arena_of r =
          note-placed shape logs holds acts o.event.lane o.event.at o.event.number o.event.object (Give r)
          (stands-as logs o.event (Give r) o.stands is) in (
            record {
              lane = o.event.lane;
              at = o.event.at;
              number = o.event.number;
              is =
                  inr (stands-as logs o.event (Give r) o.stands is
                  ∙ ap (λ p. Some (At p o.event.number (Give r))) here);
              not_hit = hit_none o;
              not_shed = shed_none o;
            },
            o.lane,
            o.order,
          )
      go o _ same does = absurd same

  -- what returns was left just before, in the same log
  pub record ReturnedBy (r : RegionId) (a : Returned logs r) : Type 0 where
    pub root : RootId
    pub left : Left root r
    pub lane : left.event.lane ≡ a.lane
    pub order : left.event.at < a.at
    pub held : (from : Source) × (y : RegionId) × Held logs left.event.lane left.event.at a.at from y

  unused-none : (r y : RegionId) → 1 ≤ r.uses → r ≡ y → (c : ℕ) (e : Event) → Stands logs e → e.did ≡ Take c y → ⊥
  unused-none r y used same c e s is =
      absurd (omega (
        arith,
        used,
        (take-noted shape logs holds acts y c e s is).1.0,
        ap (λ x. x.uses) same,
      ))

  returned-by : (r : RegionId) → 1 ≤ r.uses → (a : Returned logs r) (e : Event) → e.lane ≡ a.lane → e.at ≡ a.at
      → (b : OutOf logs acts e) (from : Source) (y : RegionId) → GaveBy from y b.move → Empties from y e.did
      → (e.did ≡ Kept r) ⊎ (e.did ≡ Give r) → ReturnedBy r a
  returned-by r used a e lane at b Got y (inl t) empties is =
      let same : r ≡ y =
      ⊎_elim (λ k. subst (Empties Got y) k empties) (λ g. subst (Empties Got y) g empties) is in
      absurd (unused-none r y used same t.0 b.event b.stands (subst (λ m. Does logs m b.event) t.1 b.does))
  returned-by r used a e lane at b Got y (inr t) empties is =
      let same : r ≡ y =
      ⊎_elim (λ k. subst (Empties Got y) k empties) (λ g. subst (Empties Got y) g empties) is in
      let does : b.event.did ≡ Hit r = subst (λ m. Does logs m b.event) t b.does ∙ ap Hit (sym same) in
      let order : InOneLog b.event e = subst (λ m. Follows m b.event e) t b.follows in
      let here : b.event.object ≡ cache_of r = comes-placed shape logs holds acts r b.event b.stands (inl does) in
      absurd (a.not_hit (record {
        lane = b.event.lane;
        at = b.event.at;
        number = b.event.number;
        stands =
            stands-as logs b.event (Hit r) b.stands does ∙ ap (λ p. Some (At p b.event.number (Hit r))) here;
      }) (order.0 ∙ lane) (omega (arith, order.1, at)))
  returned-by r used a e lane at b Ended y t empties is =
      let same : r ≡ y =
      ⊎_elim (λ k. subst (Empties Ended y) k empties) (λ g. subst (Empties Ended y) g empties) is in
      let order : InOneLog b.event e = subst (λ m. Follows m b.event e) t.1 b.follows in
      let link = subst (λ m. Link logs m b.event e) t.1 b.link in
      record {
        root = t.0;
        left = record {
          event = b.event;
          stands = b.stands;
          does =
              subst (λ z. Does logs (Leaves t.0 z) b.event) (sym same) (subst (λ m. Does logs m b.event) t.1 b.does);
        };
        lane = order.0 ∙ lane;
        order = omega (arith, order.1, at);
        held = (
          link.0,
          link.1,
          subst (λ k. Held logs b.event.lane b.event.at k link.0 link.1) at link.2,
        );
      }
  returned-by r used a e lane at b Dropped y t empties (inl k) = absurd (subst (Empties Dropped y) k empties)
  returned-by r used a e lane at b Dropped y t empties (inr g) =
      let same : r ≡ y = subst (Empties Dropped y) g empties in
      let does : b.event.did ≡ Shed r = subst (λ m. Does logs m b.event) t b.does ∙ ap Shed (sym same) in
      let order : InOneLog b.event e = subst (λ m. Follows m b.event e) t b.follows in
      let here : b.event.object ≡ cache_of r = comes-placed shape logs holds acts r b.event b.stands (inr does) in
      absurd (a.not_shed (record {
        lane = b.event.lane;
        at = b.event.at;
        number = b.event.number;
        stands =
            stands-as logs b.event (Shed r) b.stands does ∙ ap (λ p. Some (At p b.event.number (Shed r))) here;
      }) (order.0 ∙ lane) (omega (arith, order.1, at)))

  pub returned-left : (r : RegionId) → 1 ≤ r.uses → (a : Returned logs r) → ReturnedBy r a
  returned-left r used a =
      ⊎_elim
      (λ kept.
      let b = out-of logs acts
      (record { object = cache_of r; did = Kept r; lane = a.lane; at = a.at; number = a.number }) kept tt in
      returned-by r used a (record { object = cache_of r; did = Kept r; lane = a.lane; at = a.at; number = a.number })
      refl refl b b.from b.region b.gave b.empties (inl refl))
      (λ given.
      let b = out-of logs acts
      (record { object = arena_of r; did = Give r; lane = a.lane; at = a.at; number = a.number }) given tt in
      returned-by r used a (record { object = arena_of r; did = Give r; lane = a.lane; at = a.at; number = a.number })
      refl refl b b.from b.region b.gave b.empties (inr refl))
      a.is
