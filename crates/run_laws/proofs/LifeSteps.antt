-- The steps of a life: each has one before it, and rises; one comes next, and no other.
use Rattle.std.proofs.Common.{⊎_elim, inl, inr, ◌≡◌, ℕ, zero, suc, ◌+◌, ◌≤◌, refl, sym, ap, subst, arith, Some, ◌∙◌}
use Rattle.std.specs.Prelude.{◌⊎◌, ◌<◌, slice_get}
use Rattle.pool_law.specs.declared.id.RootId.{RootId}
use Rattle.pool_law.specs.declared.id.RegionId.{RegionId}
use Rattle.pool_law.specs.declared.note.Did.{Did}
use Rattle.pool_law.specs.declared.note.Did.TheVariants.{Give, Hit, Kept, Birth, Grow}
use Rattle.pool_law.specs.declared.note.Note.TheVariants.{At}
use Rattle.pool_law.specs.declared.run.Shape.{Shape}
use Rattle.pool_law.specs.Logs.{Logs, of_lane, has_history, history_of, entry_of}
use Rattle.pool_law.specs.Patterns.{one_more}
use Rattle.pool_law.specs.Lives.{Event, Stands, Happening, Happens, Move, Takes, Gives, Keeps, Hits, Sheds, Begins, Leaves, Follows, InOneLog, region_of, cache_of}
use Rattle.run_laws.specs.Hands.{Source, Got, Ended, Dropped}
use Rattle.run_laws.proofs.PagedHistories.{HistoriesPaged}
use Rattle.run_laws.proofs.LogEntries.{LanesAct}
use Rattle.run_laws.proofs.Numbered.{rises-in_log}
use Rattle.run_laws.proofs.Totals.{hits_in, sheds_in, keeps_in, ends_in}
use Rattle.run_laws.proofs.HandSteps.{EndsUse, Empties, IsIn, IsOut}
use Rattle.run_laws.proofs.Doings.{Does, happens, left-region}
use Rattle.run_laws.proofs.EventLaw.{noted}
use Rattle.run_laws.proofs.NextMoves.{FromGot, FromFreed, FromDropped, Steps, Next}
use Rattle.run_laws.proofs.HandMoves.{got-fills, ends-fills, shed-fills, FromHand, onto, OutOf, out-of}
use Rattle.run_laws.proofs.PlaceMoves.{begun-by, left-own}
use Rattle.run_laws.proofs.CacheMoves.{comes-placed, kept-placed, kept-of, gone-of}
use Rattle.run_laws.proofs.LifeMeasure.{ahead, scale, width, phase, number-most}

-- ---- What puts a region down that was in a hand.

abbrev pub IsOutMove : Move → Type 0
IsOutMove (Begins q r) = Unit {0}
IsOutMove (Keeps r) = Unit {0}
IsOutMove (Gives r) = Unit {0}
IsOutMove _ = ⊥

pub got-out : (r : RegionId) (m : Move) → FromGot r m → IsOutMove m
got-out r (Begins q x) s = tt
got-out r (Keeps x) s = tt
got-out r (Gives x) s = tt
got-out r _ s = absurd s

pub freed-out : (r : RegionId) (m : Move) → FromFreed r m → IsOutMove m
freed-out r (Keeps x) s = tt
freed-out r (Gives x) s = tt
freed-out r _ s = absurd s

pub dropped-out : (r : RegionId) (m : Move) → FromDropped r m → IsOutMove m
dropped-out r (Gives x) s = tt
dropped-out r _ s = absurd s

begins-may : (from : Source) (y : RegionId) (d : Did) (q : RootId) (r : RegionId)
    → (d ≡ Birth q r) ⊎ ((c : ℕ) × (d ≡ Grow c r)) → Empties from y d → FromHand from y (Begins q r)
begins-may Got y d q r (inl is) e = subst (Empties Got y) is e
begins-may Got y d q r (inr g) e = subst (Empties Got y) g.1 e
begins-may Ended y d q r (inl is) e = subst (Empties Ended y) is e
begins-may Ended y d q r (inr g) e = subst (Empties Ended y) g.1 e
begins-may Dropped y d q r (inl is) e = subst (Empties Dropped y) is e
begins-may Dropped y d q r (inr g) e = subst (Empties Dropped y) g.1 e

keeps-may : (from : Source) (y : RegionId) (d : Did) (r : RegionId) → d ≡ Kept r → Empties from y d
    → FromHand from y (Keeps r)
keeps-may Got y d r is e = subst (Empties Got y) is e
keeps-may Ended y d r is e = subst (Empties Ended y) is e
keeps-may Dropped y d r is e = subst (Empties Dropped y) is e

gives-may : (from : Source) (y : RegionId) (d : Did) (r : RegionId) → d ≡ Give r → Empties from y d
    → FromHand from y (Gives r)
gives-may Got y d r is e = subst (Empties Got y) is e
gives-may Ended y d r is e = subst (Empties Ended y) is e
gives-may Dropped y d r is e = subst (Empties Dropped y) is e

-- ---- Where a life may stop.

-- a Take is the first
abbrev pub IsTake : Move → Type 0
IsTake (Takes c r) = Unit {0}
IsTake _ = ⊥

module _ (shape : Shape) (logs : Logs) (holds : HistoriesPaged shape logs) (acts : LanesAct logs) where
  abbrev pub Stops : Move → Type 0
  Stops (Gives r) = Unit {0}
  Stops (Begins q r) = ends_in logs r ≡ 0
  Stops _ = ⊥

  -- a happening that comes before an event
  pub record BeforeIt (e : Event) (m : Move) : Type 0 where
    pub first : Happening
    pub happened : Happens logs first
    pub next : Next logs first (record { event = e; move = m })

  from-hand : (e : Event) (m : Move) → (o : OutOf logs acts e) → FromHand o.from o.region m → BeforeIt e m
  from-hand e m o may =
      record {
        first = record { event = o.event; move = o.move };
        happened = happens logs o.event o.move o.stands o.does;
        next = record { steps = o.may m may; follows = o.follows; link = o.link };
      }

  pub back : (e : Event) (m : Move) → Stands logs e → Does logs m e → IsTake m ⊎ BeforeIt e m
  back e (Takes c r) s does = inl tt
  back e (Begins q r) s (inl is) =
      let o = out-of logs acts e s (subst IsOut (sym is) tt) in
      inr (from-hand e (Begins q r) o (begins-may o.from o.region e.did q r (inl is) o.empties))
  back e (Begins q r) s (inr g) =
      let o = out-of logs acts e s (subst IsOut (sym g.1) tt) in
      inr (from-hand e (Begins q r) o (begins-may o.from o.region e.did q r (inr (g.0, g.1)) o.empties))
  back e (Keeps r) s does =
      let o = out-of logs acts e s (subst IsOut (sym does) tt) in
      inr (from-hand e (Keeps r) o (keeps-may o.from o.region e.did r does o.empties))
  back e (Gives r) s does =
      let o = out-of logs acts e s (subst IsOut (sym does) tt) in
      inr (from-hand e (Gives r) o (gives-may o.from o.region e.did r does o.empties))
  back e (Leaves q r) s does =
      let b = begun-by shape logs holds acts q r e does in
      inr (record {
        first = record { event = b.event; move = Begins q r };
        happened = happens logs b.event (Begins q r) b.stands b.does;
        next = record { steps = (refl, refl); follows = b.order; link = tt };
      })
  back e (Hits r) s does =
      let k = kept-of shape logs holds acts r e s (inl does) in
      inr (record {
        first = record { event = k.event; move = Keeps r };
        happened = happens logs k.event (Keeps r) k.stands k.is;
        next = record { steps = refl; follows = k.order; link = k.rank };
      })
  back e (Sheds r) s does =
      let k = kept-of shape logs holds acts r e s (inr does) in
      inr (record {
        first = record { event = k.event; move = Keeps r };
        happened = happens logs k.event (Keeps r) k.stands k.is;
        next = record { steps = refl; follows = k.order; link = k.rank };
      })

  -- a happening that comes behind an event
  pub record BehindIt (e : Event) (m : Move) : Type 0 where
    pub second : Happening
    pub happened : Happens logs second
    pub next : Next logs (record { event = e; move = m }) second

  pub ends-in : (d : Did) → EndsUse d → IsIn d
  ends-in d (inl u) = subst IsIn (sym u.1) tt
  ends-in d (inr u) = subst IsIn (sym u.2) tt

  pub step : (e : Event) (m : Move) → Stands logs e → Does logs m e
      → ((r : RegionId) → m ≡ Keeps r → keeps_in logs r ≡ hits_in logs r + sheds_in logs r)
      → Stops m ⊎ BehindIt e m
  step e (Takes c r) s does even =
      let o = onto logs acts Got r e s (subst IsIn (sym does) tt)
      (λ of y f. got-fills e.did r (inr (c, does)) of y (entry_of logs (At e.object e.number e.did)).region f) in
      inr (record {
        second = record { event = o.event; move = o.move };
        happened = happens logs o.event o.move o.stands o.does;
        next = record { steps = o.may; follows = (o.lane, o.order); link = (Got, r, o.held) };
      })
  step e (Hits r) s does even =
      let o = onto logs acts Got r e s (subst IsIn (sym does) tt)
      (λ of y f. got-fills e.did r (inl does) of y (entry_of logs (At e.object e.number e.did)).region f) in
      inr (record {
        second = record { event = o.event; move = o.move };
        happened = happens logs o.event o.move o.stands o.does;
        next = record { steps = o.may; follows = (o.lane, o.order); link = (Got, r, o.held) };
      })
  step e (Leaves q r) s does even =
      let o = onto logs acts Ended r e s (ends-in e.did does.0)
      (λ of y f. ends-fills e.did r (entry_of logs (At e.object e.number e.did)).region does.0
      (left-region logs e.object e.number e.did does.1.0 does.0 does.1.1 ∙ ap (λ x. Some x) does.1.3) of y f) in
      inr (record {
        second = record { event = o.event; move = o.move };
        happened = happens logs o.event o.move o.stands o.does;
        next = record { steps = o.may; follows = (o.lane, o.order); link = (Ended, r, o.held) };
      })
  step e (Sheds r) s does even =
      let o = onto logs acts Dropped r e s (subst IsIn (sym does) tt)
      (λ of y f. shed-fills e.did r (entry_of logs (At e.object e.number e.did)).region does of y f) in
      inr (record {
        second = record { event = o.event; move = o.move };
        happened = happens logs o.event o.move o.stands o.does;
        next = record { steps = o.may; follows = (o.lane, o.order); link = (Dropped, r, o.held) };
      })
  step e (Begins q r) s does even = go (ends_in logs r) refl
    where
      go : (n : ℕ) → ends_in logs r ≡ n → Stops (Begins q r) ⊎ BehindIt e (Begins q r)
      go zero none = inl none
      go (suc n) some =
          let l = left-own shape logs holds acts q r e s does (omega (arith, some)) in
          inr (record {
            second = record { event = l.0.event; move = Leaves q r };
            happened = happens logs l.0.event (Leaves q r) l.0.stands l.0.does;
            next = record { steps = (refl, refl); follows = l.1; link = tt };
          })
  step e (Keeps r) s does even =
      let g = gone-of shape logs holds acts r e s does (even r refl) in
      ⊎_elim
      (λ hit. inr (record {
        second = record { event = g.event; move = Hits r };
        happened = happens logs g.event (Hits r) g.stands hit;
        next = record { steps = refl; follows = g.order; link = g.rank };
      }))
      (λ shed. inr (record {
        second = record { event = g.event; move = Sheds r };
        happened = happens logs g.event (Sheds r) g.stands shed;
        next = record { steps = refl; follows = g.order; link = g.rank };
      }))
      g.is
  step e (Gives r) s does even = inl tt

  -- ---- A life rises.

  same-scale : (x r : RegionId) → x ≡ r → scale (width logs) x.uses ≡ scale (width logs) r.uses
  same-scale x r is = ap (λ z. scale (width logs) z.uses) is

  more-scale : (x r : RegionId) → x ≡ one_more r → scale (width logs) r.uses + width logs ≤ scale (width logs) x.uses
  more-scale x r is = ahead (width logs) r.uses x.uses (omega (arith, ap (λ z. z.uses) is))

  kept-number : (r : RegionId) (e : Event) → Stands logs e → e.did ≡ Kept r → 1 ≤ e.number
  kept-number r e s is =
      let stood = noted shape logs holds acts e s (ap has_history (kept-placed shape logs holds acts r e s is)) in
      omega (arith, stood.number)

  -- in a log a hit stands before the region is kept anew
  pub hit-kept : (r x : RegionId) (e f : Event) → x ≡ r → Stands logs e → Stands logs f → e.did ≡ Hit r → f.did ≡ Kept x
      → InOneLog e f → e.number < f.number
  hit-kept r x e f same s t hit kept order =
      let here : e.object ≡ cache_of r = comes-placed shape logs holds acts r e s (inl hit) in
      let there : f.object ≡ cache_of r = kept-placed shape logs holds acts x f t kept ∙ ap cache_of same in
      rises-in_log (cache_of r) logs (history_of (cache_of r) logs) (holds.whole (cache_of r) refl) e.lane e.at f.at
      e.number f.number e.did f.did (s ∙ ap (λ o. Some (At o e.number e.did)) here)
      (ap (λ l. slice_get (of_lane logs l) f.at) order.0 ∙ t ∙ ap (λ o. Some (At o f.number f.did)) there) order.1

  pub rises : (m n : Move) (e f : Event) → Stands logs e → Stands logs f → Does logs m e → Does logs n f → Steps m n
      → Follows m e f
      → scale (width logs) (region_of m).uses + phase logs m e.number
      < scale (width logs) (region_of n).uses + phase logs n f.number
  rises (Takes c r) (Begins q x) e f s t a b next follows =
      omega (arith, more-scale x r next)
  rises (Takes c r) (Keeps x) e f s t a b next follows =
      omega (arith, same-scale x r next, kept-number x f t b)
  rises (Takes c r) (Gives x) e f s t a b next follows = omega (arith, same-scale x r next)
  rises (Takes c r) _ e f s t a b next follows = absurd next
  rises (Hits r) (Begins q x) e f s t a b next follows =
      omega (arith, more-scale x r next, number-most logs e s)
  rises (Hits r) (Keeps x) e f s t a b next follows =
      omega (arith, same-scale x r next, hit-kept r x e f next s t a b follows)
  rises (Hits r) (Gives x) e f s t a b next follows =
      omega (arith, same-scale x r next, number-most logs e s)
  rises (Hits r) _ e f s t a b next follows = absurd next
  rises (Begins q r) (Leaves p x) e f s t a b next follows = omega (arith, same-scale x r next.1)
  rises (Begins q r) _ e f s t a b next follows = absurd next
  rises (Leaves q r) (Keeps x) e f s t a b next follows =
      omega (arith, same-scale x r next, kept-number x f t b)
  rises (Leaves q r) (Gives x) e f s t a b next follows = omega (arith, same-scale x r next)
  rises (Leaves q r) _ e f s t a b next follows = absurd next
  rises (Keeps r) (Hits x) e f s t a b next follows = omega (arith, same-scale x r next, follows.1.0)
  rises (Keeps r) (Sheds x) e f s t a b next follows = omega (arith, same-scale x r next, follows.1.0)
  rises (Keeps r) _ e f s t a b next follows = absurd next
  rises (Sheds r) (Gives x) e f s t a b next follows =
      omega (arith, same-scale x r next, number-most logs e s)
  rises (Sheds r) _ e f s t a b next follows = absurd next
  rises (Gives r) n e f s t a b next follows = absurd next
