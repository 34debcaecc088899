-- The life of a taking, as one chain of happenings from its Take on.
use Rattle.std.proofs.Common.{⊎_elim, inl, inr, ◌≡◌, ℕ, ◌+◌, ◌≤◌, List, [], ◌∷◌, length, refl, sym, ap, subst, arith, true, Some, ◌∙◌}
use Rattle.std.specs.Prelude.{◌<◌, map, IsTrue, slice_get}
use Rattle.pool_law.specs.declared.id.RegionId.{RegionId}
use Rattle.pool_law.specs.declared.note.Object.{Object}
use Rattle.pool_law.specs.declared.note.Did.{Did}
use Rattle.pool_law.specs.declared.note.Did.TheVariants.{Take, Give, Kept, Birth}
use Rattle.pool_law.specs.declared.note.Note.TheVariants.{At}
use Rattle.pool_law.specs.declared.run.Shape.{Shape}
use Rattle.pool_law.specs.Same.{same_taking}
use Rattle.pool_law.specs.Logs.{Logs, of_lane, entry_of}
use Rattle.pool_law.specs.Lives.{Event, Stands, Happening, Happens, Move, Takes, Gives, Keeps, Hits, Sheds, Begins, Leaves, InOrder, moves_of, IsAmong, IsDoneAt, Life, RegionsLive, region_of, with_uses}
use Rattle.run_laws.specs.CacheCounts.{one_of}
use Rattle.run_laws.specs.HandCounts.{kept_by}
use Rattle.pool_law.proofs.PatternLemmas.{same_region-refl, same_taking-refl}
use Rattle.run_laws.proofs.PagedHistories.{HistoriesPaged}
use Rattle.run_laws.proofs.LogEntries.{LanesAct}
use Rattle.run_laws.proofs.LogParts.{Parts}
use Rattle.run_laws.proofs.Sums.{over-at}
use Rattle.run_laws.proofs.Chains as chain
use Rattle.run_laws.proofs.Chains.{Rooted, Onward}
use Rattle.run_laws.proofs.Totals.{note_tally, takes_in, hits_in, sheds_in, keeps_in}
use Rattle.run_laws.proofs.HandTotals.{note-placed, kept-total}
use Rattle.run_laws.proofs.LifeLaw.{same_taking-uses}
use Rattle.run_laws.proofs.Doings.{Does, told}
use Rattle.run_laws.proofs.EventLaw.{stands-as, take-noted, takes-in, same-takes, leaves-in}
use Rattle.run_laws.proofs.PlaceMoves.{present-placed}
use Rattle.run_laws.proofs.CacheMoves.{kept-placed, comes-placed}
use Rattle.run_laws.proofs.NextMoves.{Steps, Next, LivesFrom, join}
use Rattle.run_laws.proofs.LifeMeasure.{measure, bound, measure-low}
use Rattle.run_laws.proofs.LifeSteps.{IsTake, Stops, back, step, rises}
use Rattle.run_laws.proofs.LifeOnce.{one-next}
use Rattle.run_laws.proofs.Owners.{owner-there, kept-gone}

-- a step stays with its taking
pub steps-stay : (t : RegionId) (m n : Move) → Steps m n → same_taking t (region_of n) ≡ same_taking t (region_of m)
steps-stay t (Takes c r) (Begins q x) s = ap (same_taking t) s
steps-stay t (Takes c r) (Keeps x) s = ap (same_taking t) s
steps-stay t (Takes c r) (Gives x) s = ap (same_taking t) s
steps-stay t (Takes c r) _ s = absurd s
steps-stay t (Hits r) (Begins q x) s = ap (same_taking t) s
steps-stay t (Hits r) (Keeps x) s = ap (same_taking t) s
steps-stay t (Hits r) (Gives x) s = ap (same_taking t) s
steps-stay t (Hits r) _ s = absurd s
steps-stay t (Begins q r) (Leaves p x) s = ap (same_taking t) s.1
steps-stay t (Begins q r) _ s = absurd s
steps-stay t (Leaves q r) (Keeps x) s = ap (same_taking t) s
steps-stay t (Leaves q r) (Gives x) s = ap (same_taking t) s
steps-stay t (Leaves q r) _ s = absurd s
steps-stay t (Keeps r) (Hits x) s = ap (same_taking t) s
steps-stay t (Keeps r) (Sheds x) s = ap (same_taking t) s
steps-stay t (Keeps r) _ s = absurd s
steps-stay t (Sheds r) (Gives x) s = ap (same_taking t) s
steps-stay t (Sheds r) _ s = absurd s
steps-stay t (Gives r) n s = absurd s

module _ (shape : Shape) (logs : Logs) (holds : HistoriesPaged shape logs) (acts : LanesAct logs) where
  -- a happening of the taking
  abbrev pub IsOf : RegionId → Happening → Type 0
  IsOf taking t = Happens logs t × IsTrue (same_taking taking (region_of t.move))

  abbrev pub IsFirst : Happening → Type 0
  IsFirst t = IsTake t.move

  abbrev pub IsLast : Happening → Type 0
  IsLast t = Stops shape logs holds acts t.move

  pub rooted : (taking : RegionId)
      → Rooted Happening (IsOf taking) IsFirst (Next logs) (measure logs) (bound logs)
  rooted taking =
      record {
        low = λ t is. measure-low logs t is.0.stands (told logs t is.0);
        rises =
            λ t u it iu n. rises shape logs holds acts t.move u.move t.event u.event it.0.stands iu.0.stands
            (told logs t it.0) (told logs u iu.0) n.steps n.follows;
        back =
            λ u iu. ⊎_elim (λ f. inl f)
            (λ b. inr (
              b.first,
              (b.happened, sym (steps-stay taking b.first.move u.move b.next.steps) ∙ iu.1),
              b.next,
            ))
            (back shape logs holds acts u.event u.move iu.0.stands (told logs u iu.0));
      }

  -- two Takes of a taking are one
  one-take : (taking : RegionId) (m n : Move) (e f : Event) → Stands logs e → Stands logs f → Does logs m e
      → Does logs n f → IsTrue (same_taking taking (region_of m)) → IsTrue (same_taking taking (region_of n))
      → IsTake m → IsTake n → (e ≡ f) × (m ≡ n)
  one-take taking (Takes c r) (Takes d x) e f s t a b same other first second =
      let r_at = take-noted shape logs holds acts r c e s a in
      let x_at = take-noted shape logs holds acts x d f t b in
      let r_is : r ≡ with_uses taking 0 =
      same_taking-uses taking r same ∙ ap (with_uses taking) r_at.1.0 in
      let x_is : x ≡ with_uses taking 0 =
      same_taking-uses taking x other ∙ ap (with_uses taking) x_at.1.0 in
      let region : x ≡ r = x_is ∙ sym r_is in
      let class : c ≡ d = sym r_at.1.1 ∙ ap (λ z. z.class) (sym region) ∙ x_at.1.1 in (
        same-takes shape logs holds acts r c d e f s t a (b ∙ ap (Take d) region),
        λ i. Takes (class i) (sym region i),
      )
  one-take taking (Takes c r) _ e f s t a b same other first second = absurd second
  one-take taking _ n e f s t a b same other first second = absurd first

  -- nothing follows what stops
  none-stops : (m n : Move) (f : Event) → Stands logs f → Does logs n f → Stops shape logs holds acts m → Steps m n → ⊥
  none-stops (Gives r) n f t b stop s = s
  none-stops (Begins q r) (Leaves p x) f t b stop s =
      absurd (omega (
        arith,
        stop,
        leaves-in shape logs holds acts p r f t (subst (λ z. Does logs (Leaves p z) f) s.1 b),
      ))
  none-stops (Begins q r) _ f t b stop s = s
  none-stops (Takes c r) n f t b stop s = stop
  none-stops (Hits r) n f t b stop s = stop
  none-stops (Leaves q r) n f t b stop s = stop
  none-stops (Keeps r) n f t b stop s = stop
  none-stops (Sheds r) n f t b stop s = stop

  module _ (parts : (lane : ℕ) → lane < length logs → Parts lane (map (entry_of logs) (of_lane logs lane))) where
    -- what is kept comes out again, in a cache of a lane of the run
    even : (taking : RegionId) → taking.owner < length logs → (t : Happening) → IsOf taking t → (r : RegionId)
        → t.move ≡ Keeps r → keeps_in logs r ≡ hits_in logs r + sheds_in logs r
    even taking low t is r keeps =
        let owner : r.owner ≡ taking.owner =
        ap (λ x. x.owner) (same_taking-uses taking r
        (subst (λ m. same_taking taking (region_of m) ≡ true) keeps is.1)) in
        let does : t.event.did ≡ Kept r = subst (λ m. Does logs m t.event) keeps (told logs t is.0) in
        kept-gone shape logs holds acts parts r (omega (arith, owner, low))
        (omega (
          arith,
          over-at (note_tally logs (kept_by r)) logs t.event.lane t.event.at
              (At t.event.object t.event.number (Kept r)) (stands-as logs t.event (Kept r) is.0.stands does),
          kept-total shape logs holds acts r,
          ap one_of (same_region-refl r),
        ))

    pub onward : (taking : RegionId) → taking.owner < length logs
        → Onward Happening (IsOf taking) IsFirst IsLast (Next logs)
    onward taking low =
        record {
          step =
              λ t is. ⊎_elim (λ s. inl s)
              (λ b. inr (
                b.second,
                (b.happened, steps-stay taking t.move b.second.move b.next.steps ∙ is.1),
                b.next,
              ))
              (step shape logs holds acts t.event t.move is.0.stands (told logs t is.0) (even taking low t is));
          one =
              λ t u v it iu iv n k.
              let same = one-next shape logs holds acts t.move u.move v.move t.event u.event v.event iu.0.stands
              iv.0.stands (told logs u iu.0) (told logs v iv.0) n.steps n.follows n.link k.steps k.follows k.link in
              λ i. record { event = same.0 i; move = same.1 i };
          stops =
              λ t u it iu stop n.
              none-stops t.move u.move u.event iu.0.stands (told logs u iu.0) stop n.steps;
          first =
              λ t u it iu f g.
              let same = one-take taking t.move u.move t.event u.event it.0.stands iu.0.stands (told logs t it.0)
              (told logs u iu.0) it.1 iu.1 f g in
              λ i. record { event = same.0 i; move = same.1 i };
        }

    -- a chain is a life, in order
    lives-last : (m : Move) → Stops shape logs holds acts m → LivesFrom logs m []
    lives-last (Gives r) stop = refl
    lives-last (Begins q r) stop = tt
    lives-last (Takes c r) stop = absurd stop
    lives-last (Hits r) stop = absurd stop
    lives-last (Leaves q r) stop = absurd stop
    lives-last (Keeps r) stop = absurd stop
    lives-last (Sheds r) stop = absurd stop

    abbrev LinkedSo : (taking : RegionId) → taking.owner < length logs → Happening → List Happening → Type 0
    LinkedSo taking low t ts = chain.Linked (rooted taking) (onward taking low) t ts

    lives-so : (taking : RegionId) (low : taking.owner < length logs) (t : Happening) (ts : List Happening)
        → LinkedSo taking low t ts → LivesFrom logs t.move (moves_of ts)
    lives-so taking low t [] l = lives-last t.move l
    lives-so taking low t (u ∷ us) l =
        join logs t.move u.move (moves_of us) l.0.steps (lives-so taking low u us l.1.1)

    order-so : (taking : RegionId) (low : taking.owner < length logs) (t : Happening) (ts : List Happening)
        → Happens logs t → LinkedSo taking low t ts → InOrder logs t ts
    order-so taking low t [] h l = h
    order-so taking low t (u ∷ us) h l = (h, (l.0.follows, order-so taking low u us l.1.0.0 l.1.1))

  -- what happens to a region is done where it belongs
  pub is-done_at : (t : Happening) → Happens logs t → IsDoneAt t.event.object t.move
  is-done_at t h = go t.move (told logs t h)
    where
      placed : (d : Did) → t.event.did ≡ d → slice_get (of_lane logs t.event.lane) t.event.at
          ≡ Some (At t.event.object t.event.number d)
      placed d is = stands-as logs t.event d h.stands is

      go : (m : Move) → Does logs m t.event → IsDoneAt t.event.object m
      go (Takes c r) is = (take-noted shape logs holds acts r c t.event h.stands is).0
      go (Gives r) is =
          note-placed shape logs holds acts t.event.lane t.event.at t.event.number t.event.object (Give r)
          (placed (Give r) is)
      go (Keeps r) is = kept-placed shape logs holds acts r t.event h.stands is
      go (Hits r) is = comes-placed shape logs holds acts r t.event h.stands (inl is)
      go (Sheds r) is = comes-placed shape logs holds acts r t.event h.stands (inr is)
      go (Begins root r) (inl is) =
          note-placed shape logs holds acts t.event.lane t.event.at t.event.number t.event.object (Birth root r)
          (placed (Birth root r) is)
      go (Begins root r) (inr g) =
          (present-placed shape logs holds acts t.event.object t.event.number g.2.0 g.2.1).object
          ∙ ap (λ q. Object.Root q.place) g.2.2
      go (Leaves root r) (ends, p) =
          (present-placed shape logs holds acts t.event.object t.event.number p.0 p.1).object
          ∙ ap (λ q. Object.Root q.place) p.2

  happen-all : (t : Happening) (ts : List Happening) (u : Happening) → InOrder logs t ts → IsAmong u (t ∷ ts)
      → Happens logs u
  happen-all t [] u o (inl same) = subst (Happens logs) (sym same) o
  happen-all t [] u o (inr none) = absurd none
  happen-all t (x ∷ ts) u o (inl same) = subst (Happens logs) (sym same) o.0
  happen-all t (x ∷ ts) u o (inr among) = happen-all x ts u o.1.1 among

  module _ (parts : (lane : ℕ) → lane < length logs → Parts lane (map (entry_of logs) (of_lane logs lane))) where
    -- a Take has the life of its taking behind it
    take-lives : (r : RegionId) (t : Happening) (m : Move) → t.move ≡ m → IsOf (with_uses r 0) t → IsTake m
        → Life logs (with_uses r 0)
    take-lives r t (Takes c x) move is first =
        let does : t.event.did ≡ Take c x = subst (λ n. Does logs n t.event) move (told logs t is.0) in
        let at = take-noted shape logs holds acts x c t.event is.0.stands does in
        let x_is : x ≡ with_uses r 0 =
        same_taking-uses (with_uses r 0) x (subst (λ n. same_taking (with_uses r 0) (region_of n) ≡ true) move is.1)
        ∙ ap (with_uses r) at.1.0 in
        let taken : 1 ≤ takes_in logs (with_uses r 0) =
        subst (λ z. 1 ≤ takes_in logs z) x_is (takes-in shape logs holds acts x c t.event is.0.stands does) in
        let low : r.owner < length logs = owner-there shape logs holds acts parts r taken in
        let w = chain.whole (rooted (with_uses r 0)) (onward parts (with_uses r 0) low) t is
        (subst IsTake (sym move) tt) in
        let class : c ≡ r.class = sym at.1.1 ∙ ap (λ z. z.class) x_is in
        let take_is : t.move ≡ Takes r.class (with_uses r 0) = move ∙ (λ i. Takes (class i) (x_is i)) in
        let order : InOrder logs t w.later = order-so parts (with_uses r 0) low t w.later is.0 w.linked in
        record {
          take = t;
          later = w.later;
          taken = take_is;
          lives =
              subst (λ n. LivesFrom logs n (moves_of w.later)) take_is
              (lives-so parts (with_uses r 0) low t w.later w.linked);
          order = order;
          places = λ u among. is-done_at u (happen-all t w.later u order among);
          all = λ u h same. w.all u (h, same);
        }
    take-lives r t _ move is first = absurd first

    pub regions-live : RegionsLive logs
    regions-live t h =
        let is : IsOf (with_uses (region_of t.move) 0) t = (h, same_taking-refl (region_of t.move)) in
        let o = chain.origin (rooted (with_uses (region_of t.move) 0)) (bound logs) t is
        (measure-low logs t h.stands (told logs t h)) in
        take-lives (region_of t.move) o.0 o.0.move refl o.1 o.2
