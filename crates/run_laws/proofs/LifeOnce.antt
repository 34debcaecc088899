-- One happening comes next behind another, and no other.
use Rattle.std.proofs.Common.{inl, inr, ◌≡◌, take, sym, ap, subst, arith, ◌∙◌}
use Rattle.std.specs.Prelude.{◌-◌, slice_get}
use Rattle.pool_law.specs.declared.id.RootId.{RootId}
use Rattle.pool_law.specs.declared.id.RegionId.{RegionId}
use Rattle.pool_law.specs.declared.note.Did.TheVariants.{Give, Hit, Kept, Shed, Birth, Grow}
use Rattle.pool_law.specs.declared.run.Shape.{Shape}
use Rattle.pool_law.specs.Logs.{Logs, dids, has_history, history_of}
use Rattle.pool_law.specs.Lives.{Event, Stands, Move, Takes, Gives, Keeps, Hits, Sheds, Begins, Leaves, Follows, cache_of}
use Rattle.run_laws.specs.CacheCounts.{removes, total_by}
use Rattle.run_laws.specs.Hands.{Source}
use Rattle.run_laws.proofs.PagedHistories.{HistoriesPaged}
use Rattle.run_laws.proofs.LogEntries.{LanesAct}
use Rattle.run_laws.proofs.HandNotes.{Held, held-once}
use Rattle.run_laws.proofs.CacheRanks.{rank-one}
use Rattle.run_laws.proofs.Doings.{Does, one-user}
use Rattle.run_laws.proofs.EventLaw.{same-event, Noted, noted, one-number, same-leaves}
use Rattle.run_laws.proofs.NextMoves.{FromCached, Steps, rank_out, Link}
use Rattle.run_laws.proofs.CacheMoves.{ComesOut, comes-counts, comes-placed}
use Rattle.run_laws.proofs.LifeSteps.{IsOutMove, got-out, freed-out, dropped-out}

module _ (logs : Logs) where
  no-keep : (f : Event) (q : RootId) (x y : RegionId) → Does logs (Begins q x) f → f.did ≡ Kept y → ⊥
  no-keep f q x y (inl a) b = let e : Birth q x ≡ Kept y = sym a ∙ b in absurd (cc e)
  no-keep f q x y (inr a) b = let e : Grow a.0 x ≡ Kept y = sym a.1 ∙ b in absurd (cc e)

  no-give : (f : Event) (q : RootId) (x y : RegionId) → Does logs (Begins q x) f → f.did ≡ Give y → ⊥
  no-give f q x y (inl a) b = let e : Birth q x ≡ Give y = sym a ∙ b in absurd (cc e)
  no-give f q x y (inr a) b = let e : Grow a.0 x ≡ Give y = sym a.1 ∙ b in absurd (cc e)

  -- an event puts a region down in one way
  pub one-out : (f : Event) (n k : Move) → IsOutMove n → IsOutMove k → Does logs n f → Does logs k f → n ≡ k
  one-out f (Begins q x) (Begins p y) n k a b =
      let u = one-user logs f q p x y a b in λ i. Begins (u.0 i) (u.1 i)
  one-out f (Begins q x) (Keeps y) n k a b = absurd (no-keep f q x y a b)
  one-out f (Begins q x) (Gives y) n k a b = absurd (no-give f q x y a b)
  one-out f (Keeps x) (Begins p y) n k a b = absurd (no-keep f p y x b a)
  one-out f (Keeps x) (Keeps y) n k a b = let e : Kept x ≡ Kept y = sym a ∙ b in ap Keeps (cc e)
  one-out f (Keeps x) (Gives y) n k a b = let e : Kept x ≡ Give y = sym a ∙ b in absurd (cc e)
  one-out f (Gives x) (Begins p y) n k a b = absurd (no-give f p y x b a)
  one-out f (Gives x) (Keeps y) n k a b = let e : Give x ≡ Kept y = sym a ∙ b in absurd (cc e)
  one-out f (Gives x) (Gives y) n k a b = let e : Give x ≡ Give y = sym a ∙ b in ap Gives (cc e)
  one-out f (Begins q x) _ n k a b = absurd k
  one-out f (Keeps x) _ n k a b = absurd k
  one-out f (Gives x) _ n k a b = absurd k
  one-out f _ m n k a b = absurd n

  -- what comes out of a cache
  cached-out : (r : RegionId) (m : Move) (f : Event) → FromCached r m → Does logs m f → ComesOut r f.did
  cached-out r (Hits x) f s a = inl (a ∙ ap Hit s)
  cached-out r (Sheds x) f s a = inr (a ∙ ap Shed s)
  cached-out r _ f s a = absurd s

  -- and an event takes a region out in one way
  one-come : (r : RegionId) (f : Event) (n k : Move) → FromCached r n → FromCached r k → Does logs n f → Does logs k f
      → n ≡ k
  one-come r f (Hits x) (Hits y) n k a b = ap Hits (n ∙ sym k)
  one-come r f (Hits x) (Sheds y) n k a b = let e : Hit x ≡ Shed y = sym a ∙ b in absurd (cc e)
  one-come r f (Sheds x) (Hits y) n k a b = let e : Shed x ≡ Hit y = sym a ∙ b in absurd (cc e)
  one-come r f (Sheds x) (Sheds y) n k a b = ap Sheds (n ∙ sym k)
  one-come r f (Hits x) _ n k a b = absurd k
  one-come r f (Sheds x) _ n k a b = absurd k
  one-come r f _ m n k a b = absurd n

module _ (shape : Shape) (logs : Logs) (holds : HistoriesPaged shape logs) (acts : LanesAct logs) where
  -- two happenings that come next are one
  abbrev pub Same : Event → Event → Move → Move → Type 0
  Same f g n k = (f ≡ g) × (n ≡ k)

  by-hand : (e f g : Event) (n k : Move) → Stands logs f → Stands logs g → Does logs n f → Does logs k g → IsOutMove n
      → IsOutMove k → e.lane ≡ f.lane → e.lane ≡ g.lane
      → (from : Source) × (y : RegionId) × Held logs e.lane e.at f.at from y
      → (of : Source) × (z : RegionId) × Held logs e.lane e.at g.at of z → Same f g n k
  by-hand e f g n k s t a b out of in_f in_g l m =
      let at : f.at ≡ g.at = held-once logs acts e.lane e.at f.at g.at l.0 m.0 l.1 m.1 l.2 m.2 in
      let same : f ≡ g = same-event logs f g s t (sym in_f ∙ in_g) at in
      (same, one-out logs f n k out of a (subst (Does logs k) (sym same) b))

  by-cache : (r : RegionId) (f g : Event) (n k : Move) → Stands logs f → Stands logs g → Does logs n f → Does logs k g
      → FromCached r n → FromCached r k → rank_out logs r f ≡ rank_out logs r g → Same f g n k
  by-cache r f g n k s t a b from of rank =
      let out : ComesOut r f.did = cached-out logs r n f from a in
      let comes : ComesOut r g.did = cached-out logs r k g of b in
      let here : f.object ≡ cache_of r = comes-placed shape logs holds acts r f s out in
      let there : g.object ≡ cache_of r = comes-placed shape logs holds acts r g t comes in
      let i : Noted shape logs holds acts f = noted shape logs holds acts f s (ap has_history here) in
      let j : Noted shape logs holds acts g = noted shape logs holds acts g t (ap has_history there) in
      let number_f : f.number - 1 ≡ i.index = omega (arith, i.number) in
      let number_g : g.number - 1 ≡ j.index = omega (arith, j.number) in
      let ranks : total_by (removes r) (take i.index (dids (history_of (cache_of r) logs)))
      ≡ total_by (removes r) (take j.index (dids (history_of (cache_of r) logs))) =
      ap (λ m. total_by (removes r) (take m (dids (history_of (cache_of r) logs)))) (sym number_f) ∙ rank
      ∙ ap (λ m. total_by (removes r) (take m (dids (history_of (cache_of r) logs)))) number_g in
      let index : i.index ≡ j.index =
      rank-one (removes r) (dids (history_of (cache_of r) logs)) i.index j.index f.did g.did
      (ap (λ o. slice_get (dids (history_of o logs)) i.index) (sym here) ∙ i.there)
      (ap (λ o. slice_get (dids (history_of o logs)) j.index) (sym there) ∙ j.there)
      (comes-counts r f.did out) (comes-counts r g.did comes) ranks in
      let same : f ≡ g =
      one-number shape logs holds acts f g s t (here ∙ sym there) (ap has_history here)
      (omega (arith, index, i.number, j.number)) in
      (same, one-come logs r f n k from of a (subst (Does logs k) (sym same) b))

  pub one-next : (m n k : Move) (e f g : Event) → Stands logs f → Stands logs g → Does logs n f → Does logs k g
      → Steps m n → Follows m e f → Link logs m e f → Steps m k → Follows m e g → Link logs m e g → Same f g n k
  one-next (Takes c r) n k e f g s t a b x p l y q j =
      by-hand e f g n k s t a b (got-out r n x) (got-out r k y) p.0 q.0 l j
  one-next (Hits r) n k e f g s t a b x p l y q j =
      by-hand e f g n k s t a b (got-out r n x) (got-out r k y) p.0 q.0 l j
  one-next (Leaves root r) n k e f g s t a b x p l y q j =
      by-hand e f g n k s t a b (freed-out r n x) (freed-out r k y) p.0 q.0 l j
  one-next (Sheds r) n k e f g s t a b x p l y q j =
      by-hand e f g n k s t a b (dropped-out r n x) (dropped-out r k y) p.0 q.0 l j
  one-next (Keeps r) n k e f g s t a b x p l y q j = by-cache r f g n k s t a b x y (sym l ∙ j)
  one-next (Begins root r) (Leaves p' x') (Leaves q' y') e f g s t a b x p l y q j =
      let a' : Does logs (Leaves root r) f =
      subst (λ z. Does logs (Leaves z r) f) x.0 (subst (λ z. Does logs (Leaves p' z) f) x.1 a) in
      let b' : Does logs (Leaves root r) g =
      subst (λ z. Does logs (Leaves z r) g) y.0 (subst (λ z. Does logs (Leaves q' z) g) y.1 b) in (
        same-leaves shape logs holds acts r root root f g s t a' b',
        λ i. Leaves ((x.0 ∙ sym y.0) i) ((x.1 ∙ sym y.1) i),
      )
  one-next (Begins root r) (Leaves p' x') _ e f g s t a b x p l y q j = absurd y
  one-next (Begins root r) _ k e f g s t a b x p l y q j = absurd x
  one-next (Gives r) n k e f g s t a b x p l y q j = absurd x
