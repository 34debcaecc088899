-- What a cache gives or sheds was kept there, and what it keeps it gives or sheds.
use Rattle.std.proofs.Common.{inl, inr, ◌≡◌, ◌+◌, ◌≤◌, take, refl, sym, ap, subst, arith, Some, ◌∙◌}
use Rattle.std.specs.Prelude.{◌⊎◌, ◌-◌, slice_get}
use Rattle.pool_law.specs.declared.id.RegionId.{RegionId}
use Rattle.pool_law.specs.declared.note.Did.{Did}
use Rattle.pool_law.specs.declared.note.Did.TheVariants.{Hit, Kept, Shed}
use Rattle.pool_law.specs.declared.run.Shape.{Shape}
use Rattle.pool_law.specs.Same.{same_region}
use Rattle.pool_law.specs.Caches.{Cache}
use Rattle.pool_law.specs.Histories.{cache_after}
use Rattle.pool_law.specs.Logs.{Logs, dids, has_history, history_of}
use Rattle.pool_law.specs.Lives.{Event, Stands, AtOneObject, cache_of}
use Rattle.run_laws.specs.CacheCounts.{one_of, puts, removes, total_by}
use Rattle.pool_law.proofs.SameLemmas.{same_region-is}
use Rattle.pool_law.proofs.PatternLemmas.{same_region-refl}
use Rattle.run_laws.proofs.PagedHistories.{HistoriesPaged}
use Rattle.run_laws.proofs.LogEntries.{LanesAct}
use Rattle.run_laws.proofs.Placed.{is-some, one-of-true}
use Rattle.run_laws.proofs.Totals.{hits_in, sheds_in, keeps_in}
use Rattle.run_laws.proofs.HandTotals.{note-placed, removes-are}
use Rattle.run_laws.proofs.CacheRanks.{PutOf, put-of, RemovalOf, removal-of}
use Rattle.run_laws.proofs.NextMoves.{rank_in, rank_out}
use Rattle.run_laws.proofs.EventLaw.{the, stands-as, Noted, noted, done-at}

-- what comes out of a cache
abbrev pub ComesOut : RegionId → Did → Type 0
ComesOut r d = (d ≡ Hit r) ⊎ (d ≡ Shed r)

pub comes-counts : (r : RegionId) (d : Did) → ComesOut r d → 1 ≤ removes r d
comes-counts r d (inl is) = subst (λ x. 1 ≤ removes r x) (sym is) (omega (arith, ap one_of (same_region-refl r)))
comes-counts r d (inr is) = subst (λ x. 1 ≤ removes r x) (sym is) (omega (arith, ap one_of (same_region-refl r)))

pub counts-comes : (r : RegionId) (d : Did) → 1 ≤ removes r d → ComesOut r d
counts-comes r (Hit x) h = inl (ap Hit (sym (same_region-is r x (one-of-true (same_region r x) h))))
counts-comes r (Shed x) h = inr (ap Shed (sym (same_region-is r x (one-of-true (same_region r x) h))))
counts-comes r _ h = absurd (omega (arith, h))

module _ (shape : Shape) (logs : Logs) (holds : HistoriesPaged shape logs) (acts : LanesAct logs) where
  pub comes-placed : (r : RegionId) (f : Event) → Stands logs f → ComesOut r f.did → f.object ≡ cache_of r
  comes-placed r f s (inl is) =
      note-placed shape logs holds acts f.lane f.at f.number f.object (Hit r) (stands-as logs f (Hit r) s is)
  comes-placed r f s (inr is) =
      note-placed shape logs holds acts f.lane f.at f.number f.object (Shed r) (stands-as logs f (Shed r) s is)

  pub kept-placed : (r : RegionId) (f : Event) → Stands logs f → f.did ≡ Kept r → f.object ≡ cache_of r
  kept-placed r f s is =
      note-placed shape logs holds acts f.lane f.at f.number f.object (Kept r) (stands-as logs f (Kept r) s is)

  -- the note that put the region into the cache, of which this one takes it out
  pub record KeptOf (r : RegionId) (f : Event) : Type 0 where
    pub event : Event
    pub stands : Stands logs event
    pub is : event.did ≡ Kept r
    pub order : AtOneObject event f
    pub rank : rank_in logs r event ≡ rank_out logs r f

  pub kept-of : (r : RegionId) (f : Event) → Stands logs f → ComesOut r f.did → KeptOf r f
  kept-of r f s out =
      let here : f.object ≡ cache_of r = comes-placed r f s out in
      let n : Noted shape logs holds acts f = noted shape logs holds acts f s (ap has_history here) in
      let there : slice_get (dids (history_of (cache_of r) logs)) n.index ≡ Some f.did =
      ap (λ o. slice_get (dids (history_of o logs)) n.index) (sym here) ∙ n.there in
      let c : (c : Cache) × (cache_after r.owner r.class (dids (history_of (cache_of r) logs)) ≡ Some c) =
      is-some (cache_after r.owner r.class (dids (history_of (cache_of r) logs))) (holds.accepted (cache_of r) refl) in
      let p : PutOf r.owner r.class (dids (history_of (cache_of r) logs)) c.0 r c.1 n.index =
      put-of r.owner r.class (dids (history_of (cache_of r) logs)) c.0 r c.1 n.index f.did there
      (comes-counts r f.did out) in
      let d = done-at shape logs holds acts (cache_of r) refl p.at (Kept r) p.there in
      let number : d.0.number - 1 ≡ p.at = omega (arith, d.1) in
      let index : n.index ≡ f.number - 1 = omega (arith, n.number) in
      record {
        event = the d.0;
        stands = d.0.stands;
        is = refl;
        order = (sym here, (omega (arith, d.1, n.number, p.before), refl));
        rank =
            ap (λ k. total_by (puts r) (take k (dids (history_of (cache_of r) logs)))) number ∙ p.rank
            ∙ ap (λ k. total_by (removes r) (take k (dids (history_of (cache_of r) logs)))) index;
      }

  -- the note that takes out of the cache what this one put into it
  pub record GoneOf (r : RegionId) (e : Event) : Type 0 where
    pub event : Event
    pub stands : Stands logs event
    pub is : ComesOut r event.did
    pub order : AtOneObject e event
    pub rank : rank_in logs r e ≡ rank_out logs r event

  pub gone-of : (r : RegionId) (e : Event) → Stands logs e → e.did ≡ Kept r
      → keeps_in logs r ≡ hits_in logs r + sheds_in logs r → GoneOf r e
  gone-of r e s is even =
      let here : e.object ≡ cache_of r = kept-placed r e s is in
      let n : Noted shape logs holds acts e = noted shape logs holds acts e s (ap has_history here) in
      let there : slice_get (dids (history_of (cache_of r) logs)) n.index ≡ Some (Kept r) =
      ap (λ o. slice_get (dids (history_of o logs)) n.index) (sym here) ∙ n.there ∙ ap (λ d. Some d) is in
      let c : (c : Cache) × (cache_after r.owner r.class (dids (history_of (cache_of r) logs)) ≡ Some c) =
      is-some (cache_after r.owner r.class (dids (history_of (cache_of r) logs))) (holds.accepted (cache_of r) refl) in
      let p : RemovalOf r.owner r.class (dids (history_of (cache_of r) logs)) c.0 r c.1 n.index =
      removal-of r.owner r.class (dids (history_of (cache_of r) logs)) c.0 r c.1
      (even ∙ sym (removes-are shape logs holds acts r (dids (history_of (cache_of r) logs)))) n.index there
      (omega (arith, ap one_of (same_region-refl r))) in
      let d = done-at shape logs holds acts (cache_of r) refl p.at p.did p.there in
      let number : p.at ≡ d.0.number - 1 = omega (arith, d.1) in
      let index : e.number - 1 ≡ n.index = omega (arith, n.number) in
      record {
        event = the d.0;
        stands = d.0.stands;
        is = counts-comes r p.did p.removes_it;
        order = (here, (omega (arith, d.1, n.number, p.behind), ap has_history here));
        rank =
            ap (λ k. total_by (puts r) (take k (dids (history_of (cache_of r) logs)))) index ∙ p.rank
            ∙ ap (λ k. total_by (removes r) (take k (dids (history_of (cache_of r) logs)))) number;
      }
