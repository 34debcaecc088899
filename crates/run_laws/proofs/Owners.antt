-- A taking has its Take, and the owner that it names; what the owner's cache keeps it gives or sheds.
use Rattle.std.proofs.Common.{◌≡◌, ℕ, ◌+◌, ◌≤◌, [], length, refl, sym, ap, arith, true, Some, ◌∙◌, eqb-true, ltb-true}
use Rattle.std.specs.Prelude.{◌<◌, ◌==◌, ◌&&◌, ◌%◌, map, slice_get}
use Rattle.pool_law.specs.declared.id.RegionId.{RegionId}
use Rattle.pool_law.specs.declared.note.Did.{Did}
use Rattle.pool_law.specs.declared.note.Did.TheVariants.{Take, Kept}
use Rattle.pool_law.specs.declared.note.Note.TheVariants.{At}
use Rattle.pool_law.specs.declared.run.Shape.{Shape}
use Rattle.pool_law.specs.Limits.{cached_classes, has_cache}
use Rattle.pool_law.specs.Caches.{Cache}
use Rattle.pool_law.specs.Histories.{cache_after}
use Rattle.pool_law.specs.Logs.{Logs, dids, of_lane, history_of, entry_of, note_stands}
use Rattle.run_laws.proofs.PagedHistories.{HistoriesPaged}
use Rattle.pool_law.specs.Lives.{cache_of, arena_of, with_uses}
use Rattle.run_laws.specs.CacheCounts.{times, puts}
use Rattle.pool_law.proofs.SameLemmas.{same_region-is, and-second}
use Rattle.run_laws.proofs.LogEntries.{lane-there, LanesAct}
use Rattle.run_laws.proofs.Numbered.{in-log}
use Rattle.run_laws.proofs.Placed.{all-at, placed, is-some, total-found, one-of-true, puts-kept}
use Rattle.run_laws.proofs.Totals.{dids-there, takes, takes_in, hits_in, sheds_in, keeps_in}
use Rattle.run_laws.proofs.HandTotals.{through}
use Rattle.run_laws.proofs.LogParts.{Parts}
use Rattle.run_laws.proofs.EndLaw.{cache-empty, kept-cached}

module _ (shape : Shape) (logs : Logs) (holds : HistoriesPaged shape logs) (acts : LanesAct logs) where
  pub taken-at : (r : RegionId) → 1 ≤ takes_in logs (with_uses r 0)
      → (j : ℕ) × (slice_get (dids (history_of (arena_of r) logs)) j ≡ Some (Take r.class (with_uses r 0)))
  taken-at r h =
      let f : (i : ℕ) × (d : Did) × (slice_get (dids (history_of (arena_of r) logs)) i ≡ Some d)
      × (1 ≤ takes (with_uses r 0) d) = total-found (takes (with_uses r 0)) (dids (history_of (arena_of r) logs))
      h in
      let t : (c : ℕ) × (f.1 ≡ Take c (with_uses r 0)) = taken f.1 f.3 in
      let p : (arena_of r ≡ arena_of r) × ((0 ≡ 0) × (r.class ≡ t.0)) =
      placed shape holds.page (arena_of r) (dids (history_of (arena_of r) logs)) f.0 (Take t.0 (with_uses r 0))
      (holds.accepted (arena_of r) refl) (f.2 ∙ ap (λ x. Some x) t.1) in
      (f.0, f.2 ∙ ap (λ x. Some x) t.1 ∙ ap (λ c. Some (Take c (with_uses r 0))) (sym p.1.1))
    where
      taken : (d : Did) → 1 ≤ takes (with_uses r 0) d → (c : ℕ) × (d ≡ Take c (with_uses r 0))
      taken (Take c x) h = (c, ap (λ y. Take c y) (sym (same_region-is (with_uses r 0) x (one-of-true _ h))))
      taken _ h = absurd (omega arith)

module _ (shape : Shape) (logs : Logs) (holds : HistoriesPaged shape logs) (acts : LanesAct logs)
    (parts : (lane : ℕ) → lane < length logs → Parts lane (map (entry_of logs) (of_lane logs lane))) where
  -- a taking that was taken is its owner's, a lane of the run
  pub owner-there : (r : RegionId) → 1 ≤ takes_in logs (with_uses r 0) → r.owner < length logs
  owner-there r h =
      let j : (j : ℕ) × (slice_get (dids (history_of (arena_of r) logs)) j ≡ Some (Take r.class (with_uses r 0))) =
      taken-at shape logs holds acts r h in
      let l : (lane : ℕ) × (slice_get (history_of (arena_of r) logs) j.0 ≡ Some (lane, Take r.class (with_uses r 0))) =
      dids-there (history_of (arena_of r) logs) j.0 (Take r.class (with_uses r 0)) j.1 in
      let n : (i : ℕ) × (slice_get (of_lane logs l.0) i
      ≡ Some (At (arena_of r) (1 + j.0) (Take r.class (with_uses r 0)))) =
      in-log (arena_of r) logs (history_of (arena_of r) logs) (holds.whole (arena_of r) refl) l.0 j.0
      (Take r.class (with_uses r 0)) l.1 in
      let stands : ((l.0 % shape.arenas == r.place.arena) && (r.owner == l.0))
      ≡ true =
      all-at (note_stands shape l.0) (of_lane logs l.0) n.0
      (At (arena_of r) (1 + j.0) (Take r.class (with_uses r 0))) (holds.stand l.0) n.1 in
      let owner : r.owner ≡ l.0 = eqb-true r.owner l.0
      (and-second (l.0 % shape.arenas == r.place.arena) (r.owner == l.0) stands) in
      omega (arith, owner, lane-there logs l.0 n.0 (At (arena_of r) (1 + j.0) (Take r.class (with_uses r 0))) n.1)

  -- what is kept has been hit or shed at the end
  pub kept-gone : (r : RegionId) → r.owner < length logs → 1 ≤ keeps_in logs r
      → keeps_in logs r ≡ hits_in logs r + sheds_in logs r
  kept-gone r low kept =
      let f : (i : ℕ) × (d : Did) × (slice_get (dids (history_of (cache_of r) logs)) i ≡ Some d)
      × (1 ≤ puts r d) = total-found (puts r) (dids (history_of (cache_of r) logs)) kept in
      let is : slice_get (dids (history_of (cache_of r) logs)) f.0 ≡ Some (Kept r) = f.2
      ∙ ap (λ x. Some x) (puts-kept r f.1 f.3) in
      let l : (lane : ℕ) × (slice_get (history_of (cache_of r) logs) f.0 ≡ Some (lane, Kept r)) =
      dids-there (history_of (cache_of r) logs) f.0 (Kept r) is in
      let n : (i : ℕ) × (slice_get (of_lane logs l.0) i ≡ Some (At (cache_of r) (1 + f.0) (Kept r))) =
      in-log (cache_of r) logs (history_of (cache_of r) logs) (holds.whole (cache_of r) refl) l.0 f.0 (Kept r) l.1 in
      let has : has_cache r.class ≡ true = kept-cached shape logs holds acts parts l.0 n.0 (1 + f.0) (cache_of r) r
      n.1 in
      let c : (c : Cache) × (cache_after r.owner r.class (dids (history_of (cache_of r) logs)) ≡ Some c) =
      is-some (cache_after r.owner r.class (dids (history_of (cache_of r) logs))) (holds.accepted (cache_of r) refl) in
      let empty : c.0.regions ≡ [] = cache-empty shape logs holds acts parts r.owner r.class c.0 low
      (ltb-true r.class cached_classes has) c.1 in
      omega (arith, through shape logs holds acts r c.0 c.1, ap (times r) empty)
