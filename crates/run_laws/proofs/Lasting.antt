-- A root that was never freed uses one region to the end.
use Rattle.std.proofs.Common.{⊎_elim, inl, inr, ◌≡◌, ℕ, zero, suc, ◌+◌, length, refl, sym, ap, arith, Some, ◌∙◌}
use Rattle.std.specs.Prelude.{◌<◌, map, slice_get}
use Rattle.pool_law.specs.declared.id.RootId.{RootId}
use Rattle.pool_law.specs.declared.id.RegionId.{RegionId}
use Rattle.pool_law.specs.declared.note.Object.{Object}
use Rattle.pool_law.specs.declared.note.Did.TheVariants.{Grow, End}
use Rattle.pool_law.specs.declared.note.Note.TheVariants.{At}
use Rattle.pool_law.specs.declared.run.Shape.{Shape}
use Rattle.pool_law.specs.Roots.{RootPlace}
use Rattle.pool_law.specs.Histories.{place_after}
use Rattle.pool_law.specs.Logs.{Logs, dids, of_lane, history_of, entry_of, entries_of}
use Rattle.pool_law.specs.Legal.{CountsAgree}
use Rattle.pool_law.specs.Lives.{Event, Stands, IsUse, GrowsOut, Begins}
use Rattle.run_laws.specs.OneLog.{StandInOneLog}
use Rattle.run_laws.specs.Reported.{NeverFreed}
use Rattle.run_laws.specs.Headline.{LiveUseLasts}
use Rattle.run_laws.proofs.PagedHistories.{HistoriesPaged}
use Rattle.run_laws.proofs.LogEntries.{LanesAct}
use Rattle.run_laws.proofs.LogParts.{Parts}
use Rattle.run_laws.proofs.Sums.{sum_over}
use Rattle.run_laws.proofs.Placed.{is-some}
use Rattle.run_laws.proofs.Totals.{ends_in}
use Rattle.run_laws.proofs.HandSteps.{EndsUse}
use Rattle.run_laws.proofs.Doings.{Does}
use Rattle.run_laws.proofs.EventLaw.{one-note, leaves-in}
use Rattle.run_laws.proofs.PlaceMoves.{LeftBy, left-own}
use Rattle.run_laws.proofs.LifeMeasure.{note_number, number-most}
use Rattle.run_laws.proofs.OneLogLaw.{stand-in_one_log}
use Rattle.run_laws.proofs.Births.{use_event, end_event, use-does, end-does}
use Rattle.run_laws.proofs.UseEndings.{left-ends, left-same, never-left, ends-how}
use Rattle.run_laws.proofs.TakingUses.{begins-use, lasting-none}

module _ (shape : Shape) (logs : Logs) (holds : HistoriesPaged shape logs) (acts : LanesAct logs)
    (parts : (lane : ℕ) → lane < length logs → Parts lane (map (entry_of logs) (of_lane logs lane)))
    (counts : CountsAgree (entries_of logs)) where
  notes : StandInOneLog logs
  notes = stand-in_one_log shape logs holds acts parts counts

  -- a use that nothing ends
  abbrev Unended : RootId → Type 0
  Unended root = (r : RegionId) × IsUse logs root r × (ends_in logs r ≡ 0)

  -- a growth out of a region, at the event that left it
  grown : (root : RootId) (r : RegionId) (l : LeftBy shape logs holds acts root r) (g : GrowsOut logs root r)
      → g.lane ≡ l.event.lane → g.at ≡ l.event.at → l.event.did ≡ Grow g.capacity g.next
  grown root r l g lane at =
      let note : At l.event.object l.event.number l.event.did
      ≡ At (Object.Root root.place) g.number (Grow g.capacity g.next) =
      one-note logs l.event.lane l.event.at (At l.event.object l.event.number l.event.did)
      (At (Object.Root root.place) g.number (Grow g.capacity g.next)) l.stands
      ((λ i. slice_get (of_lane logs (sym lane i)) (sym at i)) ∙ g.stands) in
      cc note

  -- where a root that was never freed leaves a region, it goes on in another
  goes-on : (root : RootId) (r : RegionId) → NeverFreed logs root → (l : LeftBy shape logs holds acts root r)
      → (q : RegionId) × Does logs (Begins root q) l.event
  goes-on root r never l = go l.does.0
    where
      go : EndsUse l.event.did → (q : RegionId) × Does logs (Begins root q) l.event
      go (inl end) =
          ⊎_elim (λ d. absurd (never (notes.end root d.0).ended))
          (λ g.
          let left : end_event (left-ends shape logs holds acts root r l) ≡ l.event =
          left-same shape logs holds acts root r l in
          let same : End end.0 ≡ Grow g.0.capacity g.0.next =
          sym end.1 ∙ grown root r l g.0 (g.1 ∙ ap (λ e. e.lane) left) (g.2 ∙ ap (λ e. e.at) left) in
          absurd (cc same))
          (ends-how shape logs holds acts parts counts root r (left-ends shape logs holds acts root r l))
      go (inr g) = (g.1, inr (g.0, g.2, (l.does.1.0, l.does.1.1, l.does.1.2)))

  -- the last use of a root that was never freed
  last-of : (fuel : ℕ) (root : RootId) (r : RegionId) (e : Event) → Stands logs e → Does logs (Begins root r) e
      → NeverFreed logs root → sum_over note_number logs < fuel + e.number → Unended root
  last-of zero root r e s does never enough = absurd (omega (arith, enough, number-most logs e s))
  last-of (suc fuel) root r e s does never enough =
      go (ends_in logs r) refl (λ q f t d more. last-of fuel root q f t d never more)
    where
      go : (n : ℕ) → ends_in logs r ≡ n → ((q : RegionId) (f : Event) → Stands logs f → Does logs (Begins root q) f
          → sum_over note_number logs < fuel + f.number → Unended root) → Unended root
      go zero none again = (r, begins-use shape logs holds acts root r e s does, none)
      go (suc n) some again =
          let l = left-own shape logs holds acts root r e s does (omega (arith, some)) in
          let q = goes-on root r never l.0 in
          again q.0 l.0.event l.0.stands q.1 (omega (arith, enough, l.1.1.0))

  pub live-lasts : LiveUseLasts logs
  live-lasts root r u never =
      let x = last-of (sum_over note_number logs + 1) root r (use_event u) u.stands (use-does logs root r u) never
      (omega arith) in
      record {
        region = x.0;
        used = x.1;
        lasts = λ ends. absurd (omega (
          arith,
          x.2,
          leaves-in shape logs holds acts root x.0 (end_event ends) ends.stands (end-does logs root x.0 ends),
        ));
        one = λ other v last.
            let t : (t : RootPlace)
            × (place_after root.place (dids (history_of (Object.Root root.place) logs)) ≡ Some t) =
            is-some (place_after root.place (dids (history_of (Object.Root root.place) logs)))
            (holds.accepted (Object.Root root.place) refl) in
            let a = never-left shape logs holds acts root x.0 x.1 x.2 t.0 t.1 in
            let b = never-left shape logs holds acts root other v
            (lasting-none shape logs holds acts root other v last) t.0 t.1 in
            let both : Some b.0 ≡ Some a.0 = sym b.1 ∙ a.1 in
            let same : b.0 ≡ a.0 = cc both in
            sym b.3 ∙ ap (λ p. p.region) same ∙ a.3;
      }
