-- Uses lie apart, and a root that is counted uses a region.
use Rattle.std.proofs.Common.{⊎_elim, inl, inr, ◌≡◌, ℕ, zero, suc, ◌+◌, ◌≤◌, length, take, refl, sym, ap, arith, Some, ◌∙◌}
use Rattle.std.specs.Prelude.{◌<◌, slice_get}
use Rattle.std.proofs.lemmas.Bool.{cases_lt}
use Rattle.pool_law.specs.declared.id.RootId.{RootId}
use Rattle.pool_law.specs.declared.id.RegionId.{RegionId}
use Rattle.pool_law.specs.declared.id.RegionId.{RegionId}
use Rattle.pool_law.specs.declared.note.Object.{Object}
use Rattle.pool_law.specs.declared.note.Did.TheVariants.{Grow, End}
use Rattle.pool_law.specs.declared.note.RefDid.TheVariants.{Born}
use Rattle.pool_law.specs.declared.note.Note.TheVariants.{At, Ref}
use Rattle.pool_law.specs.declared.run.Run.{Run}
use Rattle.pool_law.specs.Logs.{Logs, of_lane}
use Rattle.pool_law.specs.Counts.{is_born, ends_root}
use Rattle.pool_law.specs.Legal.{IsLegal, logs_of}
use Rattle.pool_law.specs.Lives.{Done, Event, Stands, IsUse, UseEnds, Begins, Leaves}
use Rattle.pool_law.specs.Apart.{EndsBefore}
use Rattle.pool_law.proofs.PatternLemmas.{same_root-refl}
use Rattle.run_laws.specs.OneLog.{Counted, IsBorn}
use Rattle.run_laws.proofs.RunLaws.{acts-of, parts-of, roots-never_overlap}
use Rattle.run_laws.proofs.PagedHistories.{paged}
use Rattle.run_laws.proofs.Sums.{sum_over}
use Rattle.run_laws.proofs.Totals.{ends_in}
use Rattle.run_laws.proofs.HandSteps.{EndsUse}
use Rattle.run_laws.proofs.Doings.{Does, told}
use Rattle.run_laws.proofs.EventLaw.{the, one-note, leaves-in, same-leaves}
use Rattle.run_laws.proofs.PlaceMoves.{LeftBy, left-own}
use Rattle.run_laws.proofs.LifeMeasure.{note_number, number-most}
use Rattle.run_laws.proofs.Births.{end_event, end-does}
use Rattle.run_laws.proofs.UseEndings.{left-ends, left-same, ends-how}
use Rattle.run_laws.proofs.TakingUses.{begins-use}
use Rattle.run_order.specs.Order.{made, Leave, InOneOrder}
use Rattle.run_order.proofs.Positions.{place, later-in_log}
use Rattle.order_laws.specs.Moments.{is_noted, IsInUse, RegionsApart, CountedIsInUse}
use Rattle.order_laws.proofs.CountMoments.{born-is, counted-born, lives-at}
use Rattle.order_laws.proofs.Events.{is_end, noted-itself, noted-when, use-when, use-same, when, end-is, leads-later, stands-made, made-stands, notes, begun_when, ended-first}

module _ (run : Run) (legal : IsLegal run) (o : InOneOrder (logs_of run)) where
  abbrev logs : Logs
  logs = logs_of run

  -- of two uses neither ended before the other began
  in-use : (k : ℕ) (first second : RootId) (a b : RegionId) → IsInUse logs (take k o.steps) first a
      → IsInUse logs (take k o.steps) second b → EndsBefore logs first a second b → ⊥
  in-use k first second a b u w before =
      let low : begun_when run legal o w.use_is < k = use-when run legal o second b w.use_is k w.begun in
      let same : when logs o before.birth ≡ begun_when run legal o w.use_is =
      use-same run legal o second b before.birth before.born.stands
      (told logs (record { event = before.birth; move = Begins second b }) before.born) w.use_is in
      let order : when logs o before.end < when logs o before.birth =
      leads-later logs o before.end before.between before.birth before.ended.stands before.born.stands before.order in
      let left : LeftBy run.shape logs (paged run legal) (acts-of run legal) first a =
      record {
        event = before.end;
        stands = before.ended.stands;
        does = told logs (record { event = before.end; move = Leaves first a }) before.ended;
      } in
      let end : UseEnds logs first a = left-ends run.shape logs (paged run legal) (acts-of run legal) first a left in
      let at_end : when logs o (end_event end) ≡ when logs o before.end =
      ap (when logs o) (left-same run.shape logs (paged run legal) (acts-of run legal) first a left) in
      let ended : 0 < made (is_noted (Object.Root first.place) end.number) (take k o.steps) =
      stands-made logs o (is_noted (Object.Root first.place) end.number) end.lane end.at k
      (At (Object.Root first.place) end.number end.did) end.stands
      (noted-itself (Object.Root first.place) end.number end.did) (omega (arith, low, same, order, at_end)) in
      omega (arith, ended, u.lasts end)

  pub apart-at : (k : ℕ) → RegionsApart logs (take k o.steps)
  apart-at k first second a b u v differ over =
      ⊎_elim (in-use k first second a b u v) (in-use k second first b a v u)
      (roots-never_overlap run legal first second a b u.use_is v.use_is differ over)

  -- a root that has not ended in a front has no end there
  not-ended : (k n : ℕ) (root : RootId) → k ≤ length o.steps → 0 < n → Leave (take k o.steps) root n
      → made (is_end root) (take k o.steps) ≡ 0
  not-ended k n root low some leave =
      ⊎_elim (λ more. absurd (ended more)) (λ none. omega (arith, none))
      (cases_lt 0 (made (is_end root) (take k o.steps)))
    where
      ended : 0 < made (is_end root) (take k o.steps) → ⊥
      ended more =
          let f = made-stands logs o (is_end root) k more in
          let e = end-is root f.2 f.4 in
          let count : 0 < made (ends_root root) (take k o.steps) =
          ended-first run legal o root
          (record { object = e.0; did = End root; lane = f.0; at = f.1; number = e.1 }) k (f.3 ∙ ap Some e.2) refl
          (omega (arith, f.5)) in
          let none : Leave (take k o.steps) root 0 = (lives-at logs o root k low).ended count in
          omega (arith, some, leave, none)

  module _ (k : ℕ) (root : RootId) (none : made (is_end root) (take k o.steps) ≡ 0) where
    abbrev Left : RegionId → Type 0
    Left r = LeftBy run.shape logs (paged run legal) (acts-of run legal) root r

    -- a region that is left in the front is left by a growth
    grown-on : (r : RegionId) (l : Left r) → when logs o l.event < k
        → (q : RegionId) × Does logs (Begins root q) l.event
    grown-on r l low = go l.does.0
      where
        u : UseEnds logs root r
        u = left-ends run.shape logs (paged run legal) (acts-of run legal) root r l

        same : end_event (left-ends run.shape logs (paged run legal) (acts-of run legal) root r l) ≡ l.event
        same = left-same run.shape logs (paged run legal) (acts-of run legal) root r l

        ended : (d : Done logs (Object.Root root.place) (End root)) → d.lane ≡ l.event.lane → d.at ≡ l.event.at → ⊥
        ended d lane at =
            let here : place logs o d.lane d.at ≡ when logs o l.event = (λ i. place logs o (lane i) (at i)) in
            let made_end : 0 < made (is_end root) (take k o.steps) =
            stands-made logs o (is_end root) d.lane d.at k (At (Object.Root root.place) d.number (End root)) d.stands
            (same_root-refl root) (omega (arith, here, low)) in
            omega (arith, made_end, none)

        go : EndsUse l.event.did → (q : RegionId) × Does logs (Begins root q) l.event
        go (inl end) =
            ⊎_elim
            (λ d. absurd (ended d.0 (d.1 ∙ ap (λ e. e.lane) same) (d.2 ∙ ap (λ e. e.at) same)))
            (λ g.
            let lane : g.0.lane ≡ l.event.lane = g.1 ∙ ap (λ e. e.lane) same in
            let at : g.0.at ≡ l.event.at = g.2 ∙ ap (λ e. e.at) same in
            let note : At l.event.object l.event.number l.event.did
            ≡ At (Object.Root root.place) g.0.number (Grow g.0.capacity g.0.next) =
            one-note logs l.event.lane l.event.at (At l.event.object l.event.number l.event.did)
            (At (Object.Root root.place) g.0.number (Grow g.0.capacity g.0.next)) l.stands
            ((λ i. slice_get (of_lane logs (sym lane i)) (sym at i)) ∙ g.0.stands) in
            let did : l.event.did ≡ Grow g.0.capacity g.0.next = cc note in
            let both : End end.0 ≡ Grow g.0.capacity g.0.next = sym end.1 ∙ did in
            absurd (cc both))
            (ends-how run.shape logs (paged run legal) (acts-of run legal) (parts-of run legal) legal.counts root r
            (left-ends run.shape logs (paged run legal) (acts-of run legal) root r l))
        go (inr g) = (g.1, inr (g.0, g.2, (l.does.1.0, l.does.1.1, l.does.1.2)))

    -- a use that began in the front lasts, or the root goes on from it in the front
    lasting : (fuel : ℕ) (r : RegionId) (e : Event) → Stands logs e → Does logs (Begins root r) e → when logs o e < k
        → sum_over note_number logs < fuel + e.number
        → (region : RegionId) × IsInUse logs (take k o.steps) root region
    lasting zero r e s does low enough = absurd (omega (arith, enough, number-most logs e s))
    lasting (suc fuel) r e s does low enough =
        go (ends_in logs r) refl (λ q f t d under more. lasting fuel q f t d under more)
      where
        u : IsUse logs root r
        u = begins-use run.shape logs (paged run legal) (acts-of run legal) root r e s does

        begun : 0 < made (is_noted (Object.Root root.place) u.number) (take k o.steps)
        begun =
            stands-made logs o (is_noted (Object.Root root.place) u.number) u.lane u.at k
            (At (Object.Root root.place) u.number u.did) u.stands
            (noted-itself (Object.Root root.place) u.number u.did)
            (omega (arith, use-same run legal o root r e s does u, low))

        stays : ((end : UseEnds logs root r)
            → made (is_noted (Object.Root root.place) end.number) (take k o.steps) ≡ 0)
            → (region : RegionId) × IsInUse logs (take k o.steps) root region
        stays lasts = (r, record { use_is = u; begun = begun; lasts = lasts })

        go : (n : ℕ) → ends_in logs r ≡ n → ((q : RegionId) (f : Event) → Stands logs f
            → Does logs (Begins root q) f → when logs o f < k → sum_over note_number logs < fuel + f.number
            → (region : RegionId) × IsInUse logs (take k o.steps) root region)
            → (region : RegionId) × IsInUse logs (take k o.steps) root region
        go zero nothing again =
            stays (λ end. absurd (omega (
              arith,
              nothing,
              leaves-in run.shape logs (paged run legal) (acts-of run legal) root r (end_event end) end.stands
                  (end-does logs root r end),
            )))
        go (suc n) some again =
            let l = left-own run.shape logs (paged run legal) (acts-of run legal) root r e s does
            (omega (arith, some)) in
            ⊎_elim
            (λ (under : when logs o l.0.event < k).
            let q = grown-on r l.0 under in
            again q.0 l.0.event l.0.stands q.1 under (omega (arith, enough, l.1.1.0)))
            (λ high. stays (λ end.
            let same : end_event end ≡ l.0.event =
            same-leaves run.shape logs (paged run legal) (acts-of run legal) r root root (end_event end) l.0.event
            end.stands l.0.stands (end-does logs root r end) l.0.does in
            let at : when logs o (end_event end) ≡ when logs o l.0.event = ap (when logs o) same in
            ⊎_elim
            (λ more. absurd (omega (
              arith,
              at,
              high,
              noted-when run legal o root.place end.number end.lane end.at k end.did end.stands more,
            )))
            (λ nothing. omega (arith, nothing))
            (cases_lt 0 (made (is_noted (Object.Root root.place) end.number) (take k o.steps)))))
            (cases_lt (when logs o l.0.event) k)

  pub counted-at : (k : ℕ) → k ≤ length o.steps → CountedIsInUse logs (take k o.steps)
  counted-at k low root n some leave =
      let f = made-stands logs o (is_born root) k (counted-born logs o root k n low some leave) in
      let c : Counted logs root Born =
      record { lane = f.0; at = f.1; stands = f.3 ∙ ap Some (born-is root f.2 f.4) } in
      let b : IsBorn logs root = (notes run legal o).set root c in
      let once = b.set_once b.set c in
      let same : place logs o b.set.lane b.set.at ≡ place logs o f.0 f.1 =
      (λ i. place logs o (once.0 i) (once.1 i)) in
      let first : place logs o b.set.lane b.birth.at < place logs o b.set.lane b.set.at =
      later-in_log logs o b.set.lane b.birth.at b.set.at (Ref root Born) b.set.stands b.order in
      let lane : place logs o b.birth.lane b.birth.at ≡ place logs o b.set.lane b.birth.at =
      ap (λ l. place logs o l b.birth.at) (sym b.same_log) in
      lasting k root (not-ended k n root low some leave) (sum_over note_number logs + 1) b.region (the b.birth)
      b.birth.stands (inl refl) (omega (arith, f.5, same, first, lane)) (omega arith)
