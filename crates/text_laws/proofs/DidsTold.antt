-- What each line tells of what was done, by all lines and those before it.
use Rattle.std.proofs.Common.{inl, inr, ◌≡◌, ℕ, ◌<◌, ◌≤◌, ◌%◌, List, ◌∷◌, ◌++◌, Option, Some, None, true, false, refl, ap, subst, arith, ◌∙◌}
use Rattle.std.specs.Prelude.{map}
use Rattle.size_classes.specs.Sizes.{IsGeometry, class_count}
use Rattle.size_classes.proofs.Geometries.{class_count-most}
use Rattle.pool_law.specs.declared.id.RegionId.{RegionId}
use Rattle.pool_law.specs.declared.id.RootId.{RootId}
use Rattle.pool_law.specs.declared.id.ViewData.{ViewData}
use Rattle.pool_law.specs.declared.note.Did.{Did}
use Rattle.pool_law.specs.declared.note.Did.TheVariants.{Take, Full, Give, Hit, Miss, Kept, Back, Trim, Close, Shed, Handle, NoHandle, Home, Post, Fetch, Birth, Set, Get, Touch, Room, Extend, Grow, End}
use Rattle.pool_law.specs.declared.note.Note.{Note}
use Rattle.pool_law.specs.declared.note.Note.TheVariants.{At}
use Rattle.pool_law.specs.declared.note.Object.{Object}
use Rattle.pool_law.specs.declared.run.Run.{Run}
use Rattle.pool_law.specs.Counts.{view_is_of}
use Rattle.pool_law.specs.Legal.{IsLegal, logs_of, replies_of}
use Rattle.pool_law.specs.Limits.{geometry_of}
use Rattle.pool_law.specs.Lives.{Event, Happening, Happens, Begins, Hits, Sheds, RegionsLive, StandsAt}
use Rattle.pool_law.specs.Logs.{Logs, entries_of, entry_of, of_lane}
use Rattle.pool_law.proofs.PatternLemmas.{same_root-refl}
use Rattle.run_laws.proofs.CountSums.{or-left}
use Rattle.run_laws.proofs.Doings.{happens}
use Rattle.run_laws.proofs.EventLaw.{stands-as}
use Rattle.run_laws.proofs.HandTotals.{note-placed}
use Rattle.run_laws.proofs.LogEntries.{LanesAct, entries-at, lane-there}
use Rattle.run_laws.proofs.PagedHistories.{HistoriesPaged, paged}
use Rattle.run_laws.proofs.RunLaws.{acts-of, logs-length, regions-live}
use Rattle.run_order.specs.Order.{InOneOrder}
use Rattle.run_text.specs.Lines.{IsDidTold, IsViewTold, Line, all_classes, key_at, last_born, region_with, root_key, taking_key, told_from, uses_after, with_uses}
use Rattle.text_laws.proofs.HandTold.{given-told, kept-told, sent-told}
use Rattle.text_laws.proofs.Lawful.{AreLawful}
use Rattle.text_laws.proofs.LawfulLogs.{back-lawful, class-lawful, log-lawful}
use Rattle.text_laws.proofs.OwnersTold.{hit-owner, shed-owner, use-happens}
use Rattle.text_laws.proofs.RootsTold.{ended-told, named-told}
use Rattle.text_laws.proofs.TakingsTold.{TakeOf, TakenBy, region-told, take-of, taken-by}
use Rattle.text_laws.proofs.TextPlaces.{here}
use Rattle.text_laws.proofs.UsesTold.{hit-uses, shed-uses}

module _ (run : Run) (legal : IsLegal run) (order : InOneOrder (logs_of run)) where
  abbrev logs : Logs
  logs = logs_of run

  abbrev holds : HistoriesPaged run.shape (logs_of run)
  holds = paged run legal

  abbrev acts : LanesAct (logs_of run)
  acts = acts-of run legal

  abbrev lives : RegionsLive (logs_of run)
  lives = regions-live run legal

  -- the notes of each lane in which one stands are lawful
  lawful : (lane at : ℕ) (n : Note) → StandsAt logs lane at n
      → AreLawful (class_count (geometry_of run.shape)) (map (entry_of logs) (of_lane logs lane))
  lawful lane at n s =
      let there : lane < run.shape.lanes = omega (arith, lane-there logs lane at n s, logs-length run legal) in
      subst (AreLawful (class_count (geometry_of run.shape))) (entries-at logs logs lane)
      (log-lawful run.shape lane (of_lane run.trace.lanes lane) (replies_of run lane)
      (of_lane (entries_of logs) lane) (legal.answers lane there))

  -- there are no more classes than of the greatest chunk
  few-classes : class_count (geometry_of run.shape) ≤ class_count all_classes
  few-classes =
      let geometry : IsGeometry (geometry_of run.shape) =
      record {
        least = legal.shape.order_least;
        most = legal.shape.order_most;
        page = legal.shape.page;
        chunk = legal.shape.chunk;
      } in
      let most : class_count all_classes ≡ 76 = refl in
      omega (arith, class_count-most (geometry_of run.shape) geometry, most)

  -- a region is of the arena that its owner takes from
  owner-arena : (r : RegionId) → TakeOf run.shape logs holds acts r → r.owner % run.shape.arenas ≡ r.place.arena
  owner-arena r take =
      let by : TakenBy run.shape logs holds acts take.event.lane r.class take.event.object (with_uses 0 r) =
      taken-by run.shape logs holds acts take.event.lane take.event.at take.event.number r.class take.event.object
      (with_uses 0 r) (stands-as logs take.event (Take r.class (with_uses 0 r)) take.stands take.is) in
      ap (λ (lane : ℕ). lane % run.shape.arenas) by.owner ∙ by.turn

  -- a view's root is told, where the note names it
  view-told : (view : Option ViewData)
      → ((root : RootId) → view_is_of root view ≡ true → last_born (told_from 0 logs) (root_key root) ≡ Some root)
      → IsViewTold (told_from 0 logs) view
  view-told None named = tt
  view-told (Some v) named = named v.root (same_root-refl v.root)

  module _ (front back : List Line) (line : Line) (is : told_from 0 logs ≡ front ++ line ∷ back) where
    abbrev at : ℕ
    at = (here logs front back line is).at

    -- a hit, and a shed, by the taking and its uses
    hit-told : (k : ℕ) (o : Object) (r : RegionId) → StandsAt logs line.0 at (At o k (Hit r))
        → IsDidTold run.shape.arenas (told_from 0 logs) front line.0 o (Hit r)
    hit-told k o r s =
        let t : Happening =
        record { event = record { object = o; did = Hit r; lane = line.0; at = at; number = k }; move = Hits r } in
        let h : Happens logs t =
        happens logs (record { object = o; did = Hit r; lane = line.0; at = at; number = k }) (Hits r) s refl in
        let own = hit-owner run.shape logs holds acts line.0 at k o r s in
        let arena : r.owner % run.shape.arenas ≡ r.place.arena =
        owner-arena r (take-of run.shape logs holds acts lives t h) in
        let key : key_at run.shape.arenas o r ≡ taking_key r =
        ap (λ x. key_at run.shape.arenas x r) own.0 ∙ (λ i. (arena i, r.taking)) in
        ap (λ (q : ℕ × ℕ). region_with (told_from 0 logs) q (uses_after front q)) key
        ∙ ap (region_with (told_from 0 logs) (taking_key r))
        (hit-uses run.shape logs holds acts lives order t h (λ c x e. cc e) (λ q x e. cc e) front back line is refl refl
        own.1)
        ∙ region-told run.shape logs holds acts lives t h

    shed-told : (k : ℕ) (o : Object) (r : RegionId) → StandsAt logs line.0 at (At o k (Shed r))
        → IsDidTold run.shape.arenas (told_from 0 logs) front line.0 o (Shed r)
    shed-told k o r s =
        let t : Happening =
        record { event = record { object = o; did = Shed r; lane = line.0; at = at; number = k }; move = Sheds r } in
        let h : Happens logs t =
        happens logs (record { object = o; did = Shed r; lane = line.0; at = at; number = k }) (Sheds r) s refl in
        let own = shed-owner run.shape logs holds acts line.0 at k o r s in
        let arena : r.owner % run.shape.arenas ≡ r.place.arena =
        owner-arena r (take-of run.shape logs holds acts lives t h) in
        let key : key_at run.shape.arenas o r ≡ taking_key r =
        ap (λ x. key_at run.shape.arenas x r) own.0 ∙ (λ i. (arena i, r.taking)) in
        ap (λ (q : ℕ × ℕ). region_with (told_from 0 logs) q (uses_after (told_from 0 logs) q)) key
        ∙ ap (region_with (told_from 0 logs) (taking_key r))
        (shed-uses run.shape logs holds acts lives order t h (λ c x e. cc e) (λ q x e. cc e) r refl)
        ∙ region-told run.shape logs holds acts lives t h

    -- what was done
    pub did-told : (o : Object) (k : ℕ) (d : Did) → line.1 ≡ At o k d → StandsAt logs line.0 at (At o k d)
        → IsDidTold run.shape.arenas (told_from 0 logs) front line.0 o d
    did-told o k (Take c r) note_is s =
        let low : c < class_count (geometry_of run.shape) =
        class-lawful logs (class_count (geometry_of run.shape)) line.0 at k o (lawful line.0 at (At o k (Take c r)) s) c
        r s in
        let by : TakenBy run.shape logs holds acts line.0 c o r =
        taken-by run.shape logs holds acts line.0 at k c o r s in
        (omega (arith, low, few-classes), by.here, by.is)
    did-told o k (Full c) note_is s = tt
    did-told o k (Give r) note_is s = given-told run.shape logs holds acts lives front back line is o k r note_is
    did-told o k (Hit r) note_is s = hit-told k o r s
    did-told o k Miss note_is s = tt
    did-told o k (Kept r) note_is s = kept-told run.shape logs holds acts lives front back line is o k r note_is
    did-told o k (Back r why) note_is s =
        sent-told run.shape logs holds acts lives front back line is o k r why note_is
        (back-lawful logs (class_count (geometry_of run.shape)) line.0 at k o (lawful line.0 at (At o k (Back r why)) s)
        r why s)
    did-told o k (Trim quota) note_is s = tt
    did-told o k (Close quota) note_is s = tt
    did-told o k (Shed r) note_is s = shed-told k o r s
    did-told o k (Handle p) note_is s = tt
    did-told o k NoHandle note_is s = tt
    did-told o k (Home p) note_is s = tt
    did-told o k (Post parcel) note_is s =
        view-told parcel.view
        (λ root names. named-told run.shape logs holds acts legal.counts line.0 at (At o k (Post parcel)) root s names)
    did-told o k (Fetch parcel) note_is s =
        view-told parcel.view
        (λ root names. named-told run.shape logs holds acts legal.counts line.0 at (At o k (Fetch parcel)) root s
        (or-left (view_is_of root parcel.view) false names))
    did-told o k (Birth root r) note_is s =
        let e : Event = record { object = o; did = Birth root r; lane = line.0; at = at; number = k } in (
          note-placed run.shape logs holds acts line.0 at k o (Birth root r) s,
          region-told run.shape logs holds acts lives (record { event = e; move = Begins root r })
              (happens logs e (Begins root r) s (inl refl)),
        )
    did-told o k (Set offset bytes) note_is s = tt
    did-told o k (Get offset bytes) note_is s = tt
    did-told o k Touch note_is s = tt
    did-told o k (Room asked capacity) note_is s = tt
    did-told o k (Extend size) note_is s = tt
    did-told o k (Grow c r) note_is s =
        let e : Event = record { object = o; did = Grow c r; lane = line.0; at = at; number = k } in
        let u : (q : RootId) × Happens logs (record { event = e; move = Begins q r }) =
        use-happens run.shape logs holds acts e r s (inr (c, refl)) in
        region-told run.shape logs holds acts lives (record { event = e; move = Begins u.0 r }) u.1
    did-told o k (End root) note_is s =
        let place : o ≡ Object.Root root.place = note-placed run.shape logs holds acts line.0 at k o (End root) s in
        (place, ended-told run.shape logs holds acts line.0 at k root (s ∙ ap (λ x. Some (At x k (End root))) place))
