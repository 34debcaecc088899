-- A use of a region ends after it began, at the same place, and ends once.
use Rattle.std.proofs.Common.{⊎_elim, inl, inr, ◌≡◌, ℕ, ◌≤◌, take, refl, sym, ap, subst, arith, Some, None, ◌∙◌}
use Rattle.std.specs.Prelude.{◌-◌, Option}
use Rattle.pool_law.specs.declared.id.RootId.{RootId}
use Rattle.pool_law.specs.declared.id.RegionId.{RegionId}
use Rattle.pool_law.specs.declared.note.Object.{Object}
use Rattle.pool_law.specs.declared.note.Did.{Did}
use Rattle.pool_law.specs.declared.note.Did.TheVariants.{Birth, Grow, End}
use Rattle.pool_law.specs.declared.note.Note.{Note}
use Rattle.pool_law.specs.declared.note.Note.TheVariants.{At, Ref, Busy}
use Rattle.pool_law.specs.declared.run.Shape.{Shape}
use Rattle.pool_law.specs.Roots.{RootPlace, Present}
use Rattle.pool_law.specs.Histories.{place_after}
use Rattle.pool_law.specs.Logs.{Logs, dids, history_of, entry_of, present_in}
use Rattle.pool_law.specs.Lives.{Event, Stands, Begins, Leaves, AtOneObject, present_at}
use Rattle.run_laws.specs.HandCounts.{one_same, ended_by}
use Rattle.pool_law.proofs.SameLemmas.{same_region-is}
use Rattle.pool_law.specs.Same.{same_region}
use Rattle.run_laws.proofs.PagedHistories.{HistoriesPaged}
use Rattle.run_laws.proofs.LogEntries.{LanesAct}
use Rattle.run_laws.proofs.Sums.{over-found}
use Rattle.run_laws.proofs.Placed.{is-some, one-of-true}
use Rattle.run_laws.proofs.PlaceUses.{present-some, Begun, begun, root-here}
use Rattle.run_laws.proofs.Totals.{note_tally, ends_in}
use Rattle.run_laws.proofs.HandSteps.{EndsUse}
use Rattle.run_laws.proofs.Doings.{Does, left-present, one-user}
use Rattle.run_laws.proofs.EventLaw.{the, done-at, same-begins}

module _ (shape : Shape) (logs : Logs) (holds : HistoriesPaged shape logs) (acts : LanesAct logs) where
  -- what is present at an object is at a root place, and its root is there
  pub record Placed (o : Object) (k : ℕ) (p : Present) : Type 0 where
    pub state : RootPlace
    pub before : place_after p.root.place
        (take (k - 1) (dids (history_of (Object.Root p.root.place) logs))) ≡ Some state
    pub present : state.present ≡ Some p
    pub object : o ≡ Object.Root p.root.place

  pub present-placed : (o : Object) (k : ℕ) (p : Present) → present_at logs o k ≡ Some p → Placed o k p
  present-placed (Object.Root place) k p here =
      let t : (t : RootPlace) × (place_after place (dids (history_of (Object.Root place) logs)) ≡ Some t) =
      is-some (place_after place (dids (history_of (Object.Root place) logs)))
      (holds.accepted (Object.Root place) refl) in
      let s = present-some (place_after place (take (k - 1) (dids (history_of (Object.Root place) logs)))) p here in
      let same : place ≡ p.root.place =
      sym (root-here place (dids (history_of (Object.Root place) logs)) t.0 t.1 (k - 1) s.0 p s.1 s.2) in
      record {
        state = s.0;
        before =
            subst (λ q. place_after q (take (k - 1) (dids (history_of (Object.Root q) logs))) ≡ Some s.0) same s.1;
        present = s.2;
        object = ap Object.Root same;
      }
  present-placed _ k p here = absurd (cc here)

  -- the event that began the use which an event ends
  pub record BegunBy (root : RootId) (r : RegionId) (f : Event) : Type 0 where
    pub event : Event
    pub stands : Stands logs event
    pub does : Does logs (Begins root r) event
    pub order : AtOneObject event f
    pub here : f.object ≡ Object.Root root.place

  pub begun-by : (root : RootId) (r : RegionId) (f : Event) → Does logs (Leaves root r) f → BegunBy root r f
  begun-by root r f (ends, p) =
      let x : Placed f.object f.number p.0 = present-placed f.object f.number p.0 p.1 in
      go p.0 x p.2 p.3
    where
      go : (p : Present) → Placed f.object f.number p → p.root ≡ root → p.region ≡ r → BegunBy root r f
      go p x same region =
          let t : (t : RootPlace) × (place_after p.root.place (dids (history_of (Object.Root p.root.place) logs))
          ≡ Some t) =
          is-some (place_after p.root.place (dids (history_of (Object.Root p.root.place) logs)))
          (holds.accepted (Object.Root p.root.place) refl) in
          let b : Begun p.root.place (dids (history_of (Object.Root p.root.place) logs)) (f.number - 1) p.root
          p.region =
          begun p.root.place (dids (history_of (Object.Root p.root.place) logs)) t.0 t.1 (f.number - 1) x.state p
          x.before x.present in
          let d = done-at shape logs holds acts (Object.Root p.root.place) refl b.at b.did b.there in
          let number : d.0.number - 1 ≡ b.at = omega (arith, d.1) in
          record {
            event = the d.0;
            stands = d.0.stands;
            does =
                ⊎_elim
                (λ is. inl (is ∙ (λ i. Birth (same i) (region i))))
                (λ g. inr (
                  g.0,
                  g.1 ∙ ap (Grow g.0) region,
                  (
                    g.2.0,
                    ap (λ n. present_in (place_after p.root.place
                        (take n (dids (history_of (Object.Root p.root.place) logs))))) number
                        ∙ g.2.1,
                    g.2.2 ∙ same,
                  ),
                ))
                b.begins;
            order = (sym x.object, (omega (arith, d.1, b.before), refl));
            here = x.object ∙ ap (λ q. Object.Root q.place) same;
          }

  -- what counts as an end of a use
  some : (r : RegionId) (t : Option RegionId) → 1 ≤ one_same r t → t ≡ Some r
  some r None h = absurd (omega (arith, h))
  some r (Some x) h = ap (λ y. Some y) (sym (same_region-is r x (one-of-true (same_region r x) h)))

  left-note : (r : RegionId) (n : Note) → 1 ≤ note_tally logs (ended_by r) n
      → (o : Object) × (k : ℕ) × (d : Did) × (n ≡ At o k d) × EndsUse d × ((entry_of logs (At o k d)).region ≡ Some r)
  left-note r (At o k (End root)) h =
      (o, k, End root, refl, inl (root, refl), some r (entry_of logs (At o k (End root))).region h)
  left-note r (At o k (Grow c x)) h =
      (o, k, Grow c x, refl, inr (c, x, refl), some r (entry_of logs (At o k (Grow c x))).region h)
  left-note r (At o k _) h = absurd (omega (arith, h))
  left-note r (Ref root did) h = absurd (omega (arith, h))
  left-note r (Busy held) h = absurd (omega (arith, h))

  -- an event that ends the use of a region
  pub record LeftBy (root : RootId) (r : RegionId) : Type 0 where
    pub event : Event
    pub stands : Stands logs event
    pub does : Does logs (Leaves root r) event

  pub left-by : (r : RegionId) → 1 ≤ ends_in logs r → (root : RootId) × LeftBy root r
  left-by r h =
      let f = over-found (note_tally logs (ended_by r)) logs h in
      let n = left-note r f.2 f.4 in
      let p = left-present logs n.0 n.1 n.2 r n.4 n.5 in (
        p.0.root,
        record {
          event = record { object = n.0; did = n.2; lane = f.0; at = f.1; number = n.1 };
          stands = f.3 ∙ ap (λ x. Some x) n.3;
          does = (n.4, (p.0, p.1, refl, p.2));
        },
      )

  -- so the use that began is ended by its own root
  pub left-own : (root : RootId) (r : RegionId) (e : Event) → Stands logs e → Does logs (Begins root r) e
      → 1 ≤ ends_in logs r → (l : LeftBy root r) × AtOneObject e l.event
  left-own root r e s does h =
      let l = left-by r h in
      let b : BegunBy l.0 r l.1.event = begun-by l.0 r l.1.event l.1.does in
      let same : b.event ≡ e = same-begins shape logs holds acts r l.0 root b.event e b.stands s b.does does in
      let owner : l.0 ≡ root = (one-user logs e l.0 root r r (subst (Does logs (Begins l.0 r)) same b.does) does).0 in
      go l.0 owner l.1 (subst (λ x. AtOneObject x l.1.event) same b.order)
    where
      go : (q : RootId) → q ≡ root → (l : LeftBy q r) → AtOneObject e l.event → (l : LeftBy root r)
          × AtOneObject e l.event
      go q same l order = (
        record { event = l.event; stands = l.stands; does = subst (λ p. Does logs (Leaves p r) l.event) same l.does },
        order,
      )
