-- A root that ends, or that uses a region, was born.
use Rattle.std.proofs.Common.{inl, inr, ◌≡◌, ℕ, ◌+◌, take, refl, ap, subst, Some, ◌∙◌}
use Rattle.std.specs.Prelude.{◌-◌, slice_get}
use Rattle.pool_law.specs.declared.id.RootId.{RootId}
use Rattle.pool_law.specs.declared.id.RegionId.{RegionId}
use Rattle.pool_law.specs.declared.note.Object.{Object}
use Rattle.pool_law.specs.declared.note.Did.TheVariants.{Birth, End}
use Rattle.pool_law.specs.declared.note.Note.TheVariants.{At}
use Rattle.pool_law.specs.declared.run.Shape.{Shape}
use Rattle.pool_law.specs.Roots.{RootPlace, Present}
use Rattle.pool_law.specs.Histories.{place_after}
use Rattle.pool_law.specs.Logs.{Logs, dids, of_lane, history_of}
use Rattle.pool_law.specs.Lives.{Done, Event, Begins, Leaves, IsUse, UseEnds}
use Rattle.pool_law.proofs.LogLemmas.{dids-at}
use Rattle.run_laws.specs.OneLog.{IsBirth}
use Rattle.run_laws.proofs.PagedHistories.{HistoriesPaged}
use Rattle.run_laws.proofs.LogEntries.{LanesAct}
use Rattle.run_laws.proofs.Numbered.{in-history}
use Rattle.run_laws.proofs.Placed.{is-some, take-get, born-at, end-birth}
use Rattle.run_laws.proofs.PlaceLaw.{was-born}
use Rattle.run_laws.proofs.HandTotals.{note-placed}
use Rattle.run_laws.proofs.Doings.{Does, told}
use Rattle.run_laws.proofs.EventLaw.{done-at}
use Rattle.run_laws.proofs.PlaceMoves.{Placed, present-placed}

-- a use, and the end of one, as an event
abbrev pub use_event : {logs : Logs} {root : RootId} {region : RegionId} → IsUse logs root region → Event
use_event {root = root} u =
    record { object = Object.Root root.place; did = u.did; lane = u.lane; at = u.at; number = u.number }

abbrev pub end_event : {logs : Logs} {root : RootId} {region : RegionId} → UseEnds logs root region → Event
end_event {root = root} u =
    record { object = Object.Root root.place; did = u.did; lane = u.lane; at = u.at; number = u.number }

pub use-does : (logs : Logs) (root : RootId) (r : RegionId) (u : IsUse logs root r)
    → Does logs (Begins root r) (use_event u)
use-does logs root r u =
    told logs (record { event = use_event u; move = Begins root r })
    (record { stands = u.stands; moves = u.moves })

pub end-does : (logs : Logs) (root : RootId) (r : RegionId) (u : UseEnds logs root r)
    → Does logs (Leaves root r) (end_event u)
end-does logs root r u =
    told logs (record { event = end_event u; move = Leaves root r })
    (record { stands = u.stands; moves = u.moves })

module _ (shape : Shape) (logs : Logs) (holds : HistoriesPaged shape logs) (acts : LanesAct logs) where
  -- a root that ends was born
  pub ended-born : (root : RootId) → Done logs (Object.Root root.place) (End root)
      → (r : RegionId) × IsBirth logs root r
  ended-born root d =
      let at : (j : ℕ) × (d.number ≡ 1 + j)
      × (slice_get (history_of (Object.Root root.place) logs) j ≡ Some (d.lane, End root)) =
      in-history (Object.Root root.place) logs (history_of (Object.Root root.place) logs)
      (holds.whole (Object.Root root.place) refl) d.lane d.at d.number (End root) d.stands in
      let t : (t : RootPlace) × (place_after root.place (dids (history_of (Object.Root root.place) logs)) ≡ Some t) =
      is-some (place_after root.place (dids (history_of (Object.Root root.place) logs)))
      (holds.accepted (Object.Root root.place) refl) in
      let b = end-birth root.place (dids (history_of (Object.Root root.place) logs)) t.0 at.0 root t.1
      (dids-at (history_of (Object.Root root.place) logs) at.0 d.lane (End root) at.2) in
      (b.1, (done-at shape logs holds acts (Object.Root root.place) refl b.0 (Birth root b.1) b.2).0)

  -- and so was what is present anywhere
  pub present-born : (p : Present) (k : ℕ) (o : Object) → Placed shape logs holds acts o k p
      → (r : RegionId) × IsBirth logs p.root r
  present-born p k o x =
      let b = born-at p.root p.region (take (k - 1) (dids (history_of (Object.Root p.root.place) logs)))
      (was-born p.root.place (take (k - 1) (dids (history_of (Object.Root p.root.place) logs))) x.state p x.before
      x.present) in
      let g = take-get (k - 1) (dids (history_of (Object.Root p.root.place) logs)) b.0 (Birth p.root b.1) b.2 in
      (b.1, (done-at shape logs holds acts (Object.Root p.root.place) refl b.0 (Birth p.root b.1) g.0).0)

  -- and what uses a region
  pub begins-born : (root : RootId) (r : RegionId) (e : Event) → (slice_get (of_lane logs e.lane) e.at
      ≡ Some (At e.object e.number e.did)) → Does logs (Begins root r) e → (x : RegionId) × IsBirth logs root x
  begins-born root r e s (inl is) =
      let stands : slice_get (of_lane logs e.lane) e.at ≡ Some (At e.object e.number (Birth root r)) =
      s ∙ ap (λ d. Some (At e.object e.number d)) is in
      let here : e.object ≡ Object.Root root.place =
      note-placed shape logs holds acts e.lane e.at e.number e.object (Birth root r) stands in (
        r,
        record {
          lane = e.lane;
          at = e.at;
          number = e.number;
          stands = stands ∙ ap (λ o. Some (At o e.number (Birth root r))) here;
        },
      )
  begins-born root r e s (inr g) =
      let b = present-born g.2.0 e.number e.object
      (present-placed shape logs holds acts e.object e.number g.2.0 g.2.1) in
      (b.0, subst (λ q. IsBirth logs q b.0) g.2.2 b.1)

  pub used-born : (root : RootId) (r : RegionId) → IsUse logs root r → (x : RegionId) × IsBirth logs root x
  used-born root r u = begins-born root r (use_event u) u.stands (use-does logs root r u)
