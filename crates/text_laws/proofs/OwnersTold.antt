-- A region is hit, shed and put to use in its owner's lane alone.
use Rattle.std.proofs.Common.{⊎_elim, inl, inr, ◌≡◌, ℕ, Some, true, refl, sym, ap, subst, ◌∙◌, eqb-true}
use Rattle.std.specs.Prelude.{◌==◌}
use Rattle.pool_law.specs.declared.id.RegionId.{RegionId}
use Rattle.pool_law.specs.declared.id.RootId.{RootId}
use Rattle.pool_law.specs.declared.note.Did.{Did}
use Rattle.pool_law.specs.declared.note.Did.TheVariants.{Grow, Hit, Shed}
use Rattle.pool_law.specs.declared.note.Note.TheVariants.{At}
use Rattle.pool_law.specs.declared.note.Object.{Object}
use Rattle.pool_law.specs.declared.run.Shape.{Shape}
use Rattle.pool_law.specs.Lives.{Event, Happens, Begins, Stands, StandsAt, cache_of}
use Rattle.pool_law.specs.Logs.{Logs, entry_of, note_stands, of_lane}
use Rattle.pool_law.specs.Patterns.{one_more}
use Rattle.run_laws.specs.Hands.{Source, Got, Ended, Dropped}
use Rattle.run_laws.proofs.Doings.{happens, left-present}
use Rattle.run_laws.proofs.HandNotes.{Held, held-from, held-to}
use Rattle.run_laws.proofs.HandSteps.{Empties, IsOut}
use Rattle.run_laws.proofs.HandTotals.{note-placed}
use Rattle.run_laws.proofs.LifeLaw.{Uses}
use Rattle.run_laws.proofs.LogEntries.{LanesAct}
use Rattle.run_laws.proofs.PagedHistories.{HistoriesPaged}
use Rattle.run_laws.proofs.Placed.{all-at}
use Rattle.text_laws.proofs.BegunTold.{ends-fill}
use Rattle.text_laws.proofs.TakingsTold.{TakenBy, taken-by}

module _ (shape : Shape) (logs : Logs) (holds : HistoriesPaged shape logs) (acts : LanesAct logs) where
  pub hit-owner : (lane at k : ℕ) (o : Object) (r : RegionId) → StandsAt logs lane at (At o k (Hit r))
      → (o ≡ cache_of r) × (r.owner ≡ lane)
  hit-owner lane at k o r s =
      let here : o ≡ cache_of r = note-placed shape logs holds acts lane at k o (Hit r) s in
      let may : (lane == r.owner) ≡ true =
      all-at (note_stands shape lane) (of_lane logs lane) at (At (cache_of r) k (Hit r)) (holds.stand lane)
      (s ∙ ap (λ x. Some (At x k (Hit r))) here) in
      (here, sym (eqb-true lane r.owner may))

  pub shed-owner : (lane at k : ℕ) (o : Object) (r : RegionId) → StandsAt logs lane at (At o k (Shed r))
      → (o ≡ cache_of r) × (r.owner ≡ lane)
  shed-owner lane at k o r s =
      let here : o ≡ cache_of r = note-placed shape logs holds acts lane at k o (Shed r) s in
      let may : (lane == r.owner) ≡ true =
      all-at (note_stands shape lane) (of_lane logs lane) at (At (cache_of r) k (Shed r)) (holds.stand lane)
      (s ∙ ap (λ x. Some (At x k (Shed r))) here) in
      (here, sym (eqb-true lane r.owner may))

  comes-out : (d : Did) (x : RegionId) → Uses x d → IsOut d
  comes-out d x (inl u) = subst IsOut (sym u.1) tt
  comes-out d x (inr u) = subst IsOut (sym u.1) tt

  -- what puts a region to use has one more use of what was got
  got-once : (d : Did) (x y : RegionId) (from : Source) → Uses x d → Empties from y d
      → (from ≡ Got) × (x ≡ one_more y)
  got-once d x y Got (inl u) e = (refl, subst (Empties Got y) u.1 e)
  got-once d x y Got (inr u) e = (refl, subst (Empties Got y) u.1 e)
  got-once d x y Ended (inl u) e = absurd (subst (Empties Ended y) u.1 e)
  got-once d x y Ended (inr u) e = absurd (subst (Empties Ended y) u.1 e)
  got-once d x y Dropped (inl u) e = absurd (subst (Empties Dropped y) u.1 e)
  got-once d x y Dropped (inr u) e = absurd (subst (Empties Dropped y) u.1 e)

  pub use-owner : (lane at k : ℕ) (o : Object) (d : Did) (x : RegionId) → StandsAt logs lane at (At o k d) → Uses x d
      → x.owner ≡ lane
  use-owner lane at k o d x s uses =
      let h = held-to logs acts lane at k o d s (comes-out d x uses) in
      let g = got-once d x h.2 h.1 uses h.4 in
      let owner : h.2.owner ≡ lane = by h.0 h.1 h.2 g.0 h.3 in
      ap (λ (y : RegionId). y.owner) g.1 ∙ owner
    where
      by : (i : ℕ) (from : Source) (y : RegionId) → from ≡ Got → Held logs lane i at from y → y.owner ≡ lane
      by i Got y is h =
          ⊎_elim
          (λ hit. (hit-owner lane i h.into_number h.into_object y
          (h.into_is ∙ ap (λ z. Some (At h.into_object h.into_number z)) hit)).1)
          (λ take.
          let t : TakenBy shape logs holds acts lane take.0 h.into_object y =
          taken-by shape logs holds acts lane i h.into_number take.0 h.into_object y
          (h.into_is ∙ ap (λ z. Some (At h.into_object h.into_number z)) take.1) in
          t.owner)
          h.fills
      by i Ended y is h = absurd (cc is)
      by i Dropped y is h = absurd (cc is)

  -- a use of a region, as something that happens
  pub use-happens : (e : Event) (x : RegionId) → Stands logs e → Uses x e.did
      → (q : RootId) × Happens logs (record { event = e; move = Begins q x })
  use-happens e x s (inl u) = (u.0, happens logs e (Begins u.0 x) s (inl u.1))
  use-happens e x s (inr u) =
      let there : StandsAt logs e.lane e.at (At e.object e.number (Grow u.0 x)) =
      s ∙ ap (λ d. Some (At e.object e.number d)) u.1 in
      let h = held-from logs acts e.lane e.at e.number e.object (Grow u.0 x) there tt in
      let left = left-present logs e.object e.number (Grow u.0 x) h.2 (inr (u.0, x, refl))
      (ends-fill u.0 x h.2 (entry_of logs (At e.object e.number (Grow u.0 x))).region h.1 h.4) in
      (left.0.root, happens logs e (Begins left.0.root x) s (inr (u.0, u.1, (left.0, left.1, refl))))
