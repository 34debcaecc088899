-- A region that a root uses returns once, as its use ends, and otherwise never.
use Rattle.std.proofs.Common.{⊎_elim, inl, inr, ◌≡◌, ℕ, ◌+◌, ◌≤◌, length, refl, sym, ap, subst, arith, true, false, Some, ◌∙◌}
use Rattle.std.specs.Prelude.{◌⊎◌, ◌<◌, map, slice_get}
use Rattle.pool_law.specs.declared.id.RootId.{RootId}
use Rattle.pool_law.specs.declared.id.RegionId.{RegionId}
use Rattle.pool_law.specs.declared.note.Object.{Object}
use Rattle.pool_law.specs.declared.note.Did.{Did}
use Rattle.pool_law.specs.declared.note.Did.TheVariants.{Give, Kept, Grow, End}
use Rattle.pool_law.specs.declared.note.RefDid.{RefDid}
use Rattle.pool_law.specs.declared.note.Note.TheVariants.{At}
use Rattle.pool_law.specs.declared.run.Shape.{Shape}
use Rattle.pool_law.specs.Logs.{Logs, of_lane, entry_of, entries_of}
use Rattle.pool_law.specs.Legal.{CountsAgree}
use Rattle.pool_law.specs.Lives.{Done, IsUse, GrowsOut, Begins, Leaves}
use Rattle.pool_law.proofs.ListLemmas.{get-map}
use Rattle.pool_law.proofs.LogLemmas.{entry-note}
use Rattle.run_laws.specs.OneLog.{Counted, HasEnded, StandInOneLog}
use Rattle.run_laws.specs.Conserved.{Returned, ReturnsOnce}
use Rattle.run_laws.specs.Hands.{did_of, Source}
use Rattle.run_laws.proofs.PagedHistories.{HistoriesPaged}
use Rattle.run_laws.proofs.LogEntries.{LanesAct}
use Rattle.run_laws.proofs.LogParts.{Parts}
use Rattle.run_laws.proofs.Acts.{PutsAway}
use Rattle.run_laws.proofs.Sums.{below-or}
use Rattle.run_laws.proofs.Together.{EndHere, GrowthHere, note-together}
use Rattle.run_laws.proofs.HandSteps.{moving}
use Rattle.run_laws.proofs.HandPairs.{no-both}
use Rattle.run_laws.proofs.HandNotes.{Held, held-once}
use Rattle.run_laws.proofs.HandTotals.{note-placed}
use Rattle.run_laws.proofs.LifeLaw.{used-got}
use Rattle.run_laws.proofs.EventLaw.{same-begins, same-leaves}
use Rattle.run_laws.proofs.Doings.{Does, one-user}
use Rattle.run_laws.proofs.PlaceMoves.{begun-by}
use Rattle.run_laws.proofs.EndLaw.{dead-ended, ended-dead}
use Rattle.run_laws.proofs.OneLogLaw.{stand-in_one_log}
use Rattle.run_laws.proofs.Births.{use_event, end_event, use-does, used-born}
use Rattle.run_laws.proofs.UseEndings.{left-ends, left-same, growth_event, growth-does, ended-left, ends-how}
use Rattle.run_laws.proofs.Returning.{Left, ReturnedBy, left-returned, returned-left}

module _ (shape : Shape) (logs : Logs) (holds : HistoriesPaged shape logs) (acts : LanesAct logs) where
  pub use-number : (root : RootId) (r : RegionId) → IsUse logs root r → 1 ≤ r.uses
  use-number root r u =
      let does : Does logs (Begins root r) (use_event u) = use-does logs root r u in
      let y = used-got shape logs holds acts u.lane u.at u.number (Object.Root root.place) u.did r u.stands
      (⊎_elim (λ is. inl (root, is)) (λ g. inr (g.0, g.1)) does) in
      omega (arith, ap (λ x. x.uses) y.1)

  -- a region that is left is left by the root that uses it
  pub own-left : (root q : RootId) (r : RegionId) → IsUse logs root r → Left shape logs holds acts q r → q ≡ root
  own-left root q r u l =
      let b = begun-by shape logs holds acts q r l.event l.does in
      let mine : Does logs (Begins root r) (use_event u) = use-does logs root r u in
      let same : b.event ≡ use_event u =
      same-begins shape logs holds acts r q root b.event (use_event u) b.stands u.stands b.does mine in
      (one-user logs (use_event u) q root r r (subst (Does logs (Begins q r)) same b.does) mine).0

  pub returned-own : (root : RootId) (r : RegionId) → IsUse logs root r → (a : Returned logs r)
      → (l : Left shape logs holds acts root r) × (l.event.lane ≡ a.lane) × (l.event.at < a.at)
      × ((from : Source) × (y : RegionId) × Held logs l.event.lane l.event.at a.at from y)
  returned-own root r u a =
      let b : ReturnedBy shape logs holds acts r a = returned-left shape logs holds acts r (use-number root r u) a in
      go b.root (own-left root b.root r u b.left) b.left b.lane b.order b.held
    where
      go : (q : RootId) → q ≡ root → (l : Left shape logs holds acts q r) → l.event.lane ≡ a.lane → l.event.at < a.at
          → (from : Source) × (y : RegionId) × Held logs l.event.lane l.event.at a.at from y
          → (l : Left shape logs holds acts root r) × (l.event.lane ≡ a.lane) × (l.event.at < a.at)
          × ((from : Source) × (y : RegionId) × Held logs l.event.lane l.event.at a.at from y)
      go q same l lane order held = (
        record {
          event = l.event;
          stands = l.stands;
          does = subst (λ p. Does logs (Leaves p r) l.event) same l.does;
        },
        lane,
        order,
        held,
      )

  pub returned-once : (root : RootId) (r : RegionId) → IsUse logs root r → (a b : Returned logs r)
      → (a.lane ≡ b.lane) × (a.at ≡ b.at)
  returned-once root r u a b =
      let x = returned-own root r u a in
      let y = returned-own root r u b in
      let same : x.0.event ≡ y.0.event =
      same-leaves shape logs holds acts r root root x.0.event y.0.event x.0.stands y.0.stands x.0.does y.0.does in
      let held = subst (λ e. Held logs e.lane e.at b.at y.3.0 y.3.1) (sym same) y.3.2 in (
        sym x.1 ∙ ap (λ e. e.lane) same ∙ y.1,
        held-once logs acts x.0.event.lane x.0.event.at a.at b.at x.3.0 y.3.0 x.3.1 y.3.1 x.3.2 held,
      )

  -- a region in hand is put away no later than one is in the log
  away-moves : (r : RegionId) (d : Did) → PutsAway r d → moving (Some d) ≡ true
  away-moves r (Kept x) puts = refl
  away-moves r (Give x) puts = refl
  away-moves r _ puts = absurd puts

  put-soon : (lane at k away n : ℕ) (from : Source) (y r : RegionId) (o : Object) (d : Did)
      → Held logs lane at k from y → slice_get (of_lane logs lane) away ≡ Some (At o n d) → PutsAway r d → at < away
      → k ≤ away
  put-soon lane at k away n from y r o d h is puts after =
      ⊎_elim
      (λ (less : away < k).
      let there : slice_get (map (entry_of logs) (of_lane logs lane)) away ≡ Some (entry_of logs (At o n d)) =
      get-map (entry_of logs) (of_lane logs lane) away (At o n d) is in
      let quiet : moving (did_of (entry_of logs (At o n d)).note) ≡ false =
      h.pair.still away (entry_of logs (At o n d)) after less there in
      let loud : moving (did_of (entry_of logs (At o n d)).note) ≡ true =
      ap (λ m. moving (did_of m)) (entry-note logs (At o n d)) ∙ away-moves r d puts in
      absurd (no-both (moving (did_of (entry_of logs (At o n d)).note)) loud quiet))
      (λ most. most)
      (below-or away k)

  module _ (parts : (lane : ℕ) → lane < length logs → Parts lane (map (entry_of logs) (of_lane logs lane)))
      (counts : CountsAgree (entries_of logs)) where
    notes : StandInOneLog logs
    notes = stand-in_one_log shape logs holds acts parts counts

    left-of : (root : RootId) (r : RegionId) → IsUse logs root r → Counted logs root RefDid.Ended ⊎ GrowsOut logs root r
        → Left shape logs holds acts root r
    left-of root r u (inl c) = ended-left shape logs holds acts parts counts root r u (notes.ended root c).end
    left-of root r u (inr g) =
        record {
          event = growth_event shape logs holds acts g;
          stands = g.stands;
          does = growth-does shape logs holds acts root r g;
        }

    how-left : (root : RootId) (r : RegionId) → Left shape logs holds acts root r
        → Counted logs root RefDid.Ended ⊎ GrowsOut logs root r
    how-left root r l =
        ⊎_elim (λ d. inl (notes.end root d.0).ended) (λ g. inr g.0)
        (ends-how shape logs holds acts parts counts root r (left-ends shape logs holds acts root r l))

    after-growth : (root : RootId) (r : RegionId) → IsUse logs root r → (a : Returned logs r) (g : GrowsOut logs root r)
        → (g.lane ≡ a.lane) × (g.at < a.at) × (a.at ≤ g.at + 2)
    after-growth root r u a g =
        let x = returned-own root r u a in
        let same : x.0.event ≡ growth_event shape logs holds acts g =
        same-leaves shape logs holds acts r root root x.0.event (growth_event shape logs holds acts g) x.0.stands
        g.stands x.0.does (growth-does shape logs holds acts root r g) in
        let held : Held logs g.lane g.at a.at x.3.0 x.3.1 =
        subst (λ e. Held logs e.lane e.at a.at x.3.0 x.3.1) same x.3.2 in
        let h : GrowthHere logs g.lane g.at =
        note-together logs g.lane (acts g.lane) g.at
        (At (Object.Root root.place) g.number (Grow g.capacity g.next)) g.stands in (
          sym (ap (λ e. e.lane) same) ∙ x.1,
          omega (arith, ap (λ e. e.at) same, x.2),
          omega (
            arith,
            put-soon g.lane g.at a.at h.away h.away_number x.3.0 x.3.1 h.left h.away_object h.did held h.away_is
                h.puts_away h.after_growth,
            h.near,
          ),
        )

    after-release : (root : RootId) (r : RegionId) → IsUse logs root r → (GrowsOut logs root r → ⊥)
        → (a : Returned logs r) (release : Counted logs root RefDid.Ended)
        → (release.lane ≡ a.lane) × (release.at < a.at) × (a.at ≤ release.at + 4)
    after-release root r u last a release =
        let x = returned-own root r u a in
        let same : end_event (left-ends shape logs holds acts root r x.0) ≡ x.0.event =
        left-same shape logs holds acts root r x.0 in
        ⊎_elim
        (λ d.
        let lane : d.0.lane ≡ x.0.event.lane = d.1 ∙ ap (λ e. e.lane) same in
        let at : d.0.at ≡ x.0.event.at = d.2 ∙ ap (λ e. e.at) same in
        let h : EndHere logs d.0.lane root = note-together logs d.0.lane (acts d.0.lane) d.0.at
        (At (Object.Root root.place) d.0.number (End root)) d.0.stands in
        let e : HasEnded logs root = notes.end root d.0 in
        let placed : h.object ≡ Object.Root root.place =
        note-placed shape logs holds acts d.0.lane h.end h.number h.object (End root) h.end_is in
        let here : Done logs (Object.Root root.place) (End root) =
        record {
          lane = d.0.lane;
          at = h.end;
          number = h.number;
          stands = h.end_is ∙ ap (λ o. Some (At o h.number (End root))) placed;
        } in
        let ends : (here.lane ≡ d.0.lane) × (here.at ≡ d.0.at) = e.end_once here d.0 in
        let first : Counted logs root RefDid.Ended =
        record { lane = d.0.lane; at = h.ended; stands = h.ended_is } in
        let released : (first.lane ≡ release.lane) × (first.at ≡ release.at) = e.ended_once first release in
        let held : Held logs d.0.lane d.0.at a.at x.3.0 x.3.1 =
        subst (λ k. Held logs d.0.lane k a.at x.3.0 x.3.1) (sym at)
        (subst (λ k. Held logs k x.0.event.at a.at x.3.0 x.3.1) (sym lane) x.3.2) in (
          sym released.0 ∙ lane ∙ x.1,
          omega (arith, released.1, h.after_ended, ends.1, at, x.2),
          omega (
            arith,
            put-soon d.0.lane d.0.at a.at h.away h.away_number x.3.0 x.3.1 h.region h.away_object h.did held h.away_is
                h.puts_away (omega (arith, ends.1, h.after_end, h.after_vacated)),
            h.near,
            released.1,
          ),
        ))
        (λ g. absurd (last g.0))
        (ends-how shape logs holds acts parts counts root r (left-ends shape logs holds acts root r x.0))

    pub returns-once : (root : RootId) (r : RegionId) → IsUse logs root r → ReturnsOnce logs root r
    returns-once root r u =
        let used : 1 ≤ r.uses = use-number root r u in
        let b = used-born shape logs holds acts root r u in
        record {
          exactly = (
            λ a. how-left root r (returned-own root r u a).0,
            λ x. (left-returned shape logs holds acts root r used (left-of root r u x)).0,
          );
          once = λ a c. returned-once root r u a c;
          after_growth = λ a g. after-growth root r u a g;
          after = λ last a release. after-release root r u last a release;
          ended_once = λ a c. (notes.ended root a).ended_once a c;
          at_zero = λ last. (
            λ a. ⊎_elim (λ c. ended-dead shape logs holds acts parts counts root b.0 b.1 (notes.ended root c).end)
                (λ g. absurd (last g)) (how-left root r (returned-own root r u a).0),
            λ dead.
                (left-returned shape logs holds acts root r used
                (ended-left shape logs holds acts parts counts root r u
                (dead-ended shape logs holds acts parts counts root b.0 b.1 dead))).0,
          );
        }
