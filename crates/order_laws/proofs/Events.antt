-- When events happen: their places in the one order.
use Rattle.std.proofs.Common.{⊎_elim, inl, inr, ◌≡◌, ℕ, ◌≤◌, Bool, true, false, List, [], ◌∷◌, take, refl, sym, ap, subst, arith, Some, ◌∙◌, eqb-true, eq-eqb}
use Rattle.std.proofs.lemmas.Option.{same_Some}
use Rattle.std.specs.Prelude.{◌<◌, ◌⊎◌, ◌==◌, slice_get}
use Rattle.pool_law.specs.declared.id.RootId.{RootId}
use Rattle.pool_law.specs.declared.id.RegionId.{RegionId}
use Rattle.pool_law.specs.declared.note.Object.{Object}
use Rattle.pool_law.specs.declared.note.Did.TheVariants.{End}
use Rattle.pool_law.specs.declared.note.RefDid.{RefDid}
use Rattle.pool_law.specs.declared.note.Note.{Note}
use Rattle.pool_law.specs.declared.note.Note.TheVariants.{At, Ref, Busy}
use Rattle.pool_law.specs.declared.run.Run.{Run}
use Rattle.pool_law.specs.Logs.{Logs, has_history}
use Rattle.pool_law.specs.Counts.{ends_root}
use Rattle.pool_law.specs.Legal.{IsLegal, logs_of}
use Rattle.pool_law.specs.Lives.{StandsAt, Event, Stands, InOneLog, AtOneObject, IsUse, Begins}
use Rattle.pool_law.specs.Apart.{Leads, IsOneUse}
use Rattle.pool_law.proofs.SameLemmas.{same_root-is}
use Rattle.pool_law.proofs.PatternLemmas.{same_root-refl}
use Rattle.run_laws.specs.OneLog.{HasEnded, StandInOneLog}
use Rattle.run_laws.proofs.PagedHistories.{HistoriesPaged, paged}
use Rattle.run_laws.proofs.HandTotals.{note-placed}
use Rattle.run_laws.proofs.OverlapLaw.{Reaches}
use Rattle.run_laws.proofs.Doings.{Does}
use Rattle.run_laws.proofs.EventLaw.{same-begins}
use Rattle.run_laws.proofs.Births.{use_event, use-does}
use Rattle.run_laws.proofs.RunLaws.{acts-of, roots-in_one_log}
use Rattle.run_order.specs.Order.{made, InOneOrder}
use Rattle.run_order.proofs.Fronts.{made-found, found-made}
use Rattle.run_order.proofs.Positions.{place, there, noted, later-in_log, later-at_object}
use Rattle.pool_law.specs.Same.{same_object, same_root}
use Rattle.pool_law.specs.Logs.{history_of, of_lane}
use Rattle.pool_law.specs.declared.note.Did.{Did}
use Rattle.pool_law.proofs.PatternLemmas.{both_true, same_object-refl}
use Rattle.pool_law.proofs.SameLemmas.{and-first, and-second, same_object-is}
use Rattle.run_laws.proofs.Numbered.{in-history, rises-in_log}
use Rattle.order_laws.specs.Moments.{is_noted}
use Rattle.arena_laws.proofs.SlotLemmas.{three}

-- the root's end is noted at its place
abbrev pub is_end : RootId → Note → Bool
is_end root (At object number (End r)) = same_root r root
is_end root _ = false

pub end-is : (root : RootId) (n : Note) → is_end root n ≡ true
    → (object : Object) × (number : ℕ) × (n ≡ At object number (End root))
end-is root (At object number (End r)) e =
    (object, number, ap (λ z. At object number (End z)) (same_root-is r root e))
end-is root _ e = absurd (cc e)

-- the note with a number at an object
pub noted-itself : (object : Object) (number : ℕ) (d : Did) → is_noted object number (At object number d) ≡ true
noted-itself object number d =
    both_true (same_object object object) (number == number) (same_object-refl object) (eq-eqb number number refl)

pub noted-is : (object : Object) (number : ℕ) (n : Note) → is_noted object number n ≡ true
    → (d : Did) × (n ≡ At object number d)
noted-is object number (At other k d) e = (
  d,
  λ i. At (sym (same_object-is object other (and-first (same_object object other) (k == number) e)) i)
      (eqb-true k number (and-second (same_object object other) (k == number) e) i) d,
)
noted-is object number (Ref root d) e = absurd (cc e)
noted-is object number (Busy held) e = absurd (cc e)

module _ (logs : Logs) (o : InOneOrder logs) where
  -- when an event happens
  abbrev pub when : Event → ℕ
  when e = place logs o e.lane e.at

  pub one-later : (e f : Event) → Stands logs e → Stands logs f → InOneLog e f ⊎ AtOneObject e f → when e < when f
  one-later e f s t (inl h) =
      subst (λ lane. place logs o lane e.at < when f) (sym h.0)
      (later-in_log logs o f.lane e.at f.at (At f.object f.number f.did) t h.1)
  one-later e f s t (inr h) =
      later-at_object logs o f.object e.number f.number e.did f.did e.lane e.at f.lane f.at
      (ap has_history (sym h.0) ∙ h.1.1) (s ∙ ap (λ object. Some (At object e.number e.did)) h.0) t h.1.0

  pub leads-later : (e : Event) (fs : List Event) (g : Event) → Stands logs e → Stands logs g → Leads logs e fs g
      → when e < when g
  leads-later e [] g s t h = one-later e g s t h
  leads-later e (f ∷ fs) g s t h =
      omega (arith, one-later e f s h.1.0 h.0, leads-later f fs g h.1.0 t h.1.1)

  pub reaches-later : (e g : Event) → Stands logs e → Stands logs g → Reaches logs e g → when e < when g
  reaches-later e g s t h = leads-later e h.0 g s t h.1

  -- what stands in a log is made in each front behind its place
  pub stands-made : (test : Note → Bool) (lane at k : ℕ) (n : Note) → StandsAt logs lane at n → test n ≡ true
      → place logs o lane at < k → 0 < made test (take k o.steps)
  stands-made test lane at k n is passes low =
      found-made test o.steps (place logs o lane at) k (record { lane = lane; note = n }) (there logs o lane at n is)
      passes low

  -- what is made in a front stands in a log, and before the front's end
  pub made-stands : (test : Note → Bool) (k : ℕ) → 0 < made test (take k o.steps)
      → (lane at : ℕ) × (n : Note) × StandsAt logs lane at n × (test n ≡ true) × (place logs o lane at < k)
  made-stands test k more =
      let f = made-found test o.steps k more in
      let r = noted logs o f.0 f.1 f.3 in
      (f.1.lane, r.0, f.1.note, r.1, f.4, omega (arith, f.2, r.2))

module _ (run : Run) (legal : IsLegal run) (o : InOneOrder (logs_of run)) where
  abbrev logs : Logs
  logs = logs_of run

  abbrev pub notes : StandInOneLog logs
  notes = roots-in_one_log run legal

  -- when a use begins
  abbrev pub begun_when : {root : RootId} {region : RegionId} → IsUse logs root region → ℕ
  begun_when u = place logs o u.lane u.at

  -- a number at an object is that of one note
  pub noted-once : (object : Object) → has_history object ≡ true → (lane at other bt number : ℕ) (d e : Did)
      → StandsAt logs lane at (At object number d) → StandsAt logs other bt (At object number e)
      → place logs o lane at ≡ place logs o other bt
  noted-once object has lane at other bt number d e s t =
      let i = in-history object logs (history_of object logs) (holds.whole object has) lane at number d s in
      let j = in-history object logs (history_of object logs) (holds.whole object has) other bt number e t in
      let index : i.0 ≡ j.0 = omega (arith, i.1, j.1) in
      let both : ◌≡◌ {A = ℕ × Did} (lane, d) (other, e) =
      same_Some (lane, d) (other, e) (sym i.2 ∙ ap (slice_get (history_of object logs)) index ∙ j.2) in
      let lanes : lane ≡ other = ap (λ (p : ℕ × Did). p.0) both in
      let dids_are : d ≡ e = ap (λ (p : ℕ × Did). p.1) both in
      let here : StandsAt logs lane bt (At object number d) =
      ap (λ l. slice_get (of_lane logs l) bt) lanes ∙ t ∙ ap (λ x. Some (At object number x)) (sym dids_are) in
      ⊎_elim
      (λ less. absurd (omega (
        arith,
        rises-in_log object logs (history_of object logs) (holds.whole object has) lane at bt
            number number d d s here less,
      )))
      (⊎_elim
      (λ same. λ k. place logs o (lanes k) (same k))
      (λ more. absurd (omega (
        arith,
        rises-in_log object logs (history_of object logs) (holds.whole object has) lane bt at
            number number d d here s more,
      ))))
      (three at bt)
    where
      holds : HistoriesPaged run.shape logs
      holds = paged run legal

  -- what a front has of a place stands there
  pub noted-when : (place_no number : ℕ) (lane at k : ℕ) (d : Did)
      → StandsAt logs lane at (At (Object.Root place_no) number d)
      → 0 < made (is_noted (Object.Root place_no) number) (take k o.steps) → place logs o lane at < k
  noted-when place_no number lane at k d s more =
      let f = made-stands logs o (is_noted (Object.Root place_no) number) k more in
      let n = noted-is (Object.Root place_no) number f.2 f.4 in
      omega (
        arith,
        f.5,
        noted-once (Object.Root place_no) refl lane at f.0 f.1 number d n.0 s (f.3 ∙ ap Some n.1),
      )

  -- in a front that has the beginning of a use it is before the front's end
  pub use-when : (root : RootId) (r : RegionId) (u : IsUse logs root r) (k : ℕ)
      → 0 < made (is_noted (Object.Root root.place) u.number) (take k o.steps) → begun_when u < k
  use-when root r u k more = noted-when root.place u.number u.lane u.at k u.did u.stands more

  -- a use begins once
  pub use-same : (root : RootId) (a : RegionId) (e : Event) → Stands logs e → Does logs (Begins root a) e
      → (u : IsUse logs root a) → when logs o e ≡ begun_when u
  use-same root a e s does u =
      let same : e ≡ use_event u =
      same-begins run.shape logs (paged run legal) (acts-of run legal) a root root e (use_event u) s u.stands does
      (use-does logs root a u) in
      ap (when logs o) same

  -- so two uses at two moments are two
  pub uses-apart : (root other : RootId) (a b : RegionId) (u : IsUse logs root a) (v : IsUse logs other b)
      → begun_when u < begun_when v → IsOneUse root a other b → ⊥
  uses-apart root other a b u v less one =
      let does : Does logs (Begins other b) (use_event u) =
      subst (λ q. Does logs (Begins q b) (use_event u)) one.0
      (subst (λ r. Does logs (Begins root r) (use_event u)) one.1 (use-does logs root a u)) in
      omega (arith, less, use-same other b (use_event u) u.stands does v)

  -- the release that ends a root stands before its end
  pub ended-first : (root : RootId) (f : Event) (k : ℕ) → Stands logs f → f.did ≡ End root → when logs o f ≤ k
      → 0 < made (ends_root root) (take k o.steps)
  ended-first root f k s is low =
      let stands : StandsAt logs f.lane f.at (At f.object f.number (End root)) =
      s ∙ ap (λ d. Some (At f.object f.number d)) is in
      let here : f.object ≡ Object.Root root.place =
      note-placed run.shape logs (paged run legal) (acts-of run legal) f.lane f.at f.number f.object (End root)
      stands in
      let h : HasEnded logs root =
      notes.end root (record {
        lane = f.lane;
        at = f.at;
        number = f.number;
        stands = stands ∙ ap (λ object. Some (At object f.number (End root))) here;
      }) in
      let once = h.end_once h.end (record {
        lane = f.lane;
        at = f.at;
        number = f.number;
        stands = stands ∙ ap (λ object. Some (At object f.number (End root))) here;
      }) in
      let same : place logs o h.end.lane h.end.at ≡ when logs o f = (λ i. place logs o (once.0 i) (once.1 i)) in
      let first : place logs o h.end.lane h.ended.at < place logs o h.end.lane h.end.at =
      later-in_log logs o h.end.lane h.ended.at h.end.at (At (Object.Root root.place) h.end.number (End root))
      h.end.stands h.order.0 in
      let lane : place logs o h.ended.lane h.ended.at ≡ place logs o h.end.lane h.ended.at =
      ap (λ l. place logs o l h.ended.at) (sym h.same_log.0) in
      stands-made logs o (ends_root root) h.ended.lane h.ended.at k (Ref root RefDid.Ended) h.ended.stands
      (same_root-refl root) (omega (arith, same, first, lane, low))
