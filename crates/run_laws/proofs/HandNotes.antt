-- What a lane has in hand, from one note of its log to another.
use Rattle.std.proofs.Common.{⊎_elim, ◌≡◌, ℕ, sym, ap, subst, Some, None, ◌∙◌}
use Rattle.std.proofs.lemmas.Option.{same_Some}
use Rattle.std.specs.Prelude.{◌<◌, map, slice_get}
use Rattle.pool_law.specs.declared.id.RegionId.{RegionId}
use Rattle.pool_law.specs.declared.note.Object.{Object}
use Rattle.pool_law.specs.declared.note.Did.{Did}
use Rattle.pool_law.specs.declared.note.Note.{Note}
use Rattle.pool_law.specs.declared.note.Note.TheVariants.{At, Ref, Busy}
use Rattle.pool_law.specs.Logs.{Logs, ToldNote, of_lane, entry_of}
use Rattle.pool_law.proofs.ListLemmas.{get-map, map-get}
use Rattle.pool_law.proofs.LogLemmas.{entry-note}
use Rattle.run_laws.specs.Hands.{did_of, Source, Hand, hand_after}
use Rattle.run_laws.proofs.LogEntries.{LanesAct}
use Rattle.run_laws.proofs.HandLaw.{acts-hand}
use Rattle.run_laws.proofs.LaneActs.{AnyNote}
use Rattle.run_laws.proofs.HandPairs.{Pair, Onward, pair-from, pair-to, one-out}
use Rattle.run_laws.proofs.HandSteps.{Fills, Empties, IsIn, IsOut}

-- the same in a log: what a lane has in hand, from one note to another
pub record Held (logs : Logs) (lane i k : ℕ) (from : Source) (y : RegionId) : Type 0 where
  pub into : Did
  pub into_object : Object
  pub into_number : ℕ
  pub into_is : slice_get (of_lane logs lane) i ≡ Some (At into_object into_number into)
  pub fills : Fills from y (entry_of logs (At into_object into_number into)).region into
  pub out : Did
  pub out_object : Object
  pub out_number : ℕ
  pub out_is : slice_get (of_lane logs lane) k ≡ Some (At out_object out_number out)
  pub empties : Empties from y out
  pub order : i < k
  pub pair : Pair (map (entry_of logs) (of_lane logs lane)) i k from y

pub note-did : (n : Note) (d : Did) → did_of n ≡ Some d → (o : Object) × (k : ℕ) × (n ≡ At o k d)
note-did (At o k x) d e = (o, k, ap (At o k) (same_Some x d e))
note-did (Ref root x) d e = absurd (cc e)
note-did (Busy held) d e = absurd (cc e)

module _ (logs : Logs) (acts : LanesAct logs) (lane : ℕ) where
  -- an entry of a log, as a note
  note-of : (i : ℕ) (e : ToldNote) (d : Did) → slice_get (map (entry_of logs) (of_lane logs lane)) i ≡ Some e
      → did_of e.note ≡ Some d → (o : Object) × (k : ℕ) × (slice_get (of_lane logs lane) i ≡ Some (At o k d))
      × (e ≡ entry_of logs (At o k d))
  note-of i e d is did =
      let m = map-get (entry_of logs) (of_lane logs lane) i e is in
      let n = note-did m.0 d (ap did_of (sym (entry-note logs m.0)) ∙ ap (λ x. did_of x.note) m.2 ∙ did) in
      (n.0, n.1, m.1 ∙ ap (λ x. Some x) n.2, sym m.2 ∙ ap (entry_of logs) n.2)

  pub held : (i k : ℕ) (from : Source) (y : RegionId) → Pair (map (entry_of logs) (of_lane logs lane)) i k from y
      → Held logs lane i k from y
  held i k from y p =
      let a = note-of i p.into.entry p.into.did p.into.there p.into.is in
      let b = note-of k p.out.entry p.out.did p.out.there p.out.is in
      record {
        into = p.into.did;
        into_object = a.0;
        into_number = a.1;
        into_is = a.2;
        fills = subst (λ e. Fills from y e.region p.into.did) a.3 p.into.fills;
        out = p.out.did;
        out_object = b.0;
        out_number = b.1;
        out_is = b.2;
        empties = p.out.empties;
        order = p.order;
        pair = p;
      }

  empty : hand_after None (map (entry_of logs) (of_lane logs lane)) ≡ Some None
  empty = acts-hand AnyNote (map (entry_of logs) (of_lane logs lane)) (acts lane)

  entry-did : (o : Object) (k : ℕ) (d : Did) → did_of (entry_of logs (At o k d)).note ≡ Some d
  entry-did o k d = ap did_of (entry-note logs (At o k d))

  -- what the notes at both ends say
  abbrev FillsBy : Source → RegionId → Note → Type 0
  FillsBy from y (At o k d) = Fills from y (entry_of logs (At o k d)).region d
  FillsBy from y _ = ⊥

  abbrev EmptiesBy : Source → RegionId → Note → Type 0
  EmptiesBy from y (At o k d) = Empties from y d
  EmptiesBy from y _ = ⊥

  pub held-from : (i k : ℕ) (o : Object) (d : Did) → slice_get (of_lane logs lane) i ≡ Some (At o k d) → IsIn d
      → (out : ℕ) × (from : Source) × (y : RegionId) × Held logs lane i out from y
      × Fills from y (entry_of logs (At o k d)).region d
  held-from i k o d is kind =
      let r : Onward (map (entry_of logs) (of_lane logs lane)) i =
      pair-from (map (entry_of logs) (of_lane logs lane)) None i (entry_of logs (At o k d)) d empty
      (get-map (entry_of logs) (of_lane logs lane) i (At o k d) is) (entry-did o k d) kind in
      let h : Held logs lane i r.to r.from r.region = held i r.to r.from r.region r.pair in (
        r.to,
        r.from,
        r.region,
        h,
        subst (FillsBy r.from r.region)
            (same_Some (At h.into_object h.into_number h.into) (At o k d) (sym h.into_is ∙ is)) h.fills,
      )

  pub held-to : (i k : ℕ) (o : Object) (d : Did) → slice_get (of_lane logs lane) i ≡ Some (At o k d) → IsOut d
      → (into : ℕ) × (from : Source) × (y : RegionId) × Held logs lane into i from y × Empties from y d
  held-to i k o d is kind =
      ⊎_elim
      (λ first. let none : ◌≡◌ {A = Hand} None (Some (first.from, first.region)) = first.held in absurd (cc none))
      (λ before.
      let h : Held logs lane before.at i before.from before.region =
      held before.at i before.from before.region before.pair in (
        before.at,
        before.from,
        before.region,
        h,
        subst (EmptiesBy before.from before.region)
            (same_Some (At h.out_object h.out_number h.out) (At o k d) (sym h.out_is ∙ is)) h.empties,
      ))
      (pair-to (map (entry_of logs) (of_lane logs lane)) None i (entry_of logs (At o k d)) d empty
      (get-map (entry_of logs) (of_lane logs lane) i (At o k d) is) (entry-did o k d) kind)

  pub held-once : (i k l : ℕ) (from of : Source) (y z : RegionId) → Held logs lane i k from y → Held logs lane i l of z
      → k ≡ l
  held-once i k l from of y z p q = one-out (map (entry_of logs) (of_lane logs lane)) i k l from of y z p.pair q.pair
