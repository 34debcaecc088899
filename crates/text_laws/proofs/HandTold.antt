-- What a lane has in hand, as the lines before tell it.
use Rattle.std.proofs.Common.{⊎_elim, inl, inr, ◌≡◌, ℕ, suc, ◌+◌, ◌-◌, ◌<◌, ◌≤◌, List, ◌∷◌, ◌++◌, length, false, Option, Some, None, refl, sym, ap, subst, arith, ◌∙◌}
use Rattle.std.specs.Prelude.{slice_get, unwrap_or}
use Rattle.pool_law.specs.declared.id.RegionId.{RegionId}
use Rattle.pool_law.specs.declared.note.CacheNo.{CacheNo}
use Rattle.pool_law.specs.declared.note.Did.{Did}
use Rattle.pool_law.specs.declared.note.Did.TheVariants.{Back, End, Give, Grow, Hit, Kept, Shed, Take}
use Rattle.pool_law.specs.declared.note.Note.{Note}
use Rattle.pool_law.specs.declared.note.Note.TheVariants.{At, Ref, Busy}
use Rattle.pool_law.specs.declared.note.Object.{Object}
use Rattle.pool_law.specs.declared.run.Shape.{Shape}
use Rattle.pool_law.specs.Lives.{Happening, Happens, Leaves, RegionsLive, StandsAt, present_at}
use Rattle.pool_law.specs.Logs.{Logs, entry_of, has_history, of_lane}
use Rattle.pool_law.specs.Roots.{Present}
use Rattle.pool_law.proofs.ListLemmas.{get-map}
use Rattle.pool_law.proofs.LogLemmas.{entry-note}
use Rattle.arena_laws.proofs.SlotLemmas.{three}
use Rattle.run_laws.specs.Hands.{Source, Got, Ended, Dropped, did_of}
use Rattle.run_laws.proofs.Doings.{happens, left-present}
use Rattle.run_laws.proofs.EventLaw.{Noted, noted, one-note}
use Rattle.run_laws.proofs.HandNotes.{Held, held-to}
use Rattle.run_laws.proofs.HandSteps.{Empties, EndsUse, Fills, IsOut, moving}
use Rattle.run_laws.proofs.LogEntries.{LanesAct}
use Rattle.run_laws.proofs.PagedHistories.{HistoriesPaged}
use Rattle.run_laws.proofs.PlaceMoves.{present-placed}
use Rattle.run_text.specs.Lines.{Line, brought, in_hand, left, place_of, region_with, taking_key, told_from}
use Rattle.text_laws.proofs.BegunTold.{left-told}
use Rattle.text_laws.proofs.LastSays.{last-is}
use Rattle.text_laws.proofs.TakingsTold.{region-told}
use Rattle.text_laws.proofs.TextPlaces.{ahead, front-below, front-own, here, own-front}

-- a note that moves no region brings none
still-brings : (all : List Line) (n : Note) → moving (did_of n) ≡ false → brought all n ≡ None
still-brings all (At o k (Take c x)) still = absurd (cc still)
still-brings all (At o k (Hit x)) still = absurd (cc still)
still-brings all (At o k (Shed x)) still = absurd (cc still)
still-brings all (At o k (End root)) still = absurd (cc still)
still-brings all (At o k (Grow c x)) still = absurd (cc still)
still-brings all (At o k _) still = refl
still-brings all (Ref root d) still = refl
still-brings all (Busy held) still = refl

-- what is given was in the hand, whatever brought it
give-own : (x : RegionId) (from : Source) (y : RegionId) → Empties from y (Give x) → x ≡ y
give-own x Got y e = e
give-own x Ended y e = e
give-own x Dropped y e = e

-- nothing comes into the hand from a cache that sends a region back
never-back : (from : Source) (y : RegionId) (t : Option RegionId) (x : RegionId) (why : CacheNo)
    → Fills from y t (Back x why) → ⊥
never-back Got y t x why (inl e) = cc e
never-back Got y t x why (inr e) = let f : Back x why ≡ Take e.0 y = e.1 in cc f
never-back Ended y t x why (inl e, out) = let f : Back x why ≡ End e.0 = e.1 in cc f
never-back Ended y t x why (inr e, out) = let f : Back x why ≡ Grow e.0 e.1 = e.2 in cc f
never-back Dropped y t x why e = cc e

-- ---- What a lane brought last before a line.

module _ (logs : Logs) (front back : List Line) (line : Line) (is : told_from 0 logs ≡ front ++ line ∷ back) where
  -- a note of its lane brought this, and none behind that brought anything
  pub hand-is : (i : ℕ) (n : Note) (y : RegionId) → StandsAt logs line.0 i n → i < (here logs front back line is).at
      → brought (told_from 0 logs) n ≡ Some (Some y)
      → ((m : ℕ) (x : Note) → i < m → m < (here logs front back line is).at → StandsAt logs line.0 m x
      → brought (told_from 0 logs) x ≡ None)
      → in_hand (told_from 0 logs) front ≡ Some y
  hand-is i n y stands low brings none =
      ap (λ (o : Option (Option RegionId)). unwrap_or o None)
      (last-is (λ l. brought (told_from 0 logs) l.1) front (ahead line.0 logs + i) (line.0, n) (Some y)
      (own-front logs front back line is i n stands low) brings behind)
    where
      behind : (j : ℕ) (l : Line) → ahead line.0 logs + i < j → slice_get front j ≡ Some l
          → brought (told_from 0 logs) l.1 ≡ None
      behind j l later there =
          let before : j < length front = front-below logs front back line is j l there in
          let place : length front ≡ ahead line.0 logs + (here logs front back line is).at =
          (here logs front back line is).place in
          none (j - ahead line.0 logs) l.1 (omega (arith, later)) (omega (arith, later, before, place))
          (front-own logs front back line is j l there (omega (arith, later)))

-- ---- What came into the hand is what the lines bring.

module _ (shape : Shape) (logs : Logs) (holds : HistoriesPaged shape logs) (acts : LanesAct logs)
    (lives : RegionsLive logs) where
  -- a root that ends or grows leaves the region that its place leaves
  ends-bring : (lane at k : ℕ) (o : Object) (d : Did) (y : RegionId) → StandsAt logs lane at (At o k d) → EndsUse d
      → (entry_of logs (At o k d)).region ≡ Some y → left (told_from 0 logs) (place_of o) k ≡ Some y
  ends-bring lane at k o d y s ends out =
      let l = left-present logs o k d y ends out in by l.0 l.1 l.2
    where
      by : (p : Present) → present_at logs o k ≡ Some p → p.region ≡ y
          → left (told_from 0 logs) (place_of o) k ≡ Some y
      by p there region =
          let object : o ≡ Object.Root p.root.place =
          (present-placed shape logs holds acts o k p there).object in
          let i : Noted shape logs holds acts
          (record { object = o; did = d; lane = lane; at = at; number = k }) =
          noted shape logs holds acts (record { object = o; did = d; lane = lane; at = at; number = k }) s
          (ap has_history object) in
          let t : Happening =
          record {
            event = record { object = o; did = d; lane = lane; at = at; number = k };
            move = Leaves p.root p.region;
          } in
          let happened : Happens logs t =
          happens logs (record { object = o; did = d; lane = lane; at = at; number = k }) (Leaves p.root p.region) s
          (ends, (p, there, refl, refl)) in
          let told : region_with (told_from 0 logs) (taking_key p.region) p.region.uses ≡ Some p.region =
          region-told shape logs holds acts lives t happened in
          ap (λ x. left (told_from 0 logs) (place_of x) k) object
          ∙ left-told shape logs holds acts p.root.place k p (omega (arith, i.number))
          (ap (λ x. present_at logs x k) (sym object) ∙ there) told
          ∙ ap (λ r. Some r) region

  -- so each note that fills the hand brings what fills it
  fills-bring : (lane at k : ℕ) (o : Object) (d : Did) (from : Source) (y : RegionId)
      → StandsAt logs lane at (At o k d) → Fills from y (entry_of logs (At o k d)).region d
      → brought (told_from 0 logs) (At o k d) ≡ Some (Some y)
  fills-bring lane at k o d Got y s (inl is) = ap (λ x. brought (told_from 0 logs) (At o k x)) is
  fills-bring lane at k o d Got y s (inr is) = ap (λ x. brought (told_from 0 logs) (At o k x)) is.1
  fills-bring lane at k o d Dropped y s is = ap (λ x. brought (told_from 0 logs) (At o k x)) is
  fills-bring lane at k o d Ended y s (inl end, out) =
      ap (λ x. brought (told_from 0 logs) (At o k x)) end.1
      ∙ ap (λ r. Some r) (ends-bring lane at k o d y s (inl end) out)
  fills-bring lane at k o d Ended y s (inr grow, out) =
      ap (λ x. brought (told_from 0 logs) (At o k x)) grow.2
      ∙ ap (λ r. Some r) (ends-bring lane at k o d y s (inr grow) out)

  module _ (front back : List Line) (line : Line) (is : told_from 0 logs ≡ front ++ line ∷ back) where
    -- what came into the hand before the line, and goes out of it there or later, the lines before brought last
    held-told : (i to : ℕ) (from : Source) (y : RegionId) → Held logs line.0 i to from y
        → i < (here logs front back line is).at → (here logs front back line is).at ≤ to
        → in_hand (told_from 0 logs) front ≡ Some y
    held-told i to from y h low high =
        hand-is logs front back line is i (At h.into_object h.into_number h.into) y h.into_is low
        (fills-bring line.0 i h.into_number h.into_object h.into from y h.into_is h.fills)
        (λ m n above below stands. still-brings (told_from 0 logs) n
        (ap (λ e. moving (did_of e)) (sym (entry-note logs n))
        ∙ h.pair.still m (entry_of logs n) above (omega (arith, below, high))
        (get-map (entry_of logs) (of_lane logs line.0) m n stands)))

    there-as : (n : Note) → line.1 ≡ n → StandsAt logs line.0 (here logs front back line is).at n
    there-as n note_is = (here logs front back line is).stands ∙ ap (λ m. Some m) note_is

    -- so a region that is kept or given
    out-told : (o : Object) (k : ℕ) (d : Did) (x : RegionId) → line.1 ≡ At o k d → IsOut d
        → ((from : Source) (y : RegionId) → Empties from y d → x ≡ y)
        → in_hand (told_from 0 logs) front ≡ Some x
    out-told o k d x note_is out own =
        let h = held-to logs acts line.0 (here logs front back line is).at k o d (there-as (At o k d) note_is) out in
        let same : x ≡ h.2 = own h.1 h.2 h.4 in
        held-told h.0 (here logs front back line is).at h.1 h.2 h.3 h.3.order (omega arith)
        ∙ ap (λ r. Some r) (sym same)

    pub kept-told : (o : Object) (k : ℕ) (x : RegionId) → line.1 ≡ At o k (Kept x)
        → in_hand (told_from 0 logs) front ≡ Some x
    kept-told o k x note_is = out-told o k (Kept x) x note_is tt own
      where
        own : (from : Source) (y : RegionId) → Empties from y (Kept x) → x ≡ y
        own Got y e = e
        own Ended y e = e
        own Dropped y e = absurd e

    pub given-told : (o : Object) (k : ℕ) (x : RegionId) → line.1 ≡ At o k (Give x)
        → in_hand (told_from 0 logs) front ≡ Some x
    given-told o k x note_is = out-told o k (Give x) x note_is tt (give-own x)

    -- and one that a cache sends back, which the next note gives
    pub sent-told : (o : Object) (k : ℕ) (x : RegionId) (why : CacheNo) → line.1 ≡ At o k (Back x why)
        → (p : Object) × (m : ℕ) × StandsAt logs line.0 (suc (here logs front back line is).at) (At p m (Give x))
        → in_hand (told_from 0 logs) front ≡ Some x
    sent-told o k x why note_is given =
        let h = held-to logs acts line.0 (suc (here logs front back line is).at) given.1 given.0 (Give x) given.2 tt in
        let same : x ≡ h.2 = give-own x h.1 h.2 h.4 in
        held-told h.0 (suc (here logs front back line is).at) h.1 h.2 h.3 (before h.0 h.1 h.2 h.3) (omega arith)
        ∙ ap (λ r. Some r) (sym same)
      where
        before : (i : ℕ) (from : Source) (y : RegionId)
            → Held logs line.0 i (suc (here logs front back line is).at) from y
            → i < (here logs front back line is).at
        before i from y h =
            ⊎_elim (λ low. low)
            (λ rest. ⊎_elim
            (λ equal.
            let note : At h.into_object h.into_number h.into ≡ At o k (Back x why) =
            one-note logs line.0 i (At h.into_object h.into_number h.into) (At o k (Back x why)) h.into_is
            (ap (slice_get (of_lane logs line.0)) equal ∙ there-as (At o k (Back x why)) note_is) in
            let did : h.into ≡ Back x why = cc note in
            absurd (never-back from y (entry_of logs (At h.into_object h.into_number h.into)).region x why
            (subst (Fills from y (entry_of logs (At h.into_object h.into_number h.into)).region) did h.fills)))
            (λ high. absurd (omega (arith, high, h.order))) rest)
            (three i (here logs front back line is).at)
