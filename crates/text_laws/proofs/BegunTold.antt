-- What the lines say of uses that begin at a root place: the region that the place leaves is told.
use Rattle.std.proofs.Common.{inl, inr, ◌≡◌, ℕ, zero, suc, ◌+◌, List, Option, Some, None, take, refl, sym, ap, subst, arith, ◌∙◌}
use Rattle.std.specs.Prelude.{◌-◌, option_and_then, slice_get}
use Rattle.std.specs.Option.{option_map, option_or}
use Rattle.pool_law.specs.declared.id.RegionId.{RegionId}
use Rattle.pool_law.specs.declared.note.Did.{Did}
use Rattle.pool_law.specs.declared.note.Did.TheVariants.{Birth, Grow, Take}
use Rattle.pool_law.specs.declared.note.Note.{Note}
use Rattle.pool_law.specs.declared.note.Note.TheVariants.{At, Ref, Busy}
use Rattle.pool_law.specs.declared.note.Object.{Object}
use Rattle.pool_law.specs.declared.run.Shape.{Shape}
use Rattle.pool_law.specs.Histories.{after, place_after}
use Rattle.pool_law.specs.Lives.{StandsAt}
use Rattle.pool_law.specs.Logs.{Logs, dids, entry_of, history_of, present_before}
use Rattle.pool_law.specs.Roots.{Present, RootPlace, new_place, place_step}
use Rattle.pool_law.proofs.HistoryLemmas.{after-push}
use Rattle.run_laws.specs.Hands.{Source, Got, Ended, Dropped}
use Rattle.run_laws.proofs.Doings.{left-present}
use Rattle.run_laws.proofs.EventLaw.{Noted, done-at, noted}
use Rattle.run_laws.proofs.HandNotes.{held-from}
use Rattle.run_laws.proofs.HandSteps.{Fills}
use Rattle.run_laws.proofs.HandTotals.{note-placed}
use Rattle.run_laws.proofs.LifeLaw.{Uses}
use Rattle.run_laws.proofs.LogEntries.{LanesAct}
use Rattle.run_laws.proofs.PagedHistories.{HistoriesPaged}
use Rattle.run_laws.proofs.PlaceLaw.{Does, place_step-does}
use Rattle.run_laws.proofs.PlaceMoves.{present-placed}
use Rattle.run_laws.proofs.PlaceUses.{present-some, take-next, take-past}
use Rattle.run_laws.proofs.Placed.{is-some, step-at}
use Rattle.run_laws.proofs.Readings.{map-some}
use Rattle.run_text.specs.Lines.{Begun, Line, begun, begun_before, begun_by, keyed, last_begun, left, place_of, region_with, said, taking_key, told_from}
use Rattle.text_laws.proofs.LastSays.{keyed-none, keyed-own, keyed-some, last-none, last-only}
use Rattle.text_laws.proofs.TextPlaces.{Placed, ahead, placed-at, there-at}

-- ---- What a note begins.

abbrev pub begun_at : ℕ → ℕ → RegionId → Begun
begun_at place number r = ((place, number), r)

begun-did : (d : Did) (r : RegionId) → begun_by (said d) ≡ Some r → Uses r d
begun-did (Birth root x) r e = let same : x ≡ r = cc e in inl (root, ap (Birth root) same)
begun-did (Grow c x) r e = let same : x ≡ r = cc e in inr (c, ap (Grow c) same)
begun-did _ r e = absurd (cc e)

pub uses-begun : (d : Did) (r : RegionId) → Uses r d → begun_by (said d) ≡ Some r
uses-begun d r (inl u) = ap (λ x. begun_by (said x)) u.1
uses-begun d r (inr u) = ap (λ x. begun_by (said x)) u.1

pub begun-note : (n : Note) (b : Begun) → begun n ≡ Some b
    → (o : Object) × (k : ℕ) × (d : Did) × (n ≡ At o k d) × (◌≡◌ {A = ℕ × ℕ} (place_of o, k) b.0) × Uses b.1 d
begun-note (At o k d) b e =
    let m = map-some (begun_by (said d)) (begun_at (place_of o) k) b e in
    let region : m.0 ≡ b.1 = ap (λ (x : Begun). x.1) m.2 in
    (o, k, d, refl, ap (λ (x : Begun). x.0) m.2, subst (λ r. Uses r d) region (begun-did d m.0 m.1))
begun-note (Ref root d) b e = absurd (cc e)
begun-note (Busy held) b e = absurd (cc e)

-- what was done begins one use
uses-one : (d : Did) (x y : RegionId) → Uses x d → Uses y d → x ≡ y
uses-one d x y (inl u) (inl v) = let e : Birth u.0 x ≡ Birth v.0 y = sym u.1 ∙ v.1 in cc e
uses-one d x y (inl u) (inr v) = let e : Birth u.0 x ≡ Grow v.0 y = sym u.1 ∙ v.1 in absurd (cc e)
uses-one d x y (inr u) (inl v) = let e : Grow u.0 x ≡ Birth v.0 y = sym u.1 ∙ v.1 in absurd (cc e)
uses-one d x y (inr u) (inr v) = let e : Grow u.0 x ≡ Grow v.0 y = sym u.1 ∙ v.1 in cc e

-- a growth leaves a region
pub ends-fill : (c : ℕ) (r y : RegionId) (t : Option RegionId) (from : Source) → Fills from y t (Grow c r) → t ≡ Some y
ends-fill c r y t Got (inl e) = absurd (cc e)
ends-fill c r y t Got (inr e) = let f : Grow c r ≡ Take e.0 y = e.1 in absurd (cc f)
ends-fill c r y t Ended f = f.1
ends-fill c r y t Dropped e = absurd (cc e)

module _ (shape : Shape) (logs : Logs) (holds : HistoriesPaged shape logs) (acts : LanesAct logs) where
  -- a use begins at a root place
  pub uses-placed : (lane at k : ℕ) (o : Object) (d : Did) (x : RegionId) → StandsAt logs lane at (At o k d)
      → Uses x d → (q : ℕ) × (o ≡ Object.Root q)
  uses-placed lane at k o d x s (inl u) =
      let placed : o ≡ Object.Root u.0.place =
      note-placed shape logs holds acts lane at k o (Birth u.0 x) (s ∙ ap (λ y. Some (At o k y)) u.1) in
      (u.0.place, placed)
  uses-placed lane at k o d x s (inr u) =
      let there : StandsAt logs lane at (At o k (Grow u.0 x)) = s ∙ ap (λ y. Some (At o k y)) u.1 in
      let h = held-from logs acts lane at k o (Grow u.0 x) there tt in
      let left = left-present logs o k (Grow u.0 x) h.2 (inr (u.0, x, refl))
      (ends-fill u.0 x h.2 (entry_of logs (At o k (Grow u.0 x))).region h.1 h.4) in
      (left.0.root.place, (present-placed shape logs holds acts o k left.0 left.1).object)

  module _ (place : ℕ) where
    abbrev ds : List Did
    ds = dids (history_of (Object.Root place) logs)

    -- a line that begins something here with this number is of that note of the place's history
    pub record BeginsAt (n : ℕ) (b : Begun) : Type 0 where
      pub did : Did
      pub there : slice_get ds n ≡ Some did
      pub uses : Uses b.1 did
      pub key : b.0 ≡ (place, suc n)

    line-begins : (n j : ℕ) (l : Line) (b : Begun) → slice_get (told_from 0 logs) j ≡ Some l
        → keyed (λ (x : Begun). x.0) (place, suc n) (begun l.1) ≡ Some b → BeginsAt n b
    line-begins n j l b there says =
        let k = keyed-some (λ (x : Begun). x.0) (place, suc n) (begun l.1) b says in
        let m = begun-note l.1 b k.0 in
        let p : Placed logs j l = placed-at logs j l there in
        let stands : StandsAt logs l.0 p.at (At m.0 m.1 m.2) = p.stands ∙ ap (λ x. Some x) m.3 in
        let q : (q : ℕ) × (m.0 ≡ Object.Root q) = uses-placed l.0 p.at m.1 m.0 m.2 b.1 stands m.5 in
        let key : ◌≡◌ {A = ℕ × ℕ} (place_of m.0, m.1) (place, suc n) = m.4 ∙ k.1 in
        let at_place : place_of m.0 ≡ place = ap (λ (x : ℕ × ℕ). x.0) key in
        let number : m.1 ≡ suc n = ap (λ (x : ℕ × ℕ). x.1) key in
        let own : q.0 ≡ place = sym (ap place_of q.1) ∙ at_place in
        let here : m.0 ≡ Object.Root place = q.1 ∙ ap Object.Root own in
        let i : Noted shape logs holds acts
        (record { object = Object.Root place; did = m.2; lane = l.0; at = p.at; number = m.1 }) =
        noted shape logs holds acts
        (record { object = Object.Root place; did = m.2; lane = l.0; at = p.at; number = m.1 })
        (stands ∙ ap (λ o. Some (At o m.1 m.2)) here) refl in
        let index : i.index ≡ n = omega (arith, i.number, number) in
        record {
          did = m.2;
          there = ap (slice_get ds) (sym index) ∙ i.there;
          uses = m.5;
          key = k.1;
        }

    -- so what begins there is what the place's history begins
    begins-at : (n : ℕ) (d : Did) (x : RegionId) → slice_get ds n ≡ Some d → Uses x d
        → last_begun (told_from 0 logs) (place, suc n) ≡ Some (begun_at place (suc n) x)
    begins-at n d x there uses =
        let e = done-at shape logs holds acts (Object.Root place) refl n d there in
        let number : e.0.number ≡ suc n = omega (arith, e.1) in
        let stands : StandsAt logs e.0.lane e.0.at (At (Object.Root place) (suc n) d) =
        e.0.stands ∙ ap (λ k. Some (At (Object.Root place) k d)) number in
        last-only (λ line. keyed (λ (x : Begun). x.0) (place, suc n) (begun line.1)) (told_from 0 logs)
        (begun_at place (suc n) x)
        (ahead e.0.lane logs + e.0.at) (e.0.lane, At (Object.Root place) (suc n) d)
        (there-at logs e.0.lane e.0.at (At (Object.Root place) (suc n) d) stands)
        (keyed-own (λ (x : Begun). x.0) (place, suc n) (begun (At (Object.Root place) (suc n) d))
        (begun_at place (suc n) x)
        (ap (λ (r : Option RegionId). option_map (begun_at place (suc n)) r) (uses-begun d x uses)) refl)
        (λ j l y at says.
        let b : BeginsAt n y = line-begins n j l y at says in
        let both : Some b.did ≡ Some d = sym b.there ∙ there in
        let same : b.did ≡ d = cc both in
        let region : y.1 ≡ x = uses-one d y.1 x (subst (Uses y.1) same b.uses) uses in
        let key : y.0 ≡ (place, suc n) = b.key in
        λ i. (key i, region i))

    begins-none : (n : ℕ) → ((d : Did) (x : RegionId) → slice_get ds n ≡ Some d → Uses x d → ⊥)
        → last_begun (told_from 0 logs) (place, suc n) ≡ None
    begins-none n none =
        last-none (λ line. keyed (λ (x : Begun). x.0) (place, suc n) (begun line.1)) (told_from 0 logs)
        (λ j l at. keyed-none (λ (x : Begun). x.0) (place, suc n) (begun l.1)
        (λ y is key.
        let b : BeginsAt n y =
        line-begins n j l y at (keyed-own (λ (x : Begun). x.0) (place, suc n) (begun l.1) y is key) in
        none b.did y.1 b.there b.uses))

    -- what began last is the region of what is present
    abbrev BeganIn : ℕ → RegionId → Type 0
    BeganIn n r = (b : Begun) × (begun_before (told_from 0 logs) place (suc n) ≡ Some b) × (b.1 ≡ r)

    one-begun : (n : ℕ) (d : Did) (x r : RegionId) → slice_get ds n ≡ Some d → Uses x d → r ≡ x
        → BeganIn (suc n) r
    one-begun n d x r there uses same = (
      begun_at place (suc n) x,
      ap (λ (o : Option Begun). option_or o (begun_before (told_from 0 logs) place (suc n)))
          (begins-at n d x there uses),
      sym same,
    )

    still-begun : (n : ℕ) (r : RegionId) → ((d : Did) (x : RegionId) → slice_get ds n ≡ Some d → Uses x d → ⊥)
        → BeganIn n r → BeganIn (suc n) r
    still-begun n r none b = (
      b.0,
      ap (λ (o : Option Begun). option_or o (begun_before (told_from 0 logs) place (suc n))) (begins-none n none) ∙ b.1,
      b.2,
    )

    -- one more note: what is present behind it, by what was present before it
    one-more : (n : ℕ) (d : Did) (s t : RootPlace) (p : Present) → slice_get ds n ≡ Some d → Does place s d t
        → t.present ≡ Some p → ((q : Present) → s.present ≡ Some q → BeganIn n q.region)
        → BeganIn (suc n) p.region
    one-more n (Birth root x) s t p there does is before =
        one-begun n (Birth root x) x p.region there (inl (root, refl)) (does.present p is).1
    one-more n (Grow c x) s t p there does is before =
        one-begun n (Grow c x) x p.region there (inr (c, refl)) (does.present p is).1
    one-more n d s t p there does is before =
        let q : (q : Present) × (s.present ≡ Some q) × (p.root ≡ q.root) × (p.region ≡ q.region) =
        does.present p is in
        subst (BeganIn (suc n)) (sym q.3)
        (still-begun n q.0.region
        (λ other x at uses.
        let both : Some other ≡ Some d = sym at ∙ there in
        let same : other ≡ d = cc both in
        let none : ◌≡◌ {A = Option RegionId} None (Some x) = uses-begun d x (subst (Uses x) same uses) in
        absurd (cc none))
        (before q.0 q.1))

    pub began : (n : ℕ) (s : RootPlace) (p : Present) → place_after place (take n ds) ≡ Some s → s.present ≡ Some p
        → BeganIn n p.region
    began zero s p e is =
        let same : new_place ≡ s = cc e in
        let none : None ≡ Some p = ap (λ x. x.present) same ∙ is in absurd (cc none)
    began (suc n) s p e is = go (slice_get ds n) refl (λ a q before here. began n a q before here)
      where
        go : (o : Option Did) → slice_get ds n ≡ o
            → ((a : RootPlace) (q : Present) → place_after place (take n ds) ≡ Some a → a.present ≡ Some q
            → BeganIn n q.region)
            → BeganIn (suc n) p.region
        go None past again =
            still-begun n p.region
            (λ d x at uses. let both : ◌≡◌ {A = Option Did} None (Some d) = sym past ∙ at in absurd (cc both))
            (again s p (ap (place_after place) (sym (take-past ds n past)) ∙ e) is)
        go (Some d) there again =
            let whole : (t : RootPlace) × (place_after place ds ≡ Some t) =
            is-some (place_after place ds) (holds.accepted (Object.Root place) refl) in
            let x : (a : RootPlace) × (b : RootPlace) × (after (place_step place) new_place (take n ds) ≡ Some a)
            × (place_step place a d ≡ Some b) = step-at (place_step place) ds new_place whole.0 n d whole.1 there in
            let longer : place_after place (take (suc n) ds) ≡ Some x.1 =
            ap (place_after place) (take-next ds n d there)
            ∙ after-push (place_step place) new_place (take n ds) d
            ∙ ap (option_and_then (λ y. place_step place y d)) x.2 ∙ x.3 in
            let both : Some x.1 ≡ Some s = sym longer ∙ e in
            let same : x.1 ≡ s = cc both in
            one-more n d x.0 s p there (place_step-does place x.0 s d (x.3 ∙ ap (λ y. Some y) same)) is
            (λ q here. again x.0 q x.2 here)

    -- so the region that is present is the one that the place leaves
    pub left-told : (k : ℕ) (p : Present) → k ≡ suc (k - 1) → present_before logs place k ≡ Some p
        → region_with (told_from 0 logs) (taking_key p.region) p.region.uses ≡ Some p.region
        → left (told_from 0 logs) place k ≡ Some p.region
    left-told k p number here told =
        let s = present-some (place_after place (take (k - 1) ds)) p here in
        let b : BeganIn (k - 1) p.region = began (k - 1) s.0 p s.1 s.2 in
        ap (left (told_from 0 logs) place) number
        ∙ ap (option_and_then (λ (x : Begun). region_with (told_from 0 logs) (taking_key x.1) x.1.uses)) b.1
        ∙ ap (λ (r : RegionId). region_with (told_from 0 logs) (taking_key r) r.uses) b.2
        ∙ told
