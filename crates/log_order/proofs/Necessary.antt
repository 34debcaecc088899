-- What must stand before a note stands before it, in any one order.
use Rattle.std.proofs.Common.{⊎_elim, ◌≡◌, ℕ, zero, suc, ◌+◌, ◌-◌, ◌≤◌, Bool, true, false, List, length, take, refl, sym, ap, subst, arith, Some, ◌∙◌, eqb-true}
use Rattle.std.specs.Prelude.{◌<◌, if◌then◌else◌, slice_get}
use Rattle.std.proofs.lemmas.Bool.{cases_lt}
use Rattle.std.proofs.lemmas.Option.{slice_get_within, same_Some}
use Rattle.pool_law.specs.declared.id.RootId.{RootId}
use Rattle.pool_law.specs.declared.id.Parcel.{Parcel}
use Rattle.pool_law.specs.declared.note.Object.{Object}
use Rattle.pool_law.specs.declared.note.Held.{Held}
use Rattle.pool_law.specs.declared.note.Did.{Did}
use Rattle.pool_law.specs.declared.note.Did.TheVariants.{Post, Fetch}
use Rattle.pool_law.specs.declared.note.RefDid.{RefDid}
use Rattle.pool_law.specs.declared.note.RefDid.TheVariants.{Born, Retain, Kept, Ended, Vacated, Look}
use Rattle.pool_law.specs.declared.note.Note.{Note}
use Rattle.pool_law.specs.declared.note.Note.TheVariants.{At, Ref, Busy}
use Rattle.pool_law.specs.Kinds.{Passing, Stays, Goes, Comes, passing}
use Rattle.pool_law.specs.Logs.{Logs, has_history}
use Rattle.pool_law.specs.Lives.{StandsAt}
use Rattle.pool_law.specs.Counts.{is_born, ends_root}
use Rattle.pool_law.proofs.SameLemmas.{and-first, and-second, same_object-is, same_root-is}
use Rattle.pool_law.proofs.PatternLemmas.{same_root-refl, same_object-refl}
use Rattle.pool_law.proofs.ListLemmas.{item-at}
use Rattle.run_order.specs.Order.{Step, made, is_at, is_post, Leave, Fits, InOneOrder}
use Rattle.run_order.proofs.Fronts.{by-test, made-more, made-next, found-made}
use Rattle.run_order.proofs.Positions.{place, there, later-in_log, later-at_object, fits-there, number-there, made-alike, made-posts}
use Rattle.order_laws.proofs.CountMoments.{born-new, counted-born, phase-at, lives-at}
use Rattle.log_order.specs.Precedence.{hands_over, at_precedes, is_end, ref_precedes, note_precedes, MustStandBefore, GoesInACircle}
use Rattle.log_order.specs.declared.spots.Spot.{Spot}

same-note : (x y : Step) → Some x ≡ Some y → x.note ≡ y.note
same-note x y e = ap (λ (z : Step). z.note) (same_Some x y e)

-- what sends a parcel is a post, and what gets one a fetch
post-is : (d : Did) (p : Parcel) → passing d ≡ Goes p → d ≡ Post p
post-is (Post q) p e = let same : q ≡ p = cc e in ap (λ z. Post z) same
post-is _ p e = absurd (cc e)

fetch-is : (d : Did) (p : Parcel) → passing d ≡ Comes p → d ≡ Fetch p
fetch-is (Fetch q) p e = let same : q ≡ p = cc e in ap (λ z. Fetch z) same
fetch-is _ p e = absurd (cc e)

end-is : (d : RefDid) → is_end d ≡ true → d ≡ Ended
end-is Ended e = refl
end-is _ e = absurd (cc e)

-- a step on a count that needs one
abbrev pub needs_one : RefDid → Bool
needs_one Retain = true
needs_one Kept = true
needs_one Ended = true
needs_one (Look found) = true
needs_one _ = false

module _ (logs : Logs) (o : InOneOrder logs) where
  -- a post is before the fetch with its number, and before those behind it
  post-before : (mail : Object) (m n : ℕ) (p q : Parcel) (lane at other bt : ℕ) →
      StandsAt logs lane at (At mail m (Post p)) → StandsAt logs other bt (At mail n (Fetch q)) → m ≤ n →
      place logs o lane at < place logs o other bt
  post-before mail m n p q lane at other bt sent got few =
      ⊎_elim (λ low. low)
      (λ high. absurd (omega (
        arith,
        few,
        number-there logs o mail m (Post p) lane at sent,
        (fits-there logs o (place logs o other bt) (record { lane = other; note = At mail n (Fetch q) })
            (there logs o other bt (At mail n (Fetch q)) got)).1,
        made-posts mail p (take (place logs o lane at) o.steps),
        made-more (is_post mail) o.steps (place logs o other bt) (place logs o lane at) high,
      )))
      (cases_lt (place logs o lane at) (place logs o other bt))

  -- two notes at one object
  at-before : (object : Object) (m n : ℕ) (d e : Did) (lane at other bt : ℕ) →
      StandsAt logs lane at (At object m d) → StandsAt logs other bt (At object n e) →
      at_precedes (has_history object) m (passing d) n (passing e) ≡ true →
      place logs o lane at < place logs o other bt
  at-before object m n d e lane at other bt is after why =
      by-test
      (λ z. has_history object ≡ z → at_precedes z m (passing d) n (passing e) ≡ true
      → place logs o lane at < place logs o other bt)
      (has_history object)
      (λ _ has less. later-at_object logs o object m n d e lane at other bt has is after
      (omega (arith, eqb-true (m + 1) n less)))
      (λ _ has both. hands (passing d) (passing e) refl refl (and-first _ _ both)
      (omega (arith, eqb-true m n (and-second _ _ both))))
      refl why
    where
      hands : (p q : Passing) → passing d ≡ p → passing e ≡ q → hands_over p q ≡ true → m ≤ n
          → place logs o lane at < place logs o other bt
      hands (Goes p) (Comes q) goes comes both few =
          post-before object m n p q lane at other bt
          (subst (λ z. StandsAt logs lane at (At object m z)) (post-is d p goes) is)
          (subst (λ z. StandsAt logs other bt (At object n z)) (fetch-is e q comes) after) few
      hands Stays q goes comes both few = absurd (cc both)
      hands (Comes p) q goes comes both few = absurd (cc both)
      hands (Goes p) Stays goes comes both few = absurd (cc both)
      hands (Goes p) (Goes q) goes comes both few = absurd (cc both)

  -- a mark tells how many notes were made before it
  marked : (held : Held) (lane at : ℕ) → StandsAt logs lane at (Busy held) →
      held.number ≡ made (is_at held.object) (take (place logs o lane at) o.steps)
  marked held lane at is =
      fits-there logs o (place logs o lane at) (record { lane = lane; note = Busy held })
      (there logs o lane at (Busy held) is)

  -- a note tells how many were made before it
  numbered : (object : Object) (n : ℕ) (d : Did) (lane at : ℕ) → has_history object ≡ true →
      StandsAt logs lane at (At object n d) → n ≡ made (is_at object) (take (place logs o lane at) o.steps) + 1
  numbered object n d lane at has is =
      omega (
        arith,
        number-there logs o object n d lane at is,
        made-alike object d (take (place logs o lane at) o.steps) has,
      )

  -- a note before a mark
  note-mark : (held : Held) (n : ℕ) (d : Did) (lane at other bt : ℕ) → has_history held.object ≡ true →
      StandsAt logs lane at (At held.object n d) → StandsAt logs other bt (Busy held) → n ≤ held.number →
      place logs o lane at < place logs o other bt
  note-mark held n d lane at other bt has is mark few =
      ⊎_elim (λ low. low)
      (λ high. absurd (omega (
        arith,
        few,
        numbered held.object n d lane at has is,
        marked held other bt mark,
        made-more (is_at held.object) o.steps (place logs o other bt) (place logs o lane at) high,
      )))
      (cases_lt (place logs o lane at) (place logs o other bt))

  -- and one behind it
  mark-note : (held : Held) (n : ℕ) (d : Did) (lane at other bt : ℕ) → has_history held.object ≡ true →
      StandsAt logs other bt (Busy held) → StandsAt logs lane at (At held.object n d) → held.number < n →
      place logs o other bt < place logs o lane at
  mark-note held n d lane at other bt has mark is less =
      ⊎_elim (λ low. low)
      (λ high. ⊎_elim (behind high) (same high) (cases_lt (place logs o lane at) (place logs o other bt)))
      (cases_lt (place logs o other bt) (place logs o lane at))
    where
      behind : place logs o lane at ≤ place logs o other bt → place logs o lane at < place logs o other bt
          → place logs o other bt < place logs o lane at
      behind high low =
          let made-one = found-next in
          absurd (omega (
            arith,
            less,
            numbered held.object n d lane at has is,
            marked held other bt mark,
            made-one,
            made-more (is_at held.object) o.steps (suc (place logs o lane at)) (place logs o other bt)
                (omega (arith, low)),
          ))
        where
          found-next : made (is_at held.object) (take (suc (place logs o lane at)) o.steps)
              ≡ made (is_at held.object) (take (place logs o lane at) o.steps) + 1
          found-next =
              let next = made-next (is_at held.object) o.steps (place logs o lane at)
              (record { lane = lane; note = At held.object n d }) (there logs o lane at (At held.object n d) is) in
              let one = ap (λ (b : Bool). if b then 1 else 0) (same_object-refl held.object) in
              next ∙ ap (λ k. made (is_at held.object) (take (place logs o lane at) o.steps) + k) one

      same : place logs o lane at ≤ place logs o other bt → place logs o other bt ≤ place logs o lane at
          → place logs o other bt < place logs o lane at
      same high low =
          let one : place logs o lane at ≡ place logs o other bt = omega (arith, high, low) in
          let two = sym (there logs o lane at (At held.object n d) is) ∙ ap (slice_get o.steps) one
          ∙ there logs o other bt (Busy held) mark in
          let notes : At held.object n d ≡ Busy held = same-note _ _ two in
          absurd (cc notes)

  -- a step on a count that needs one finds one
  finds-one : (root : RootId) (did : RefDid) (lane at : ℕ) → StandsAt logs lane at (Ref root did)
      → needs_one did ≡ true → (n : ℕ) × (0 < n) × Leave (take (place logs o lane at) o.steps) root n
  finds-one root did lane at is needs =
      go did (fits-there logs o (place logs o lane at) (record { lane = lane; note = Ref root did })
      (there logs o lane at (Ref root did) is)) needs
    where
      go : (d : RefDid) → Fits (take (place logs o lane at) o.steps) (Ref root d) → needs_one d ≡ true
          → (n : ℕ) × (0 < n) × Leave (take (place logs o lane at) o.steps) root n
      go Retain fits e = fits
      go Kept fits e = (fits.0, omega (arith, fits.1), fits.2)
      go Ended fits e = (1, omega arith, fits)
      go (Look found) fits e = (found, fits.0, fits.1)
      go Born fits e = absurd (cc e)
      go Vacated fits e = absurd (cc e)

  place-low : (lane at : ℕ) (n : Note) → StandsAt logs lane at n → place logs o lane at ≤ length o.steps
  place-low lane at n is =
      omega (
        arith,
        slice_get_within o.steps (place logs o lane at) (record { lane = lane; note = n })
            (there logs o lane at n is),
      )

  -- a root's birth is in front of each step that needs it
  birth-made : (root : RootId) (did : RefDid) (lane at : ℕ) → StandsAt logs lane at (Ref root did)
      → ref_precedes Born did ≡ true → 0 < made (is_born root) (take (place logs o lane at) o.steps)
  birth-made root did lane at is needs = go did is needs
    where
      one : (d : RefDid) → needs_one d ≡ true → StandsAt logs lane at (Ref root d)
          → 0 < made (is_born root) (take (place logs o lane at) o.steps)
      one d e stands =
          let f = finds-one root d lane at stands e in
          counted-born logs o root (place logs o lane at) f.0 (place-low lane at (Ref root d) stands) f.1 f.2

      go : (d : RefDid) → StandsAt logs lane at (Ref root d) → ref_precedes Born d ≡ true
          → 0 < made (is_born root) (take (place logs o lane at) o.steps)
      go Born stands e = absurd (cc e)
      go Retain stands e = one Retain refl stands
      go Kept stands e = one Kept refl stands
      go Ended stands e = one Ended refl stands
      go (Look found) stands e = one (Look found) refl stands
      go Vacated stands e =
          let fits = fits-there logs o (place logs o lane at) (record { lane = lane; note = Ref root Vacated })
          (there logs o lane at (Ref root Vacated) stands) in
          ⊎_elim (λ h. absurd (omega (arith, fits.0, h.3)))
          (⊎_elim (λ g. g.0) (λ g. g.0))
          (phase-at logs o root (place logs o lane at) (place-low lane at (Ref root Vacated) stands))

  birth-before : (root : RootId) (did : RefDid) (lane at other bt : ℕ) → StandsAt logs lane at (Ref root Born)
      → StandsAt logs other bt (Ref root did) → ref_precedes Born did ≡ true
      → place logs o lane at < place logs o other bt
  birth-before root did lane at other bt born is why =
      ⊎_elim (λ low. low)
      (λ high. absurd (omega (
        arith,
        birth-made root did other bt is why,
        born-new logs o root (place logs o lane at) (record { lane = lane; note = Ref root Born })
            (there logs o lane at (Ref root Born) born) refl,
        made-more (is_born root) o.steps (place logs o other bt) (place logs o lane at) high,
      )))
      (cases_lt (place logs o lane at) (place logs o other bt))

  -- a root's end is behind each other step that needs a count
  end-behind : (root : RootId) (did : RefDid) (lane at other bt : ℕ) → StandsAt logs lane at (Ref root did)
      → StandsAt logs other bt (Ref root Ended) → needs_one did ≡ true → (did ≡ Ended → ⊥)
      → place logs o lane at < place logs o other bt
  end-behind root did lane at other bt is end needs differs =
      ⊎_elim (λ low. low)
      (λ high. ⊎_elim (behind high) (same high) (cases_lt (place logs o other bt) (place logs o lane at)))
      (cases_lt (place logs o lane at) (place logs o other bt))
    where
      behind : place logs o other bt ≤ place logs o lane at → place logs o other bt < place logs o lane at
          → place logs o lane at < place logs o other bt
      behind high low =
          let more = found-made (ends_root root) o.steps (place logs o other bt) (place logs o lane at)
          (record { lane = other; note = Ref root Ended }) (there logs o other bt (Ref root Ended) end)
          (same_root-refl root) low in
          let none = (lives-at logs o root (place logs o lane at) (place-low lane at (Ref root did) is)).ended more in
          let some = finds-one root did lane at is needs in
          absurd (omega (arith, none, some.1, some.2))

      same : place logs o other bt ≤ place logs o lane at → place logs o lane at ≤ place logs o other bt
          → place logs o lane at < place logs o other bt
      same high low =
          let one : place logs o lane at ≡ place logs o other bt = omega (arith, high, low) in
          let two = sym (there logs o lane at (Ref root did) is) ∙ ap (slice_get o.steps) one
          ∙ there logs o other bt (Ref root Ended) end in
          let notes : Ref root did ≡ Ref root Ended = same-note _ _ two in
          let three : did ≡ Ended = cc notes in
          absurd (differs three)

  ref-before : (root : RootId) (d e : RefDid) (lane at other bt : ℕ) → StandsAt logs lane at (Ref root d)
      → StandsAt logs other bt (Ref root e) → ref_precedes d e ≡ true
      → place logs o lane at < place logs o other bt
  ref-before root Born e lane at other bt is after why = birth-before root e lane at other bt is after why
  ref-before root Retain e lane at other bt is after why =
      end-behind root Retain lane at other bt is (subst (λ z. StandsAt logs other bt (Ref root z)) (end-is e why) after)
      refl (λ x. cc)
  ref-before root Kept e lane at other bt is after why =
      end-behind root Kept lane at other bt is (subst (λ z. StandsAt logs other bt (Ref root z)) (end-is e why) after)
      refl (λ x. cc)
  ref-before root (Look found) e lane at other bt is after why =
      end-behind root (Look found) lane at other bt is
      (subst (λ z. StandsAt logs other bt (Ref root z)) (end-is e why) after) refl (λ x. cc)
  ref-before root Ended e lane at other bt is after why = absurd (cc why)
  ref-before root Vacated e lane at other bt is after why = absurd (cc why)

  -- by what two notes say
  note-before : (first second : Note) (lane at other bt : ℕ) → StandsAt logs lane at first
      → StandsAt logs other bt second → note_precedes first second ≡ true
      → place logs o lane at < place logs o other bt
  note-before (At a m d) (At b n e) lane at other bt is after why =
      let one : a ≡ b = same_object-is a b (and-first _ _ why) in
      at-before a m n d e lane at other bt is (subst (λ z. StandsAt logs other bt (At z n e)) (sym one) after)
      (and-second _ _ why)
  note-before (At a n d) (Busy held) lane at other bt is after why =
      let one : a ≡ held.object = same_object-is a held.object (and-first _ _ why) in
      let rest = and-second _ _ why in
      note-mark held n d lane at other bt (ap has_history (sym one) ∙ and-first _ _ rest)
      (subst (λ z. StandsAt logs lane at (At z n d)) one is) after
      (omega (arith, eqb-true n held.number (and-second _ _ rest)))
  note-before (Busy held) (At b n e) lane at other bt is after why =
      let one : held.object ≡ b = same_object-is held.object b (and-first _ _ why) in
      let rest = and-second _ _ why in
      mark-note held n e other bt lane at (and-first _ _ rest) is
      (subst (λ z. StandsAt logs other bt (At z n e)) (sym one) after)
      (omega (arith, eqb-true (held.number + 1) n (and-second _ _ rest)))
  note-before (Ref r d) (Ref s e) lane at other bt is after why =
      let one : r ≡ s = same_root-is r s (and-first _ _ why) in
      ref-before r d e lane at other bt is (subst (λ z. StandsAt logs other bt (Ref z e)) (sym one) after)
      (and-second _ _ why)
  note-before _ _ lane at other bt is after why = absurd (cc why)

  -- the place of a note in the one order
  abbrev pub rank : Spot → ℕ
  rank s = place logs o s.lane s.at

  pub must-stand-before : (a b : Spot) → MustStandBefore logs a b → rank a < rank b
  must-stand-before a b must =
      ⊎_elim
      (λ h. subst (λ l. place logs o l a.at < rank b) (sym h.0)
      (later-in_log logs o b.lane a.at b.at must.second must.second_stands (omega (arith, h.1))))
      (λ why. note-before must.first must.second a.lane a.at b.lane b.at must.first_stands must.second_stands why)
      must.why

  -- no notes go in a circle
  pub no-circle : (spots : List Spot) → GoesInACircle logs spots → ⊥
  no-circle spots c =
      let first = item-at spots zero c.some in
      let end : suc (length spots - 1) ≡ length spots = omega (arith, c.some) in
      let last = item-at spots (length spots - 1) (omega (arith, c.some)) in
      let less : rank last.0 < rank first.0 =
      must-stand-before last.0 first.0 (c.closes (length spots - 1) last.0 first.0 end last.1 first.1) in
      absurd (omega (arith, less, rises (length spots - 1) last.0 first.0 first.1 last.1))
    where
      rises : (k : ℕ) (a first : Spot) → slice_get spots zero ≡ Some first → slice_get spots k ≡ Some a
          → rank first ≤ rank a
      rises zero a first at is = let same : first ≡ a = cc (sym at ∙ is) in omega (arith, ap rank same)
      rises (suc k) a first at is =
          let before = item-at spots k (omega (arith, slice_get_within spots (suc k) a is)) in
          let less : rank before.0 < rank a = must-stand-before before.0 a (c.links k before.0 a before.1 is) in
          omega (arith, less, rises k before.0 first at before.1)
