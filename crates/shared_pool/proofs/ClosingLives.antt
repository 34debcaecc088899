-- A root is present at its place, at the close, exactly where it is live.
use Rattle.step_law.specs.Settings.{Setting}
use Rattle.std.proofs.Common.{◌≡◌, ◌≢◌, ℕ, zero, suc, ◌+◌, ◌-◌, ◌*◌, ◌/◌, ◌%◌, ◌<◌, ◌≤◌, List, [], ◌∷◌, length, Bool, true, false, cond, sym, refl, ap, ◌∙◌, subst, arith, inl, inr, ⊎_elim, eq-eqb, eqb-true, Some}
use Rattle.std.specs.Prelude.{◌==◌, ◌&&◌, Option, filter, sum_by, slice_get, slice_index}
use Rattle.std.proofs.lemmas.List.Sums.{sum_by-cons, sum_by-le-sum_by}
use mathlib.Core.Logic.{dite}
use native.Mathlib.Decide.{ℕ_discrete, dec_le}
use Rattle.pool_law.specs.declared.id.RootId.{RootId}
use Rattle.pool_law.specs.declared.id.RegionId.{RegionId}
use Rattle.pool_law.specs.declared.note.Did.{Did}
use Rattle.pool_law.specs.declared.note.Did.TheVariants.{Birth, End}
use Rattle.pool_law.specs.declared.note.Noted.{Noted}
use Rattle.pool_law.specs.declared.note.Object.{Object}
use Rattle.pool_law.specs.declared.note.Object.TheVariants.{Root}
use Rattle.pool_law.specs.declared.note.RefDid.{RefDid}
use Rattle.pool_law.specs.declared.note.RefDid.TheVariants as Step
use Rattle.pool_law.specs.Homes.{home_of, objects_of, IsObjectOf}
use Rattle.pool_law.specs.Same.{same_root}
use Rattle.pool_law.specs.Counts.{TotalHolds, count_over, total_of, is_retain, is_release, is_birth, ends_root}
use Rattle.pool_law.proofs.SameLemmas.{and-first, and-second, same_root-is}
use Rattle.history_laws.specs.NoteCounts.{is_root, did_birth, did_birth_as, did_end}
use Rattle.pool_table.specs.declared.views.Entry.{Entry}
use Rattle.pool_table.specs.declared.views.Entry.TheVariants.{At, Ref, Busy}
use Rattle.pool_table.specs.declared.views.Layout.{Layout}
use Rattle.pool_table.specs.declared.views.Part.{Part}
use Rattle.pool_table.specs.declared.views.SeatView.{SeatView}
use Rattle.pool_table.specs.Views.{parts_of, is_about, is_numbered}
use Rattle.pool_table.specs.Counts.{IsCounted, on_root, on_this, weigh, weigh_in, tally, ref_gain, ref_loss, ref_retain, ref_born, ref_ended, ref_vacated}
use Rattle.pool_table.specs.Births.{IsBorn}
use Rattle.pool_table.specs.Hands.{at_birth_as, at_end}
use Rattle.pool_table.specs.Sound.{Tells, Stands}
use Rattle.pool_table.specs.Closed.{IsClosed}
use Rattle.pool_table.proofs.Known.{one_known}
use Rattle.pool_table.proofs.Looks.{gains_are}
use Rattle.shared_pool.specs.Closing.{AreLanes, HasNoPlace, entries_in}
use Rattle.shared_pool.specs.Ends.{count_in}
use Rattle.shared_pool.proofs.ClosingEntries.{told_note}
use Rattle.shared_pool.proofs.ClosingSums.{law, count_over-is, weigh_same, some_weighs, retains_alike, releases_alike, ends_alike, births_alike}
use Rattle.shared_pool.proofs.ClosingTotals.{one_is, birth_place, made, counts_are, total_of_word, totals_hold}
use Rattle.shared_pool.proofs.ClosingWhole.{at, stands_at, note_there, told_at}
use Rattle.shared_pool.proofs.JoinedParts.{HasNoToken}
use Rattle.shared_pool.proofs.PlaceLives.{HasEnd}

-- what stands in a filtered list passes the test, and stands in the list
from_filter : {X : Type 0} (test : X → Bool) (xs : List X) (j : ℕ) (x : X) → slice_get (filter test xs) j ≡ Some x
    → (i : ℕ) × (slice_get xs i ≡ Some x) × (test x ≡ true)
from_filter test [] j x is = absurd (cc is)
from_filter {X = X} test (y ∷ xs) j x is = by (test y) refl j (λ k. from_filter test xs k x) is
  where
    by : (b : Bool) → test y ≡ b → (j : ℕ)
        → ((k : ℕ) → slice_get (filter test xs) k ≡ Some x → (i : ℕ) × (slice_get xs i ≡ Some x) × (test x ≡ true)) →
        slice_get (cond b (y ∷ filter test xs) (filter test xs)) j ≡ Some x
        → (i : ℕ) × (slice_get (y ∷ xs) i ≡ Some x) × (test x ≡ true)
    by true t zero rest is = let same : y ≡ x = cc is in (zero, is, ap test (sym same) ∙ t)
    by true t (suc j) rest is = let r = rest j is in (suc r.0, r.1, r.2)
    by false t j rest is = let r = rest j is in (suc r.0, r.1, r.2)

-- one item weighs no more than all
item_weighs : {X : Type 0} (f : X → ℕ) (xs : List X) (i : ℕ) (x : X) → slice_get xs i ≡ Some x → f x ≤ sum_by f xs
item_weighs f [] i x is = absurd (cc is)
item_weighs f (y ∷ xs) zero x is =
    let same : y ≡ x = cc is in let e = ap f same in let a = sum_by-cons f y xs in omega (arith, a, e)
item_weighs f (y ∷ xs) (suc i) x is =
    let r = item_weighs f xs i x is in let a = sum_by-cons f y xs in omega (arith, a, r)

-- what ends a root by its name, and what the law says of it
this_ended : (r : RootId) (e : Entry) → on_this ref_ended r e ≡ law (ends_root r) e
this_ended r (At o k n) = refl
this_ended r (Busy b) = refl
this_ended r (Ref q Step.Ended) = refl
this_ended r (Ref q Step.Born) = none (same_root q r)
  where
    none : (b : Bool) → cond {A = ℕ} b 0 0 ≡ 0
    none true = refl
    none false = refl
this_ended r (Ref q Step.Retain) = none (same_root q r)
  where
    none : (b : Bool) → cond {A = ℕ} b 0 0 ≡ 0
    none true = refl
    none false = refl
this_ended r (Ref q Step.Kept) = none (same_root q r)
  where
    none : (b : Bool) → cond {A = ℕ} b 0 0 ≡ 0
    none true = refl
    none false = refl
this_ended r (Ref q Step.Vacated) = none (same_root q r)
  where
    none : (b : Bool) → cond {A = ℕ} b 0 0 ≡ 0
    none true = refl
    none false = refl
this_ended r (Ref q (Step.Look k)) = none (same_root q r)
  where
    none : (b : Bool) → cond {A = ℕ} b 0 0 ≡ 0
    none true = refl
    none false = refl

this_root : (w : RefDid → ℕ) (r : RootId) (e : Entry) → on_this w r e ≤ on_root w r.place r.generation e
this_root w r (At o k n) = omega arith
this_root w r (Busy b) = omega arith
this_root w r (Ref q d) = by (same_root q r) refl
  where
    by : (b : Bool) → same_root q r ≡ b → cond {A = ℕ} b (w d) 0 ≤ cond {A = ℕ} (is_root r.place r.generation q) (w d) 0
    by false e = omega arith
    by true e =
        let same = same_root-is q r e in
        let t : is_root r.place r.generation q ≡ true =
        (λ i. eq-eqb q.place r.place (ap (λ (x : RootId). x.place) same) i && eq-eqb q.generation r.generation
        (ap (λ (x : RootId). x.generation) same) i) in
        let c = ap (λ (b : Bool). cond {A = ℕ} b (w d) 0) t in omega (arith, c)

-- a birth, and an end, as they weigh
birth_one : (o : Object) (k : ℕ) (n : Noted) (r : RootId) (z : RegionId) → n.did ≡ Birth r z
    → at_birth_as r.place r.generation r.capacity (At o k n) ≡ 1
birth_one o k n r z is =
    ap (did_birth_as r.place r.generation r.capacity) is
    ∙ (λ i. cond {A = ℕ} ((eq-eqb r.place r.place refl i && eq-eqb r.generation r.generation refl i) && eq-eqb
    r.capacity r.capacity refl i) 1 0)

end_one : (o : Object) (k : ℕ) (n : Noted) (r : RootId) → n.did ≡ End r → at_end r.place r.generation (At o k n) ≡ 1
end_one o k n r is =
    ap (did_end r.place r.generation) is
    ∙ (λ i. cond {A = ℕ} (eq-eqb r.place r.place refl i && eq-eqb r.generation r.generation refl i) 1 0)

-- an entry that weighs as an end is one
record EndsAs (p g : ℕ) (e : Entry) : Type 0 where
  pub object : Object
  pub number : ℕ
  pub noted : Noted
  pub root : RootId
  pub is : e ≡ At object number noted
  pub did : noted.did ≡ End root
  pub place : root.place ≡ p
  pub generation : root.generation ≡ g

ends_as : (p g : ℕ) (e : Entry) → 0 < at_end p g e → EndsAs p g e
ends_as p g (Ref r d) lt = absurd (omega (arith, lt))
ends_as p g (Busy b) lt = absurd (omega (arith, lt))
ends_as p g (At o k n) lt = by n.did refl lt
  where
    by : (d : Did) → n.did ≡ d → 0 < did_end p g d → EndsAs p g (At o k n)
    by (End r) is lt = test (is_root p g r) refl lt
      where
        test : (b : Bool) → is_root p g r ≡ b → 0 < cond {A = ℕ} b 1 0 → EndsAs p g (At o k n)
        test true t lt = record {
          object = o;
          number = k;
          noted = n;
          root = r;
          is = refl;
          did = is;
          place = eqb-true r.place p (and-first (r.place == p) (r.generation == g) t);
          generation = eqb-true r.generation g (and-second (r.place == p) (r.generation == g) t);
        }
        test false t lt = absurd (omega (arith, lt))
    by d is lt = absurd (omega (arith, lt))

module _ {H : Type 0} (stands : List ℕ → Setting → List Noted → H → Type 0) (l : Layout) (v : SeatView)
    (homes : List (Option H)) (words : List ℕ)
    (closed : IsClosed stands l v homes words) (lanes : AreLanes l.shape (parts_of v)) where
  abbrev History : (o : Object) → IsObjectOf l.shape o → List Noted
  History o fits = (closed.objects o fits).history

  -- where a note of a history stands in the parts
  pub record Standing (o : Object) (k : ℕ) (n : Noted) : Type 0 where
    pub lane : ℕ
    pub part : Part
    pub index : ℕ
    pub there : slice_get (parts_of v) lane ≡ Some part
    pub stood : slice_get part.notes index ≡ Some (At o (k + 1) n)

  pub standing : (o : Object) (fits : IsObjectOf l.shape o) (k : ℕ) (n : Noted) → slice_get (History o fits) k ≡ Some n
      → Standing o k n
  standing o fits k n is =
      let s = note_there stands l v homes words closed lanes o fits k n is in
      let f = from_filter (is_about l.shape (home_of l.shape o)) s.part.notes s.index s.entry s.stood in
      let t = told_at stands l v homes words closed lanes o fits s.lane s.part s.there in
      let tells = at (Tells o (History o fits) (length (History o fits)) s.part.number)
      (filter (is_about l.shape (home_of l.shape o)) s.part.notes) s.index s.entry t.told s.stood in
      let st = at (Stands l.shape s.part.number) s.part.notes f.0 s.entry
      (stands_at stands l v homes words closed lanes s.lane s.part s.there) f.1 in
      by s.lane s.part s.there f.0 s.entry f.1 f.2 s.number tells st
    where
      by : (lane : ℕ) (part : Part) → slice_get (parts_of v) lane ≡ Some part → (index : ℕ) (e : Entry)
          → slice_get part.notes index ≡ Some e → is_about l.shape (home_of l.shape o) e ≡ true
          → is_numbered (k + 1) e ≡ true →
          Tells o (History o fits) (length (History o fits)) part.number e → Stands l.shape part.number e
          → Standing o k n
      by lane part there index (At p j m) stood about number tells st =
          let object : p ≡ o = one_known l.shape p o st.object fits
          (eqb-true (home_of l.shape p) (home_of l.shape o) about) in
          let j_is : j ≡ k + 1 = eqb-true j (k + 1) number in
          let spot : j - 1 ≡ k = omega (arith, j_is) in
          let two : Some m ≡ Some n = sym tells.1 ∙ (ap (λ (x : ℕ). slice_get (History o fits) x) spot ∙ is) in
          let m_is : m ≡ n = cc two in
          record {
            lane = lane;
            part = part;
            index = index;
            there = there;
            stood = stood
                ∙ (λ i. Some (At (object i) (j_is i) (m_is i)));
          }
      by lane part there index (Ref r d) stood about number tells st = absurd (cc number)
      by lane part there index (Busy b) stood about number tells st = absurd (cc number)

  -- an entry weighs no more than the view
  entry_weighs : (f : Entry → ℕ) (lane : ℕ) (p : Part) (j : ℕ) (e : Entry) → slice_get (parts_of v) lane ≡ Some p
      → slice_get p.notes j ≡ Some e → f e ≤ weigh f v
  entry_weighs f lane p j e there is =
      let a = item_weighs f p.notes j e is in let b =
      item_weighs (λ (q : Part). sum_by f q.notes) (parts_of v) lane p there in
      let x : ℕ = sum_by f p.notes in let y : ℕ = weigh f v in let a' : f e ≤ x = a in let b' : x ≤ y = b in
      omega (arith, a', b')

  -- a birth in the history of a place is one of the view
  pub born_in : (r : RootId) (fits : IsObjectOf l.shape (Root r.place)) (k : ℕ) (n : Noted) (z : RegionId)
      → slice_get (History (Root r.place) fits) k ≡ Some n → n.did ≡ Birth r z → IsBorn (v ∷ []) r
  born_in r fits k n z is did =
      let s = standing (Root r.place) fits k n is in let f : Entry → ℕ = at_birth_as r.place r.generation r.capacity in
      let a = entry_weighs f s.lane s.part s.index (At (Root r.place) (k + 1) n) s.there s.stood in
      let b = birth_one (Root r.place) (k + 1) n r z did in let c = one_is stands l v homes words closed f in
      omega (arith, a, b, c)

  births_counted : (r : RootId) → IsBorn (v ∷ []) r → 0 < count_over (is_birth r) (entries_in (parts_of v))
  births_counted r born =
      let f : Entry → ℕ = at_birth_as r.place r.generation r.capacity in
      let a = count_over-is (is_birth r) (parts_of v) in
      let b = weigh_same (law (is_birth r)) f (parts_of v) (λ k d _ j e _. births_alike r _) in
      let c = one_is stands l v homes words closed f in omega (arith, a, b, c, born)

  module _ (none : HasNoPlace v) (r : RootId) (born : IsBorn (v ∷ []) r) where
    holds : TotalHolds r (entries_in (parts_of v))
    holds = totals_hold stands l v homes words closed none r (births_counted r born)

    ended_are : count_over (ends_root r) (entries_in (parts_of v)) ≡ weigh (on_root ref_ended r.place r.generation) v
    ended_are =
        counts_are stands l v homes words closed r born (ends_root r) (on_root ref_ended r.place r.generation)
        (ends_alike r)
        ∙ one_is stands l v homes words closed (on_root ref_ended r.place r.generation)

    -- one whose end is noted has no count
    pub end_total : (fits : IsObjectOf l.shape (Root r.place)) → HasEnd (History (Root r.place) fits) r
        → total_of r (entries_in (parts_of v)) ≡ 0
    end_total fits e =
        let s = standing (Root r.place) fits e.at e.note e.there in let f : Entry → ℕ = at_end r.place r.generation in
        let a = entry_weighs f s.lane s.part s.index (At (Root r.place) (e.at + 1) e.note) s.there s.stood in
        let b = end_one (Root r.place) (e.at + 1) e.note r e.did in let c =
        closed.view.roots.ending r.place r.generation in
        let d = ended_are in let once = holds.ends_once in
        holds.ends_at_zero.0 (omega (arith, a, b, c, d, once))

    -- one without count has its end noted
    pub total_end : HasNoToken (parts_of v) → total_of r (entries_in (parts_of v)) ≡ 0
        → (k : ℕ) × (n : Noted) × (q : RootId) × (fits : IsObjectOf l.shape (Root r.place)) ×
        (slice_get (History (Root r.place) fits) k ≡ Some n) × (n.did ≡ End q) × (q.generation ≡ r.generation)
    total_end tokens z =
        let one = holds.ends_at_zero.1 z in
        let ended : weigh_in (on_this ref_ended r) (parts_of v) ≡ 1 =
        weigh_same (on_this ref_ended r) (law (ends_root r)) (parts_of v) (λ k d _ j e _. this_ended r _)
        ∙ sym (count_over-is (ends_root r) (parts_of v)) ∙ one in
        let vacated : 0 < weigh (on_root ref_vacated r.place r.generation) v =
        (let a = sum_by-le-sum_by (λ (q : Part). sum_by (on_this ref_vacated r) q.notes)
        (λ (q : Part). sum_by (on_root ref_vacated r.place r.generation) q.notes) (parts_of v)
        (λ q. sum_by-le-sum_by (on_this ref_vacated r) (on_root ref_vacated r.place r.generation) q.notes
        (this_root ref_vacated r)) in
        let x : ℕ = weigh_in (on_this ref_vacated r) (parts_of v) in let y : ℕ =
        weigh (on_root ref_vacated r.place r.generation) v in let a' : x ≤ y = a in
        dite (ℕ_discrete x 0) (λ zero_here. absurd (tokens r ended zero_here))
        (λ ne. let g : 0 < y = omega (arith, a', ne) in g)) in
        let over = closed.view.roots.over r.place r.generation in
        let f : Entry → ℕ = at_end r.place r.generation in
        let q = some_weighs (λ (p : Part). sum_by f p.notes) (parts_of v)
        (let x : ℕ = weigh (on_root ref_vacated r.place r.generation) v in let y : ℕ = weigh f v in let v' : 0 < x =
        vacated in let o' : x ≤ y = over in let g : 0 < y = omega (arith, v', o') in g) in
        let e = some_weighs f q.1.notes q.3 in
        let ends = ends_as r.place r.generation e.1 e.3 in
        let stood : slice_get q.1.notes e.0 ≡ Some (At ends.object ends.number ends.noted) = e.2
        ∙ ap (λ (x : Entry). Some x) ends.is in
        let st = at (Stands l.shape q.1.number) q.1.notes e.0 (At ends.object ends.number ends.noted)
        (stands_at stands l v homes words closed lanes q.0 q.1 q.2) stood in
        let object : ends.object ≡ Root r.place = ⊎_elim
        (λ (x : (did_birth r.place ends.noted.did ≡ 0) × ((g : ℕ) → did_end r.place g ends.noted.did ≡ 0)).
        let y = x.1 r.generation in let a : at_end r.place r.generation e.1
        ≡ did_end r.place r.generation ends.noted.did = ap (at_end r.place r.generation) ends.is in let b = e.3 in
        absurd (omega (arith, y, a, b)))
        (λ (x : ends.object ≡ Root r.place). x)
        (st.in_place.rooted r.place) in
        let t = told_note stands l v homes words closed lanes q.0 q.1 q.2 e.0 (Root r.place) ends.number ends.noted
        (subst (λ (o : Object). slice_get q.1.notes e.0 ≡ Some (At o ends.number ends.noted)) object stood) refl in
        (ends.number - 1, ends.noted, ends.root, t.0, t.1.1, ends.did, ends.generation)

    -- the word of a live root tells its count
    pub count_told : total_of r (entries_in (parts_of v)) ≢ 0
        → count_in (slice_index words (objects_of l.shape + r.place)) ≡ total_of r (entries_in (parts_of v))
    count_told live =
        let p : ℕ = r.place in let g : ℕ = r.generation in
        let k = closed.counts p (birth_place stands l v homes words closed r born) in
        let t = total_of_word stands l v homes words closed p g (slice_index words (objects_of l.shape + p)) k
        (made stands l v homes words closed r born (none p)) in
        let retains = counts_are stands l v homes words closed r born (is_retain r) (on_root ref_retain p g)
        (retains_alike r) in
        let releases = counts_are stands l v homes words closed r born (is_release r) (on_root ref_loss p g)
        (releases_alike r) in
        let gains = gains_are p g (v ∷ []) in let once = t.once in let counts = t.counts in
        let all : tally ref_gain p g (v ∷ []) ≡ tally ref_loss p g (v ∷ []) + total_of r (entries_in (parts_of v)) =
        sums (count_over (is_retain r) (entries_in (parts_of v))) (count_over (is_release r) (entries_in (parts_of v)))
        (tally ref_gain p g (v ∷ [])) (tally ref_loss p g (v ∷ [])) (omega (arith, gains, once, retains)) releases
        counts in
        let most : k.count ≤ 1073741824 = closed.few p (birth_place stands l v homes words closed r born) k in
        decoded (slice_index words (objects_of l.shape + p)) p g k (made stands l v homes words closed r born (none p))
        (total_of r (entries_in (parts_of v))) live all most
      where
        sums : (a b gain loss : ℕ) → gain ≡ 1 + a → b ≡ loss → loss ≤ gain → gain ≡ loss + ((1 + a) - b)
        sums a b gain loss e f le = omega (arith, e, f, le)

        low : (generation count vacant word : ℕ) → word ≡ generation * 4294967296 + (2 * count + vacant) → vacant ≤ 1
            → count ≤ 1073741824 → word % 4294967296 / 2 ≡ count
        low generation count vacant word is one few = omega (arith, is, one, few)

        decoded : (word p g : ℕ) (k : IsCounted p (v ∷ []) word) → 0 < tally ref_born p g (v ∷ []) → (t : ℕ) → t ≢ 0
            → tally ref_gain p g (v ∷ []) ≡ tally ref_loss p g (v ∷ []) + t → k.count ≤ 1073741824 → count_in word ≡ t
        decoded word p g k lt t live all most = dite (ℕ_discrete g 0)
            (λ z. let a = k.later ref_born g (inl z) in absurd (omega (arith, a, lt)))
            (λ some. dite (dec_le g k.generation)
            (λ le. dite (ℕ_discrete g k.generation)
            (λ same.
            let c = k.counts in
            let gain : tally ref_gain p g (v ∷ [])
            ≡ tally ref_gain p k.generation (v ∷ []) = ap (λ (x : ℕ). tally ref_gain p x (v ∷ [])) same in
            let loss : tally ref_loss p g (v ∷ [])
            ≡ tally ref_loss p k.generation (v ∷ []) = ap (λ (x : ℕ). tally ref_loss p x (v ∷ [])) same in
            let count : k.count ≡ t = omega (arith, c, gain, loss, all) in
            low k.generation k.count k.vacant word k.word_is k.free most ∙ count)
            (λ other. let e = (k.past g (omega (arith, some)) (omega (arith, le, other))).0 in
            absurd (live (omega (arith, e, all)))))
            (λ gt. let a = k.later ref_born g (inr (omega (arith, gt))) in absurd (omega (arith, a, lt))))
