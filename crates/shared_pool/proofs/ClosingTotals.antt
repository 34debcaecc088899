-- The sentences on the totals of roots that were born.
use Rattle.step_law.specs.Settings.{Setting}
use Rattle.std.proofs.Common.{◌≡◌, ◌≢◌, ℕ, ◌+◌, ◌*◌, ◌<◌, ◌≤◌, List, [], ◌∷◌, Bool, sym, refl, ◌∙◌, subst, arith, inl, inr, ⊎_elim}
use Rattle.std.specs.Prelude.{Option, All, sum_by, slice_index}
use Rattle.std.proofs.lemmas.List.Elements.{All-weaker}
use Rattle.std.proofs.lemmas.List.Sums.{sum_by-cons, sum_by-le-sum_by}
use mathlib.Core.Logic.{dite}
use native.Mathlib.Decide.{ℕ_discrete, dec_le}
use Rattle.pool_law.specs.declared.id.RootId.{RootId}
use Rattle.pool_law.specs.declared.note.Note.{Note}
use Rattle.pool_law.specs.declared.note.Noted.{Noted}
use Rattle.pool_law.specs.declared.note.Object.TheVariants.{Root}
use Rattle.pool_law.specs.declared.run.Shape.{Shape}
use Rattle.pool_law.specs.Homes.{objects_of}
use Rattle.pool_law.specs.Counts.{TotalHolds, count_over, is_retain, is_release, is_born, is_birth, ends_root}
use Rattle.history_laws.specs.NoteCounts.{did_birth, did_end}
use Rattle.pool_table.specs.declared.views.Entry.{Entry}
use Rattle.pool_table.specs.declared.views.Entry.TheVariants.{At, Ref, Busy}
use Rattle.pool_table.specs.declared.views.Layout.{Layout}
use Rattle.pool_table.specs.declared.views.Part.{Part}
use Rattle.pool_table.specs.declared.views.SeatView.{SeatView}
use Rattle.pool_table.specs.Views.{parts_of}
use Rattle.pool_table.specs.Counts.{IsCounted, on_root, weigh, tally, ref_gain, ref_loss, ref_retain, ref_born, ref_ended}
use Rattle.pool_table.specs.Births.{IsBorn}
use Rattle.pool_table.specs.Hands.{at_birth_of, at_birth_as, taken, put_down, InHand}
use Rattle.pool_table.specs.Sound.{IsKnown, Stands}
use Rattle.pool_table.specs.Closed.{IsClosed}
use Rattle.pool_table.proofs.Looks.{gains_are}
use Rattle.pool_table.proofs.RootEntries.{Alone, as_birth}
use Rattle.pool_table.proofs.Unborn.{as_of_entry}
use Rattle.shared_pool.specs.Closing.{entries_in, HasNoPlace}
use Rattle.shared_pool.proofs.ClosingWhole.{at}
use Rattle.shared_pool.proofs.ClosingSums.{law, count_over-is, weigh_same, some_weighs, retains_alike, releases_alike, borns_alike, ends_alike, births_alike}
use Rattle.shared_pool.proofs.ClosingLooks.{alone}
use Rattle.shared_pool.proofs.ClosingBirths.{noted_made}

-- ---- A birth.

-- it stands at its place
stands_there : (s : Shape) (lane : Option ℕ) (p g c : ℕ) (e : Entry) → Stands s lane e → 0 < at_birth_as p g c e
    → p < s.lanes * s.handles
stands_there s lane p g c (At o k n) st lt = ⊎_elim
    (λ (z : (did_birth p n.did ≡ 0) × ((g : ℕ) → did_end p g n.did ≡ 0)). let y = as_birth p g c n.did z.0 in
    absurd (omega (arith, y, lt)))
    (λ (e : o ≡ Root p). subst (IsKnown s) e st.object)
    (st.in_place.rooted p)
stands_there s lane p g c (Ref r d) st lt = absurd (omega (arith, lt))
stands_there s lane p g c (Busy b) st lt = absurd (omega (arith, lt))

module _ {H : Type 0} (stands : List ℕ → Setting → List Noted → H → Type 0) (l : Layout) (v : SeatView)
    (homes : List (Option H)) (words : List ℕ)
    (closed : IsClosed stands l v homes words) where
  pub one_is : (f : Entry → ℕ) → sum_by (weigh f) (v ∷ []) ≡ weigh f v
  one_is f = let a = sum_by-cons (weigh f) v [] in let z : sum_by (weigh f) [] ≡ 0 = refl in omega (arith, a, z)

  birth_noted : (r : RootId) → 0 < count_over (is_birth r) (entries_in (parts_of v)) → IsBorn (v ∷ []) r
  birth_noted r lt =
      let f : Entry → ℕ = at_birth_as r.place r.generation r.capacity in
      let a = count_over-is (is_birth r) (parts_of v) in
      let b = weigh_same (law (is_birth r)) f (parts_of v) (λ k d _ j e _. births_alike r _) in
      let c = one_is f in omega (arith, a, b, c, lt)

  pub birth_place : (r : RootId) → IsBorn (v ∷ []) r → r.place < l.shape.lanes * l.shape.handles
  birth_place r born =
      let f : Entry → ℕ = at_birth_as r.place r.generation r.capacity in
      let a = one_is f in
      let q = some_weighs (λ (p : Part). sum_by f p.notes) (parts_of v) (omega (arith, a, born)) in
      let e = some_weighs f q.1.notes q.3 in
      let st = at (λ (p : Part). All (Stands l.shape p.number) p.notes) (parts_of v) q.0 q.1 closed.view.notes q.2 in
      stands_there l.shape q.1.number r.place r.generation r.capacity e.1
      (at (Stands l.shape q.1.number) q.1.notes e.0 e.1 st e.2) e.3

  -- a birth that was noted was made, where the place is in no hands
  pub made : (r : RootId) → IsBorn (v ∷ []) r → (InHand r.place v → ⊥)
      → 0 < tally ref_born r.place r.generation (v ∷ [])
  made r born none =
      let p : ℕ = r.place in let g : ℕ = r.generation in let c : ℕ = r.capacity in
      let of = sum_by-le-sum_by (λ (q : Part). sum_by (at_birth_as p g c) q.notes)
      (λ (q : Part). sum_by (at_birth_of p g) q.notes) (parts_of v)
      (λ q. sum_by-le-sum_by (at_birth_as p g c) (at_birth_of p g) q.notes (as_of_entry p g c)) in
      let a = one_is (at_birth_as p g c) in
      let down : taken p v ≤ put_down p v = dite (dec_le (taken p v) (put_down p v)) (λ le. le)
      (λ gt. absurd (none (let x : ℕ = taken p v in let y : ℕ = put_down p v in let gt' : x ≤ y
      → ⊥ = gt in let z : y < x = omega (arith, gt') in z))) in
      let bears = closed.view.roots.bears p in
      let x = noted_made p v (omega (arith, bears, down)) (closed.view.roots.borne_of p) g
      (omega (arith, of, a, born)) in
      let b = one_is (on_root ref_born p g) in omega (arith, b, x)

  -- the tallies of a root that was born are the law's counts
  pub counts_are : (r : RootId) → IsBorn (v ∷ []) r → (test : Note → Bool) (f : Entry → ℕ)
      → ((e : Entry) → Alone r e → law test e ≡ f e)
      → count_over test (entries_in (parts_of v)) ≡ sum_by (weigh f) (v ∷ [])
  counts_are r born test f alike =
      let a = count_over-is test (parts_of v) in
      let b = weigh_same (law test) f (parts_of v)
      (All-weaker (λ (q : Part). All (Alone r) q.notes)
      (λ (q : Part). All (λ (e : Entry). law test e ≡ f e) q.notes)
      (λ q all. All-weaker (Alone r) (λ (e : Entry). law test e ≡ f e) alike q.notes all) (parts_of v)
      (alone stands l v homes words closed r born)) in
      let c = one_is f in omega (arith, a, b, c)

  -- what the word of a root's count tells of a root that was made
  pub record IsTotal (p g : ℕ) : Type 0 where
    pub once : tally ref_born p g (v ∷ []) ≡ 1
    pub counts : tally ref_loss p g (v ∷ []) ≤ tally ref_gain p g (v ∷ [])
    pub live : tally ref_loss p g (v ∷ []) ≢ tally ref_gain p g (v ∷ []) → tally ref_ended p g (v ∷ []) ≡ 0
    pub dead : tally ref_loss p g (v ∷ []) ≡ tally ref_gain p g (v ∷ []) → tally ref_ended p g (v ∷ []) ≡ 1

  pub total_of_word : (p g word : ℕ) → IsCounted p (v ∷ []) word → 0 < tally ref_born p g (v ∷ []) → IsTotal p g
  total_of_word p g word k lt = dite (ℕ_discrete g 0)
      (λ z. let a = k.later ref_born g (inl z) in absurd (omega (arith, a, lt)))
      (λ some. dite (dec_le g k.generation)
      (λ le. dite (ℕ_discrete g k.generation)
      (λ same. subst (λ (x : ℕ). IsTotal p x) (sym same)
      (let s : 0 < k.generation = omega (arith, some, same) in last s))
      (λ other. let s : 0 < g = omega (arith, some) in let t : g < k.generation = omega (arith, le, other) in
      let past = k.past g s t in let e = past.0 in record {
        once = k.born g s le;
        counts = omega (arith, e);
        live = λ ne. absurd (ne (sym e));
        dead = λ _. past.1;
      }))
      (λ gt. let a = k.later ref_born g (inr (omega (arith, gt))) in absurd (omega (arith, a, lt))))
    where
      last : 0 < k.generation → IsTotal p k.generation
      last s = let e = k.counts in record {
        once = k.born k.generation s (omega arith);
        counts = omega (arith, e);
        live =
            λ ne. (k.ended s).1 (dite (ℕ_discrete k.count 0) (λ z. absurd (ne (omega (arith, e, z))))
            (λ more. omega (arith, more)));
        dead = λ same. (k.ended s).0 (omega (arith, e, same));
      }

  pub totals_hold : HasNoPlace v → (r : RootId) → 0 < count_over (is_birth r) (entries_in (parts_of v))
      → TotalHolds r (entries_in (parts_of v))
  totals_hold none r lt =
      let born = birth_noted r lt in let p : ℕ = r.place in let g : ℕ = r.generation in
      let k = closed.counts p (birth_place r born) in
      let t = total_of_word p g (slice_index words (objects_of l.shape + p)) k (made r born (none p)) in
      let retains = counts_are r born (is_retain r) (on_root ref_retain p g) (retains_alike r) in
      let releases = counts_are r born (is_release r) (on_root ref_loss p g) (releases_alike r) in
      let borns = counts_are r born (is_born r) (on_root ref_born p g) (borns_alike r) in
      let ends = counts_are r born (ends_root r) (on_root ref_ended p g) (ends_alike r) in
      let gains = gains_are p g (v ∷ []) in let once = t.once in let counts = t.counts in
      totals (count_over (is_retain r) (entries_in (parts_of v))) (count_over (is_release r) (entries_in (parts_of v)))
      (count_over (is_born r) (entries_in (parts_of v))) (count_over (ends_root r) (entries_in (parts_of v)))
      refl refl refl refl (omega (arith, borns, once)) (omega (arith, retains, releases, gains, once, counts))
      (λ ne. let z = t.live (λ same. ne (omega (arith, retains, releases, gains, once, same))) in
      omega (arith, ends, z))
      (λ same. let z = t.dead (omega (arith, retains, releases, gains, once, same)) in omega (arith, ends, z))
    where
      totals : (a b c d : ℕ) → count_over (is_retain r) (entries_in (parts_of v)) ≡ a
          → count_over (is_release r) (entries_in (parts_of v)) ≡ b
          → count_over (is_born r) (entries_in (parts_of v)) ≡ c
          → count_over (ends_root r) (entries_in (parts_of v)) ≡ d →
          c ≡ 1 → b ≤ 1 + a → (b ≢ 1 + a → d ≡ 0) → (b ≡ 1 + a → d ≡ 1) → TotalHolds r (entries_in (parts_of v))
      totals a b c d ea eb ec ed once le live dead = record {
        never_below = omega (arith, ea, eb, le);
        born_once = ec ∙ once;
        ends_once =
            dite (ℕ_discrete b (1 + a)) (λ e. let z = dead e in omega (arith, ed, z))
            (λ ne. let z = live ne in omega (arith, ed, z));
        ends_at_zero = (
          (λ e. dite (ℕ_discrete b (1 + a)) (λ same. omega (arith, ea, eb, same))
              (λ ne. let z = live ne in absurd (omega (arith, e, ed, z)))),
          (λ e. let z = dead (omega (arith, ea, eb, e, le)) in omega (arith, ed, z)),
        );
      }
