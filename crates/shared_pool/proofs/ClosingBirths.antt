-- A root whose birth was noted was born, where its place is in no hands: births of all generations are as many
-- as steps.
use Rattle.std.proofs.Common.{◌≡◌, ℕ, zero, suc, ◌+◌, ◌<◌, ◌≤◌, List, [], ◌∷◌, Bool, true, false, cond, refl, subst, arith}
use Rattle.std.specs.Prelude.{◌==◌, ◌&&◌, sum_by}
use Rattle.std.proofs.lemmas.List.Sums.{sum_by-cons}
use mathlib.Core.Logic.{dite}
use native.Mathlib.Decide.{ℕ_discrete}
use Rattle.pool_law.specs.declared.note.Did.{Did}
use Rattle.pool_law.specs.declared.note.Did.TheVariants.{Birth}
use Rattle.history_laws.specs.NoteCounts.{did_birth, did_birth_of}
use Rattle.pool_table.specs.declared.views.Entry.{Entry}
use Rattle.pool_table.specs.declared.views.Entry.TheVariants.{At, Ref, Busy}
use Rattle.pool_table.specs.declared.views.Part.{Part}
use Rattle.pool_table.specs.declared.views.SeatView.{SeatView}
use Rattle.pool_table.specs.Views.{parts_of}
use Rattle.pool_table.specs.Counts.{on_root, on_place, ref_born, weigh}
use Rattle.pool_table.specs.Hands.{at_birth, at_birth_of}
use Rattle.pool_table.specs.Holders.{sum_to}
use Rattle.pool_table.proofs.Partition.{sum_to_same, sum_to_add, sum_to_none, sum_to_le, picked, picked_most}

-- ---- Sums over all generations.

sum_below : (n : ℕ) (f g : ℕ → ℕ) (i : ℕ) → i < n → ((k : ℕ) → f k ≤ g k) → f i < g i → sum_to n f < sum_to n g
sum_below zero f g i lt le less = absurd (omega (arith, lt))
sum_below (suc n) f g i lt le less = dite (ℕ_discrete i n)
    (λ e. let a = sum_to_le n f g (λ k _. le k) in let b = subst (λ (k : ℕ). f k < g k) e less in omega (arith, a, b))
    (λ ne. let a = sum_below n f g i (omega (arith, lt, ne)) le less in let b = le n in omega (arith, a, b))

module _ {X : Type 0} (f : ℕ → X → ℕ) (F : X → ℕ) where
  -- sums of sums, where the numbers go above what each has
  all_sums : (top : X → ℕ) → ((x : X) (n : ℕ) → top x ≤ n → sum_to n (λ i. f i x) ≡ F x) → (xs : List X) (n : ℕ)
      → sum_by top xs ≤ n → sum_to n (λ i. sum_by (f i) xs) ≡ sum_by F xs
  all_sums top each [] n le = sum_to_none n (λ i. sum_by (f i) []) (λ i lt. refl)
  all_sums top each (x ∷ xs) n le =
      let t = sum_by-cons top x xs in
      let a = sum_to_same n (λ i. sum_by (f i) (x ∷ xs)) (λ i. f i x + sum_by (f i) xs) (λ i. sum_by-cons (f i) x xs) in
      let b = sum_to_add n (λ i. f i x) (λ i. sum_by (f i) xs) in let c = each x n (omega (arith, t, le)) in let d =
      all_sums top each xs n (omega (arith, t, le)) in let e = sum_by-cons F x xs in
      omega (arith, a, b, c, d, e)

  at_most : ((x : X) (n : ℕ) → sum_to n (λ i. f i x) ≤ F x) → (xs : List X) (n : ℕ)
      → sum_to n (λ i. sum_by (f i) xs) ≤ sum_by F xs
  at_most each [] n = let a = sum_to_none n (λ i. sum_by (f i) []) (λ i lt. refl) in omega (arith, a)
  at_most each (x ∷ xs) n =
      let a = sum_to_same n (λ i. sum_by (f i) (x ∷ xs)) (λ i. f i x + sum_by (f i) xs) (λ i. sum_by-cons (f i) x xs) in
      let b = sum_to_add n (λ i. f i x) (λ i. sum_by (f i) xs) in let c = each x n in let d = at_most each xs n in
      let e = sum_by-cons F x xs in
      omega (arith, a, b, c, d, e)

-- ---- Births at one place.

module _ (p : ℕ) where
  abbrev step : ℕ → Entry → ℕ
  step g e = on_root ref_born p g e

  abbrev note : ℕ → Entry → ℕ
  note g e = at_birth_of p g e

  abbrev top : Entry → ℕ
  top (At o k n) = 0
  top (Ref r d) = r.generation + 1
  top (Busy b) = 0

  step_sums : (e : Entry) (n : ℕ) → top e ≤ n → sum_to n (λ g. step g e) ≡ on_place ref_born p e
  step_sums (At o k m) n le = sum_to_none n (λ g. 0) (λ i lt. refl)
  step_sums (Busy b) n le = sum_to_none n (λ g. 0) (λ i lt. refl)
  step_sums (Ref r d) n le = by (r.place == p)
    where
      by : (b : Bool) → sum_to n (λ g. cond {A = ℕ} (b && (r.generation == g)) (ref_born d) 0)
          ≡ cond {A = ℕ} b (ref_born d) 0
      by true = picked n r.generation (ref_born d) (omega (arith, le))
      by false = sum_to_none n (λ g. 0) (λ i lt. refl)

  note_sums : (e : Entry) (n : ℕ) → sum_to n (λ g. note g e) ≤ at_birth p e
  note_sums (At o k m) n = by m.did
    where
      one : (b : Bool) (j : ℕ) → sum_to n (λ g. cond {A = ℕ} (b && (j == g)) 1 0) ≤ cond {A = ℕ} b 1 0
      one true j = picked_most n j 1
      one false j = let a = sum_to_none n (λ g. 0) (λ i lt. refl) in omega (arith, a)

      by : (d : Did) → sum_to n (λ g. did_birth_of p g d) ≤ did_birth p d
      by (Birth r x) = one (r.place == p) r.generation
      by d = let a = sum_to_none n (λ g. 0) (λ i lt. refl) in omega (arith, a)
  note_sums (Ref r d) n = let a = sum_to_none n (λ g. 0) (λ i lt. refl) in omega (arith, a)
  note_sums (Busy b) n = let a = sum_to_none n (λ g. 0) (λ i lt. refl) in omega (arith, a)

  abbrev top_of : Part → ℕ
  top_of q = sum_by top q.notes

  steps_all : (v : SeatView) (n : ℕ) → sum_by top_of (parts_of v) ≤ n
      → sum_to n (λ g. weigh (step g) v) ≡ weigh (on_place ref_born p) v
  steps_all v n le =
      all_sums (λ g (q : Part). sum_by (step g) q.notes) (λ (q : Part). sum_by (on_place ref_born p) q.notes) top_of
      (λ q m below. all_sums step (on_place ref_born p) top step_sums q.notes m below) (parts_of v) n le

  notes_all : (v : SeatView) (n : ℕ) → sum_to n (λ g. weigh (note g) v) ≤ weigh (at_birth p) v
  notes_all v n = at_most (λ g (q : Part). sum_by (note g) q.notes) (λ (q : Part). sum_by (at_birth p) q.notes)
      (λ q m. at_most note (at_birth p) note_sums q.notes m) (parts_of v) n

  -- where no more births are noted than made, and none of a generation made that wasn't noted, each that was
  -- noted is made
  pub noted_made : (v : SeatView) → weigh (at_birth p) v ≤ weigh (on_place ref_born p) v
      → ((g : ℕ) → weigh (on_root ref_born p g) v ≤ weigh (at_birth_of p g) v) → (g : ℕ) →
      0 < weigh (at_birth_of p g) v → 0 < weigh (on_root ref_born p g) v
  noted_made v most each g lt = dite (ℕ_discrete (weigh (on_root ref_born p g) v) 0)
      (λ z. let t : ℕ = sum_by top_of (parts_of v) in let n : ℕ = t + (g + 1) in
      let a = steps_all v n (let le : t ≤ n = omega arith in le) in let b = notes_all v n in
      let c = sum_below n (λ g. weigh (step g) v) (λ g. weigh (note g) v) g (let le : g < n = omega arith in le) each
      (omega (arith, z, lt)) in
      absurd (omega (arith, a, b, c, most)))
      (λ ne. omega (arith, ne))
