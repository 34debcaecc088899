-- A birth that a view noted and has not made, by its generation, is one of its place.
use Rattle.step_law.specs.Settings.{Setting}
use Rattle.std.proofs.Common.{◌≡◌, ℕ, zero, suc, ◌+◌, ◌*◌, ◌<◌, ◌≤◌, Bool, true, false, cond, eqb, List, [], ◌∷◌, refl, ap, inl, inr, arith}
use Rattle.std.specs.Prelude.{◌&&◌, Option, sum_by}
use Rattle.std.proofs.lemmas.List.Sums.{sum_by-cons, sum_by-le-sum_by}
use mathlib.Core.Logic.{dite}
use native.Mathlib.Decide.{ℕ_discrete}
use mathlib.Core.Option.{some}
use lib.ListN.{get_elem?}
use Rattle.atomic_table.specs.Table.{State}
use Rattle.step_law.proofs.Changes.{each_at}
use Rattle.pool_law.specs.declared.note.Did.{Did}
use Rattle.pool_law.specs.declared.note.Did.TheVariants.{Birth}
use Rattle.pool_law.specs.declared.note.Noted.{Noted}
use Rattle.history_laws.specs.NoteCounts.{did_birth, did_birth_of}
use Rattle.pool_table.specs.declared.views.Entry.{Entry}
use Rattle.pool_table.specs.declared.views.Entry.TheVariants.{At, Ref, Busy}
use Rattle.pool_table.specs.declared.views.Layout.{Layout}
use Rattle.pool_table.specs.declared.views.Part.{Part}
use Rattle.pool_table.specs.declared.views.SeatView.{SeatView}
use Rattle.pool_table.specs.Views.{parts_of}
use Rattle.pool_table.specs.Counts.{weigh, on_root, on_place, ref_born, tally, place_tally}
use Rattle.pool_table.specs.Hands.{at_birth, at_birth_of, IsBearing}
use Rattle.pool_table.specs.Holders.{sum_to}
use Rattle.pool_table.specs.Sound.{IsSound, IsView}
use Rattle.pool_table.proofs.Ledgers.{sum_add}
use Rattle.pool_table.proofs.Lone.{slack}
use Rattle.pool_table.proofs.Partition.{sum_to_none, picked_most}
use Rattle.pool_table.proofs.Presence.{next_birth}

-- ---- Sums by number.

-- sums of sums
swapped : {A : Type 0} (n : ℕ) (f : ℕ → A → ℕ) (l : List A)
    → sum_by (λ (x : A). sum_to n (λ i. f i x)) l ≡ sum_to n (λ i. sum_by (f i) l)
swapped {A} zero f l = nothing l
  where
    nothing : (l : List A) → sum_by (λ (x : A). 0) l ≡ 0
    nothing [] = refl
    nothing (x ∷ xs) = let a = sum_by-cons (λ (y : A). 0) x xs in let b = nothing xs in omega (arith, a, b)
swapped {A} (suc n) f l =
    let a = sum_add (λ (x : A). sum_to n (λ i. f i x)) (f n) l in let b = swapped n f l in omega (arith, a, b)

sum_to_lt : (n : ℕ) (f g : ℕ → ℕ) (j : ℕ) → ((i : ℕ) → f i ≤ g i) → j < n → f j < g j → sum_to n f < sum_to n g
sum_to_lt zero f g j le lt less = absurd (omega (arith, lt))
sum_to_lt (suc n) f g j le lt less = dite (ℕ_discrete j n)
    (λ e. let a = no_less n in let fe = ap f e in let ge = ap g e in omega (arith, a, fe, ge, less))
    (λ ne. let a = sum_to_lt n f g j le (omega (arith, lt, ne)) less in let b = le n in omega (arith, a, b))
  where
    no_less : (m : ℕ) → sum_to m f ≤ sum_to m g
    no_less zero = omega arith
    no_less (suc m) = let a = no_less m in let b = le m in omega (arith, a, b)

-- of all entries of a view
in_view : (n : ℕ) (f : ℕ → Entry → ℕ) (g : Entry → ℕ) → ((e : Entry) → sum_to n (λ i. f i e) ≤ g e) → (v : SeatView)
    → sum_to n (λ i. weigh (f i) v) ≤ weigh g v
in_view n f g le v =
    let h : ℕ → Part → ℕ = λ i (q : Part). sum_by (f i) q.notes in
    let a = swapped n h (parts_of v) in
    let b = sum_by-le-sum_by (λ (q : Part). sum_to n (λ i. h i q)) (λ (q : Part). sum_by g q.notes) (parts_of v)
    (λ q. let c = swapped n f q.notes in
    let d = sum_by-le-sum_by (λ (e : Entry). sum_to n (λ i. f i e)) g q.notes le in omega (arith, c, d)) in
    omega (arith, a, b)

-- ---- Births by generation.

steps_by : (n p : ℕ) (e : Entry) → sum_to n (λ i. on_root ref_born p i e) ≤ on_place ref_born p e
steps_by n p (At o k m) = let a = sum_to_none n (λ i. 0) (λ i lt. refl) in omega (arith, a)
steps_by n p (Ref q d) = by (eqb q.place p)
  where
    by : (b : Bool) → sum_to n (λ i. cond {A = ℕ} (b && eqb q.generation i) (ref_born d) 0)
        ≤ cond {A = ℕ} b (ref_born d) 0
    by true = picked_most n q.generation (ref_born d)
    by false = let a = sum_to_none n (λ i. 0) (λ i lt. refl) in omega (arith, a)
steps_by n p (Busy b) = let a = sum_to_none n (λ i. 0) (λ i lt. refl) in omega (arith, a)

notes_by : (n p : ℕ) (e : Entry) → sum_to n (λ i. at_birth_of p i e) ≤ at_birth p e
notes_by n p (At o k m) = of m.did
  where
    by : (q : ℕ) (b : Bool) → sum_to n (λ i. cond {A = ℕ} (b && eqb q i) 1 0) ≤ cond {A = ℕ} b 1 0
    by q true = picked_most n q 1
    by q false = let a = sum_to_none n (λ i. 0) (λ i lt. refl) in omega (arith, a)

    of : (d : Did) → sum_to n (λ i. did_birth_of p i d) ≤ did_birth p d
    of (Birth q x) = by q.generation (eqb q.place p)
    of d = let a = sum_to_none n (λ i. 0) (λ i lt. refl) in omega (arith, a)
notes_by n p (Ref q d) = let a = sum_to_none n (λ i. 0) (λ i lt. refl) in omega (arith, a)
notes_by n p (Busy b) = let a = sum_to_none n (λ i. 0) (λ i lt. refl) in omega (arith, a)

module _ {H : Type 0} (stands : List ℕ → Setting → List Noted → H → Type 0) (l : Layout) where
  abbrev St : Type 0
  St = State (Option H) SeatView

  -- of each generation up to the last one, one birth was made
  made_by : (s : St) (r : IsSound stands l s) (p : ℕ) (lt : p < l.shape.lanes * l.shape.handles) (m : ℕ)
      → m ≤ (r.counts p lt).generation → sum_to (suc m) (λ i. tally ref_born p i s.views) ≡ m
  made_by s r p lt zero le =
      let a = (r.counts p lt).later ref_born 0 (inl refl) in let x : ℕ = tally ref_born p 0 s.views in
      let a' : x ≡ 0 = a in let g : 0 + x ≡ 0 = omega (arith, a') in g
  made_by s r p lt (suc m) le =
      let a = made_by s r p lt m (omega (arith, le)) in let b = (r.counts p lt).born (suc m) (omega arith) le in
      let x : ℕ = tally ref_born p (suc m) s.views in let y : ℕ = sum_to (suc m) (λ i. tally ref_born p i s.views) in
      let a' : y ≡ m = a in let b' : x ≡ 1 = b in let g : y + x ≡ suc m = omega (arith, a', b') in g

  -- a birth of a generation that a view noted and has not made waits at its place
  pub bearing_at : (s : St) (r : IsSound stands l s) (p : ℕ) (lt : p < l.shape.lanes * l.shape.handles) (id g : ℕ)
      (v : SeatView) → get_elem? s.views id ≡ some v
      → weigh (on_root ref_born p g) v < weigh (at_birth_of p g) v → IsBearing p v
  bearing_at s r p lt id g v at less =
      let k = r.counts p lt in let last : ℕ = k.generation in let n : ℕ = suc (suc last) in
      let next : g ≡ last + 1 = next_birth stands l s r id p g v lt at less in
      let fine = each_at (IsView l.shape r.setting) s.views id v r.views at in
      let steps : SeatView → ℕ = λ u. sum_to n (λ i. weigh (on_root ref_born p i) u) in
      let most : (u : SeatView) → steps u ≤ weigh (on_place ref_born p) u =
      (λ u. in_view n (λ i. on_root ref_born p i) (on_place ref_born p) (steps_by n p) u) in
      let lack = slack steps (weigh (on_place ref_born p)) s.views id v most at in
      let all : sum_by steps s.views ≡ sum_to n (λ i. tally ref_born p i s.views) =
      swapped n (λ i u. weigh (on_root ref_born p i) u) s.views in
      let front = made_by s r p lt last (omega arith) in
      let later = k.later ref_born (suc last) (inr (omega arith)) in
      let born = k.all_born in
      let low = sum_to_lt n (λ i. weigh (on_root ref_born p i) v) (λ i. weigh (at_birth_of p i) v) g
      (λ i. fine.roots.borne_of p i) (omega (arith, next)) less in
      let high = in_view n (λ i. at_birth_of p i) (at_birth p) (notes_by n p) v in
      let sv : ℕ = steps v in let ss : ℕ = sum_by steps s.views in let pv : ℕ = weigh (on_place ref_born p) v in
      let ps : ℕ = place_tally ref_born p s.views in let tail : ℕ = tally ref_born p (suc last) s.views in
      let head : ℕ = sum_to (suc last) (λ i. tally ref_born p i s.views) in
      let bv : ℕ = sum_to n (λ i. weigh (at_birth_of p i) v) in let av : ℕ = weigh (at_birth p) v in
      let lack' : ss + pv ≤ ps + sv = lack in let all' : ss ≡ head + tail = all in let front' : head ≡ last = front in
      let later' : tail ≡ 0 = later in let born' : ps ≡ last = born in let low' : sv < bv = low in
      let high' : bv ≤ av = high in
      let goal : pv < av = omega (arith, lack', all', front', later', born', low', high') in goal
