-- The counts beyond the first, added up over all root places: they are the retains that no release took back.
use Rattle.std.proofs.Common.{◌≡◌, ℕ, zero, suc, ◌+◌, ◌-◌, ◌*◌, ◌<◌, ◌≤◌, List, [], ◌∷◌, refl, subst, arith}
use Rattle.std.specs.Prelude.{Option, All, sum_by}
use Rattle.std.proofs.lemmas.List.Elements.{All-head, All-tail, All-weaker}
use Rattle.std.proofs.lemmas.List.Sums.{sum_by-cons, sum_by-le-sum_by}
use mathlib.Core.Logic.{dite}
use native.Mathlib.Decide.{ℕ_discrete}
use Rattle.pool_law.specs.declared.run.Shape.{Shape}
use Rattle.pool_law.specs.declared.note.RefDid.{RefDid}
use Rattle.pool_table.specs.declared.views.Entry.{Entry}
use Rattle.pool_table.specs.declared.views.Entry.TheVariants.{At, Ref, Busy}
use Rattle.pool_table.specs.declared.views.Part.{Part}
use Rattle.pool_table.specs.declared.views.SeatView.{SeatView}
use Rattle.pool_table.specs.Views.{parts_of}
use Rattle.pool_table.specs.Counts.{IsCounted, on_any, on_place, place_tally, reached, returned, ref_retain, ref_kept, weigh}
use Rattle.pool_table.specs.Holders.{sum_to}
use Rattle.pool_table.specs.Sound.{Stands}
use Rattle.pool_table.proofs.Partition.{sum_to_same, sum_to_add, sum_to_none, sum_to_le, picked}

-- where one summand is more by x and none is less
pub more_to : (n : ℕ) (f g : ℕ → ℕ) (i x : ℕ) → i < n → ((k : ℕ) → k < n → g k ≤ f k) → g i + x ≤ f i
    → sum_to n g + x ≤ sum_to n f
more_to zero f g i x lt le more = absurd (omega (arith, lt))
more_to (suc n) f g i x lt le more = dite (ℕ_discrete i n)
    (λ e. let a = sum_to_le n g f (λ k low. le k (omega (arith, low))) in let b =
    subst (λ (k : ℕ). g k + x ≤ f k) e more in omega (arith, a, b))
    (λ ne. let a = more_to n f g i x (omega (arith, lt, ne)) (λ k low. le k (omega (arith, low))) more in let b =
    le n (omega arith) in omega (arith, a, b))

-- sums over a list, added up
swapped : {X : Type 0} (n : ℕ) (f : ℕ → X → ℕ) (F : X → ℕ) (xs : List X)
    → All (λ (x : X). sum_to n (λ i. f i x) ≡ F x) xs → sum_to n (λ i. sum_by (f i) xs) ≡ sum_by F xs
swapped n f F [] all = sum_to_none n (λ i. sum_by (f i) []) (λ i lt. refl)
swapped {X} n f F (x ∷ xs) all =
    let P : X → Type 0 = λ (x : X). sum_to n (λ i. f i x) ≡ F x in
    let a = sum_to_same n (λ i. sum_by (f i) (x ∷ xs)) (λ i. f i x + sum_by (f i) xs) (λ i. sum_by-cons (f i) x xs) in
    let b = sum_to_add n (λ i. f i x) (λ i. sum_by (f i) xs) in
    let c = All-head P x xs all in let d = swapped n f F xs (All-tail P x xs all) in let e = sum_by-cons F x xs in
    omega (arith, a, b, c, d, e)

module _ (s : Shape) (w : RefDid → ℕ) where
  abbrev places : ℕ
  places = s.lanes * s.handles

  entry_sums : (lane : Option ℕ) (e : Entry) → Stands s lane e → sum_to places (λ p. on_place w p e) ≡ on_any w e
  entry_sums lane (At o k n) t = sum_to_none places (λ p. 0) (λ p lt. refl)
  entry_sums lane (Ref r d) t = picked places r.place (w d) t
  entry_sums lane (Busy b) t = sum_to_none places (λ p. 0) (λ p lt. refl)

  part_sums : (q : Part) → All (Stands s q.number) q.notes
      → sum_to places (λ p. sum_by (on_place w p) q.notes) ≡ sum_by (on_any w) q.notes
  part_sums q all =
      swapped places (on_place w) (on_any w) q.notes
      (All-weaker (Stands s q.number) (λ (e : Entry). sum_to places (λ p. on_place w p e) ≡ on_any w e)
      (entry_sums q.number) q.notes all)

  view_sums : (v : SeatView) → All (λ (q : Part). All (Stands s q.number) q.notes) (parts_of v)
      → sum_to places (λ p. weigh (on_place w p) v) ≡ weigh (on_any w) v
  view_sums v all =
      swapped places (λ p (q : Part). sum_by (on_place w p) q.notes) (λ (q : Part). sum_by (on_any w) q.notes)
      (parts_of v)
      (All-weaker (λ (q : Part). All (Stands s q.number) q.notes)
      (λ (q : Part). sum_to places (λ p. sum_by (on_place w p) q.notes) ≡ sum_by (on_any w) q.notes) part_sums
      (parts_of v) all)

  pub all_sums : (views : List SeatView) → All
      (λ (v : SeatView). All (λ (q : Part). All (Stands s q.number) q.notes) (parts_of v)) views
      → sum_to places (λ p. place_tally w p views) ≡ sum_by (weigh (on_any w)) views
  all_sums views all = swapped places (λ p (v : SeatView). weigh (on_place w p) v) (weigh (on_any w)) views
      (All-weaker (λ (v : SeatView). All (λ (q : Part). All (Stands s q.number) q.notes) (parts_of v))
      (λ (v : SeatView). sum_to places (λ p. weigh (on_place w p) v) ≡ weigh (on_any w) v) view_sums views all)

-- so no count is more than one beyond what was given
pub few_counts : (s : Shape) (views : List SeatView) (words : ℕ → ℕ) (limit : ℕ)
    → All (λ (v : SeatView). All (λ (q : Part). All (Stands s q.number) q.notes) (parts_of v)) views
    → (counts : (p : ℕ) → p < s.lanes * s.handles → IsCounted p views (words p))
    → sum_by reached views ≤ limit + sum_by returned views
    → (p : ℕ) (lt : p < s.lanes * s.handles) → (counts p lt).count ≤ limit + 1
few_counts s views words limit all counts moved p lt =
    let n : ℕ = s.lanes * s.handles in let c : ℕ = (counts p lt).count in
    let f : ℕ → ℕ = λ i. place_tally ref_retain i views in let g : ℕ → ℕ = λ i. place_tally ref_kept i views in
    let more : sum_to n g + (c - 1) ≤ sum_to n f =
    more_to n f g p (c - 1) lt (λ k low. let b = (counts k low).beyond in let x : ℕ = f k in let y : ℕ = g k in
    let z : ℕ = (counts k low).count in let b' : x ≡ y + (z - 1) = b in let q : y ≤ x = omega (arith, b') in q)
    (let b = (counts p lt).beyond in let x : ℕ = f p in let y : ℕ = g p in let b' : x
    ≡ y + (c - 1) = b in let q : y + (c - 1) ≤ x = omega (arith, b') in q) in
    let retains : sum_to n f ≡ sum_by (weigh (on_any ref_retain)) views = all_sums s ref_retain views all in
    let kept : sum_to n g ≡ sum_by returned views = all_sums s ref_kept views all in
    let le : sum_by (weigh (on_any ref_retain)) views ≤ sum_by reached views =
    sum_by-le-sum_by (weigh (on_any ref_retain)) reached views (λ v. omega arith) in
    let x : ℕ = sum_to n f in let y : ℕ = sum_to n g in let a : ℕ = sum_by (weigh (on_any ref_retain)) views in
    let b : ℕ = sum_by returned views in let r : ℕ = sum_by reached views in
    let more' : y + (c - 1) ≤ x = more in let retains' : x ≡ a = retains in let kept' : y
    ≡ b = kept in let le' : a ≤ r = le in let moved' : r ≤ limit + b = moved in
    omega (arith, more', retains', kept', le', moved')
