-- The count word of a root place tells all counts and unfetched parcels, and the roots of a place follow one another.
use Rattle.step_law.specs.Settings.{Setting}
use Rattle.std.proofs.Common.{◌≡◌, ◌⊎◌, ℕ, ◌+◌, ◌-◌, ◌*◌, ◌<◌, ◌≤◌, List, [], ◌∷◌, sym, subst, inl, inr, ⊎_elim, arith}
use Rattle.std.specs.Prelude.{Option, All, sum_by, slice_index}
use Rattle.std.proofs.lemmas.List.Elements.{All-head, All-tail, All-weaker}
use Rattle.std.proofs.lemmas.List.Sums.{sum_by-cons}
use mathlib.Core.Logic.{dite}
use native.Mathlib.Decide.{ℕ_discrete, dec_le}
use Rattle.atomic_table.specs.Table.{State}
use Rattle.pool_law.specs.declared.note.Noted.{Noted}
use Rattle.pool_table.specs.declared.views.Layout.{Layout}
use Rattle.pool_table.specs.declared.views.SeatView.{SeatView}
use Rattle.pool_table.specs.Counts.{IsCounted, on_root, at_gain, at_loss, gained, lost, weigh, tally, place_tally, ref_gain, ref_loss, ref_born, ref_ended, ref_vacated}
use Rattle.pool_table.specs.Words.{count_word_of}
use Rattle.pool_table.specs.Sound.{IsSound, IsView}
use Rattle.pool_table.specs.Turns.{counted_in, unfetched_in, births_at, WordTells, InTurn}
use Rattle.pool_table.proofs.Ledgers.{sum_add}
use Rattle.pool_table.proofs.Transit.{transit}
use Rattle.pool_table.proofs.WordChanges.{small_count}

-- what is left of each, where none loses more than it gains
left_over : {A : Type 0} (f g : A → ℕ) (xs : List A) → All (λ (x : A). g x ≤ f x) xs
    → sum_by (λ (x : A). f x - g x) xs + sum_by g xs ≡ sum_by f xs
left_over f g [] all = omega arith
left_over {A} f g (x ∷ xs) all =
    let P : A → Type 0 = λ (y : A). g y ≤ f y in
    let a = sum_by-cons (λ (y : A). f y - g y) x xs in let b = sum_by-cons f x xs in let c = sum_by-cons g x xs in
    let le = All-head P x xs all in let d = left_over f g xs (All-tail P x xs all) in omega (arith, a, b, c, d, le)

-- where all counts of a root are what it gained less what it lost
module _ (p : ℕ) (views : List SeatView) (word : ℕ) (k : IsCounted p views word)
    (all : (g : ℕ) → (counted_in p g views + unfetched_in p g views) + tally ref_loss p g views
    ≡ tally ref_gain p g views) where
  no_root : (g : ℕ) → (g ≡ 0) ⊎ (k.generation < g) → InTurn p g views
  no_root g other =
      let born = k.later ref_born g other in let ended = k.later ref_ended g other in let vacated =
      k.later ref_vacated g other in
      record {
        from_one = λ some. absurd (omega (arith, some, born));
        born_once = omega (arith, born);
        born_before = omega (arith, ended);
        ended_before = omega (arith, vacated);
        vacated_before = λ some. ⊎_elim
            (λ (z : g ≡ 0). absurd (omega (arith, z, some)))
            (λ (gt : k.generation < g). let next = k.later ref_born (g + 1) (inr (omega (arith, gt))) in
            omega (arith, next)) other;
        ended_uncounted = λ some. absurd (omega (arith, some, born));
      }

  past_root : (g : ℕ) → 0 < g → g < k.generation → InTurn p g views
  past_root g some lt =
      let born = k.born g some (omega (arith, lt)) in let next = k.born (g + 1) (omega arith) (omega (arith, lt)) in
      let past = k.past g some lt in let even = past.0 in let ended = past.1 in let vacated = past.2 in let sum =
      all g in
      record {
        from_one = λ _. some;
        born_once = omega (arith, born);
        born_before = omega (arith, born, ended);
        ended_before = omega (arith, ended, vacated);
        vacated_before = λ _. omega (arith, next, vacated);
        ended_uncounted = λ _. ((λ _. omega (arith, sum, even)), (λ _. ended));
      }

  last_root : 0 < k.generation → InTurn p k.generation views
  last_root some =
      let g : ℕ = k.generation in
      let born = k.born g some (omega arith) in let next = k.later ref_born (g + 1) (inr (omega arith)) in
      let vacated = k.vacated some in let sum = all g in let counts = k.counts in let free = k.free in
      dite (ℕ_discrete k.count 0)
      (λ z. let ended = (k.ended some).0 z in record {
        from_one = λ _. some;
        born_once = omega (arith, born);
        born_before = omega (arith, born, ended);
        ended_before = omega (arith, ended, vacated, free);
        vacated_before = λ _. omega (arith, next);
        ended_uncounted = λ _. ((λ _. omega (arith, sum, counts, z)), (λ _. ended));
      })
      (λ ne. let more : 0 < k.count = omega (arith, ne) in let ended = (k.ended some).1 more in let live =
      k.live more in record {
        from_one = λ _. some;
        born_once = omega (arith, born);
        born_before = omega (arith, ended);
        ended_before = omega (arith, vacated, live);
        vacated_before = λ _. omega (arith, next);
        ended_uncounted =
            λ _. (
              (λ one. absurd (omega (arith, one, ended))),
              (λ zero. absurd (omega (arith, sum, counts, zero, more))),
            );
      })

  turn : (g : ℕ) → InTurn p g views
  turn g = dite (ℕ_discrete g 0)
      (λ z. no_root g (inl z))
      (λ some. dite (dec_le g k.generation)
      (λ le. dite (ℕ_discrete g k.generation)
      (λ same. subst (λ (x : ℕ). InTurn p x views) (sym same) (last_root (omega (arith, some, same))))
      (λ other. past_root g (omega (arith, some)) (omega (arith, le, other))))
      (λ gt. no_root g (inr (omega (arith, gt)))))

  tells : k.count ≤ 1073741824 → sum_by (weigh (at_gain p (births_at p views))) views ≤ sum_by
      (weigh (at_loss p (births_at p views))) views → WordTells p views word
  tells small posted =
      let sum = all k.generation in let counts = k.counts in
      let live : counted_in p k.generation views + unfetched_in p k.generation views
      ≡ k.count = omega (arith, sum, counts) in
      let same : births_at p views ≡ k.generation = k.all_born in
      let here : counted_in p (births_at p views) views + unfetched_in p (births_at p views) views ≡ k.count =
      subst (λ (g : ℕ). counted_in p g views + unfetched_in p g views ≡ k.count) (sym same) live in
      let vacated = k.all_vacated in let word_is = k.word_is in let free = k.free in
      let vacant : place_tally ref_vacated p views + 1 - births_at p views ≡ k.vacant = omega (arith, vacated, same) in
      record {
        word_is = omega (arith, word_is, same, here, vacant);
        fits = omega (arith, here, vacant, free, small);
        posted = posted;
      }

module _ {H : Type 0} (stands : List ℕ → Setting → List Noted → H → Type 0) (l : Layout) where
  all_counts : (s : State (Option H) SeatView) (r : IsSound stands l s) (p g : ℕ) →
      (counted_in p g s.views + unfetched_in p g s.views) + tally ref_loss p g s.views ≡ tally ref_gain p g s.views
  all_counts s r p g =
      let a = left_over (gained p g) (lost p g) s.views
      (All-weaker (IsView l.shape r.setting) (λ (v : SeatView). lost p g v ≤ gained p g v)
      (λ v fine. fine.counted p g) s.views r.views) in
      let b = sum_add (weigh (on_root ref_gain p g)) (weigh (at_gain p g)) s.views in
      let c = sum_add (weigh (on_root ref_loss p g)) (weigh (at_loss p g)) s.views in
      let d = transit stands l s r p g in omega (arith, a, b, c, d)

  pub word_tells : (s : State (Option H) SeatView) (r : IsSound stands l s) (p : ℕ)
      → p < l.shape.lanes * l.shape.handles → WordTells p s.views (slice_index s.words (count_word_of l.shape p))
  word_tells s r p lt =
      tells p s.views (slice_index s.words (count_word_of l.shape p)) (r.counts p lt) (all_counts s r p)
      (small_count stands l s r p lt) (transit stands l s r p (births_at p s.views))

  pub in_turn : (s : State (Option H) SeatView) (r : IsSound stands l s) (p : ℕ) → p < l.shape.lanes * l.shape.handles
      → (g : ℕ) → InTurn p g s.views
  in_turn s r p lt g =
      turn p s.views (slice_index s.words (count_word_of l.shape p)) (r.counts p lt) (all_counts s r p) g
