-- The steps of `new` as its calls ask for them.
use Rattle.step_law.specs.Settings.{Setting}
use Rattle.std.proofs.Common.{◌≡◌, ℕ, zero, suc, ◌+◌, ◌-◌, ◌*◌, ◌<◌, List, [], ◌∷◌, ◌++◌, length, get_or, sym, ap, ◌∙◌, subst, arith}
use Rattle.std.specs.Prelude.{Option, HoldsAt}
use Rattle.std.proofs.lemmas.List.{get_or_push, get_or_append_left}
use mathlib.Core.Logic.{dite}
use native.Mathlib.Decide.{ℕ_discrete}
use Rattle.atomic_table.specs.Table.{Splits, opening}
use Rattle.pool_law.specs.declared.note.Noted.{Noted}
use Rattle.pool_law.specs.Homes.{home_of, objects_of}
use Rattle.pool_table.specs.Slots.{laid_out}
use Rattle.pool_table.proofs.Slots.{laid_many, laid_home, laid_empty}
use Rattle.pool_table.specs.Opened.{StandAtFirst}
use Rattle.pool_table.specs.Words.{IsOpening}
use Rattle.pool_table.specs.declared.views.Layout.{Layout}
use Rattle.pool_table.specs.declared.views.SeatView.{SeatView}
use Rattle.pool_table.specs.Sound.{IsSound, IsTableShape}
use Rattle.pool_table.specs.Steps.{first_view, rest_view, lane_view, first_lane, rest_of_lanes}
use Rattle.pool_table.proofs.OpeningSeats.{cuts_allowed, cut_first, cut_rest, opens}

module _ {H : Type 0} (stands : List ℕ → Setting → List Noted → H → Type 0) (l : Layout) where
  pub cuts_as : (key : Layout) (id i n : ℕ) (g : Setting) (v : SeatView) → key ≡ l → 0 < n → v ≡ rest_view l i n g
      → Splits (IsSound stands key) id v (rest_of_lanes v) (first_lane v)
  cuts_as key id i n g v ke lt is = cut n lt is
    where
      cut : (n : ℕ) → 0 < n → v ≡ rest_view l i n g → Splits (IsSound stands key) id v (rest_of_lanes v) (first_lane v)
      cut zero lt is = absurd (omega (arith, lt))
      cut (suc n) lt is =
          subst (λ (y : Layout × SeatView). Splits (IsSound stands y.0) id y.1 (rest_of_lanes y.1) (first_lane y.1))
          (λ q. (sym ke q, sym is q)) (cuts_allowed stands l id i n g)

  pub cut_views : (i n : ℕ) (g : Setting) (v : SeatView) → 0 < n → v ≡ rest_view l i n g
      → (first_lane v ≡ lane_view l i g) × (rest_of_lanes v ≡ rest_view l (i + 1) (n - 1) g)
  cut_views i zero g v lt is = absurd (omega (arith, lt))
  cut_views i (suc n) g v lt is = (
    ap first_lane is ∙ cut_first stands l i n g,
    ap rest_of_lanes is ∙ (cut_rest stands l i n g
        ∙ (let a : suc i ≡ i + 1 = omega arith in let b : n
        ≡ suc n - 1 = omega arith in λ k. rest_view l (a k) (b k) g)),
  )

  pub opens_as : (gs : Setting) (words : List ℕ) (slots : List (Option H)) (homes : List H) → IsTableShape l.shape
      → l.shape.lanes * l.turns < 4611686018427387904 → l.shape.lanes * l.moves < 1073741824 → IsOpening l.shape words
      → slots ≡ laid_out l.shape 0 homes → length homes ≡ objects_of l.shape → StandAtFirst stands l.shape gs homes
      → IsSound stands l (opening words slots (first_view l gs))
  opens_as gs words slots homes shape room few is laid wide all =
      subst (λ (ys : List (Option H)). IsSound stands l (opening words ys (first_view l gs))) (sym laid)
      (opens stands l gs words (laid_out l.shape 0 homes) shape room few is (laid_many l.shape homes wide)
      (laid_empty l.shape homes wide)
      (λ o fits. let h = all o fits in (h.0, laid_home l.shape homes (home_of l.shape o) h.0 h.1, h.2)))

-- what holds at each place, with one element more
pub made_push : {X : Type 0} (P : ℕ → X → Type 0) (xs ys : List X) (x : X) (i : ℕ) → length xs ≡ i → ys ≡ xs ++ x ∷ []
    → ((k : ℕ) → k < i → HoldsAt (P k) xs k) → P i x → (k : ℕ) → k < i + 1 → HoldsAt (P k) ys k
made_push P xs ys x i long is all here k lt d = subst (λ l. P k (get_or l k d)) (sym is) (dite (ℕ_discrete k i)
    (λ e. subst (P k) (sym (get_or_push xs x d k (long ∙ sym e))) (subst (λ (n : ℕ). P n x) (sym e) here))
    (λ ne. let n : ℕ = length xs in let a : n ≡ i = long in let near : k < n = omega (arith, lt, ne, a) in
    subst (P k) (sym (get_or_append_left xs (x ∷ []) d k near)) (all k (omega (arith, lt, ne)) d)))
