-- The steps as the calls ask for them: the slots and the composite come by equations.
use Rattle.std.proofs.Common.{◌≡◌, ℕ, ◌+◌, ◌-◌, ◌*◌, ◌%◌, ◌^◌, ◌<◌, ◌≤◌, List, [], ◌∷◌, length, sym, refl, ap, ◌∙◌, subst, arith}
use Rattle.std.specs.Prelude.{Option, Some, None, bit_or}
use mathlib.Core.Option.{none}
use Rattle.atomic_table.specs.Table.{State, Me, step, rest, Allows, Splits}
use Rattle.board_table.specs.declared.views.BoardView.{BoardView}
use Rattle.board_table.specs.declared.views.Opening.{Opening}
use Rattle.board_table.specs.Sound.{IsSound, count_word, section_word}
use Rattle.board_table.specs.Steps.{retains, releases, claims, dones, takes, GetsIn}
use Rattle.board_table.specs.Seats.{Counts, MayEnter, HasMark}
use Rattle.board_table.specs.Sections.{StandsFor, EndsAt}
use Rattle.board_table.specs.declared.views.Inside.{Inside}
use Rattle.board_table.specs.declared.views.Stake.{Stake}
use Rattle.board_table.specs.Views.{added, stake_of, hand_left, handed}
use Rattle.board_table.proofs.Claimed.{claims_allowed}
use Rattle.board_table.proofs.Seatings.{hands_allowed, added_length}
use Rattle.board_table.proofs.Ended.{dones_allowed, takes_allowed}
use Rattle.board_table.proofs.CountSteps.{retains_allowed, releases_allowed}

module _ {H T : Type 0} (stands : T → ℕ → H → Type 0) (left : H → ℕ) (o : Opening T) where
  pub retains_as : (slots id : ℕ) (me : Me (Option H) BoardView) (k k' : ℕ) → slots ≡ o.composites → k' ≡ k
      → k < o.composites → Counts k me.0 → me.0.inside ≡ None → 0 < me.0.moves
      → Allows (IsSound stands left o) slots id me (count_word k) (λ n. (n + 1) % 2 ^ 64)
      (retains k' (step slots (count_word k) 1 0 none) me)
  retains_as slots id me k k' se ke lt counts out moves =
      subst (λ (y : ℕ × ℕ). Allows (IsSound stands left o) y.0 id me (count_word k) (λ n. (n + 1) % 2 ^ 64)
      (retains y.1 (step y.0 (count_word k) 1 0 none) me)) (λ i. (sym se i, sym ke i))
      (retains_allowed stands left o id me k lt counts out moves)

  pub releases_as : (slots id : ℕ) (me : Me (Option H) BoardView) (k k' : ℕ)
      (holds : State (Option H) BoardView → Type 0) → slots ≡ o.composites → k' ≡ k
      → ((s : State (Option H) BoardView) → IsSound stands left o s → holds s) → k < o.composites → Counts k me.0
      → me.0.inside ≡ None
      → Allows (IsSound stands left o) slots id me (count_word k) (λ n. (n + (2 ^ 64 - 1)) % 2 ^ 64)
      (releases holds k' (step slots (count_word k) 1 0 none) me)
  releases_as slots id me k k' holds se ke tells lt counts out =
      subst (λ (y : ℕ × ℕ). Allows (IsSound stands left o) y.0 id me (count_word k) (λ n. (n + (2 ^ 64 - 1)) % 2 ^ 64)
      (releases holds y.1 (step y.0 (count_word k) 1 0 none) me)) (λ i. (sym se i, sym ke i))
      (releases_allowed stands left o id me k lt counts out holds tells)

  pub claims_as : (slots id : ℕ) (me : Me (Option H) BoardView) (k k' : ℕ)
      (holds : State (Option H) BoardView → Type 0) (Fits : H → ℕ → Type 0) → slots ≡ o.composites → k' ≡ k
      → ((s : State (Option H) BoardView) → IsSound stands left o s → holds s)
      → ((x : H) (turns : ℕ) → StandsFor stands left o k turns x → Fits x turns) → k < o.composites → MayEnter k me.0
      → me.0.inside ≡ None → 0 < me.0.turns
      → Allows (IsSound stands left o) slots id me (section_word k) (λ n. bit_or n 1)
      (claims holds Fits k' (step slots (section_word k) 1 0 none) me)
  claims_as slots id me k k' holds Fits se ke tells suits lt may out turn =
      subst (λ (y : ℕ × ℕ). Allows (IsSound stands left o) y.0 id me (section_word k) (λ n. bit_or n 1)
      (claims holds Fits y.1 (step y.0 (section_word k) 1 0 none) me)) (λ i. (sym se i, sym ke i))
      (claims_allowed stands left o id me k lt may out turn holds tells Fits suits)

-- the slot was taken last
pub took_last : {H : Type 0} (holds : State (Option H) BoardView → Type 0) (Fits : H → ℕ → Type 0)
    (k found : ℕ) (me after : Me (Option H) BoardView) → me.1 ≡ []
    → GetsIn holds Fits k me found after → (x : Option H) × (after.1 ≡ (k, x) ∷ rest after.1)
took_last {H} holds Fits k found me after empty g =
    let e : after.1 ≡ (k, Some g.home) ∷ [] = ap (λ (m : Me (Option H) BoardView). m.1) g.is
    ∙ (λ i. (k, Some g.home) ∷ empty i) in
    (Some g.home, e ∙ (λ i. (k, Some g.home) ∷ rest (sym e i)))

module _ {H T : Type 0} (stands : T → ℕ → H → Type 0) (left : H → ℕ) (o : Opening T) where
  pub dones_as : (slots id : ℕ) (me : Me (Option H) BoardView) (v : BoardView) (k : ℕ) (h : H) → slots ≡ o.composites
      → me ≡ (v, (k, Some h) ∷ []) → k < o.composites → EndsAt stands left o k h v
      → Allows (IsSound stands left o) slots id me (section_word k) (λ n. (n + 1) % 2 ^ 64)
      (dones (step slots (section_word k) 1 0 none) me)
  dones_as slots id me v k h se is lt ends =
      subst (λ (y : ℕ × Me (Option H) BoardView). Allows (IsSound stands left o) y.0 id y.1 (section_word k)
      (λ n. (n + 1) % 2 ^ 64) (dones (step y.0 (section_word k) 1 0 none) y.1)) (λ i. (sym se i, sym is i))
      (dones_allowed stands left o id v k lt (record { composite = k; number = ends.number; turns = ends.turns })
      ends.inside refl ends.enters h ends.stands_for)

  pub takes_as : (slots id : ℕ) (me : Me (Option H) BoardView) (v : BoardView) (k : ℕ) → slots ≡ o.composites
      → me ≡ (v, (k, None) ∷ []) → k < o.composites → (x : Inside) × (v.inside ≡ Some x) × (x.composite ≡ k)
      → HasMark k v
      → Allows (IsSound stands left o) slots id me (section_word k) (λ n. (n + 1) % 2 ^ 64)
      (takes (step slots (section_word k) 1 0 none) me)
  takes_as slots id me v k se is lt inside mark =
      subst (λ (y : ℕ × Me (Option H) BoardView). Allows (IsSound stands left o) y.0 id y.1 (section_word k)
      (λ n. (n + 1) % 2 ^ 64) (takes (step y.0 (section_word k) 1 0 none) y.1)) (λ i. (sym se i, sym is i))
      (takes_allowed stands left o id v k lt inside.0 inside.1 inside.2
      (let n : ℕ = (stake_of k v).counts in let m : ℕ = (stake_of k v).marks in let p : 0 < m = mark in let goal : 0
      < n + m = omega (arith, p) in goal) mark)

  pub hands_as : (id k k' turns turns' : ℕ) (v : BoardView) → k' ≡ k → turns' ≡ turns → Counts k v → v.inside ≡ None
      → turns ≤ v.turns → Splits (IsSound stands left o) id v (hand_left k' turns' v) (handed k' turns' v)
  hands_as id k k' turns turns' v ke te counts out le =
      subst (λ (y : ℕ × ℕ). Splits (IsSound stands left o) id v (hand_left y.0 y.1 v) (handed y.0 y.1 v))
      (λ i. (sym ke i, sym te i)) (hands_allowed stands left o id k turns v counts out le)

-- two lists of stakes of one table, together
pub joined_within : (xs ys : List Stake) (zs : List Stake) (own other words now composites : ℕ) → 16 * length xs ≤ own
    → 16 * length ys ≤ other → own ≡ words → other ≡ words → words ≡ 16 * composites → now ≡ own → zs ≡ added xs ys
    → 16 * length zs ≤ now
joined_within xs ys zs own other words now composites a b c d e f g =
    let n : ℕ = length xs in let m : ℕ = length ys in let a' : 16 * n ≤ own = a in let b' : 16 * m ≤ other = b in
    let l = added_length xs ys composites (omega (arith, a', c, e)) (omega (arith, b', d, e)) in
    let z = ap (λ (x : List Stake). length x) g in omega (arith, l, z, c, e, f)
