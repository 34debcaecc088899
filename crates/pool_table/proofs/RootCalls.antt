-- The claim of a root place as its call asks for it: by a view that may be in its section, the place is one of
-- the shape's.
use Rattle.std.proofs.Common.{◌≡◌, ℕ, ◌*◌, ◌<◌, List, sym, subst, inl, inr, ⊎_elim}
use Rattle.step_law.specs.Settings.{Setting}
use Rattle.std.specs.Prelude.{Option, Some, IfSome, bit_or}
use mathlib.Core.Option.{some, none}
use lib.ListN.{get_elem?}
use Rattle.atomic_table.specs.Table.{Me, State, step, Allows}
use Rattle.pool_law.specs.declared.note.Noted.{Noted}
use Rattle.pool_law.specs.declared.note.Object.{Object}
use Rattle.pool_law.specs.declared.note.Object.TheVariants.{Root}
use Rattle.pool_law.specs.Homes.{IsObjectOf}
use Rattle.pool_table.specs.Slots.{slots_of}
use Rattle.pool_table.specs.declared.views.Layout.{Layout}
use Rattle.pool_table.specs.declared.views.SeatView.{SeatView}
use Rattle.pool_table.specs.declared.views.Inside.{Inside}
use Rattle.step_law.proofs.Changes.{each_at}
use Rattle.pool_table.specs.Words.{word_of}
use Rattle.pool_table.specs.Hands.{MayEnter}
use Rattle.pool_table.specs.Counts.{HasCount, HasToken}
use Rattle.pool_table.specs.Sound.{IsSound, IsView, WasHeld}
use Rattle.pool_table.specs.Steps.{IsFree, claims, marks_claims}
use Rattle.pool_table.proofs.Exact.{born_place, count_born, token_born}
use Rattle.pool_table.proofs.Hands.{hand_place}
use Rattle.pool_table.proofs.Claimed.{claims_allowed}
use Rattle.pool_table.proofs.Marks.{marks_allowed}

one_place : (p q : ℕ) → Root p ≡ Root q → p ≡ q
one_place p q e = cc e

module _ {H : Type 0} (stands : List ℕ → Setting → List Noted → H → Type 0) (l : Layout) where
  -- a view that may be in the section of a root place tells that there is such a place
  pub enters_fits : 0 < l.shape.handles → (s : State (Option H) SeatView) (r : IsSound stands l s) (id p : ℕ)
      (v : SeatView) → get_elem? s.views id ≡ some v → MayEnter p v → p < l.shape.lanes * l.shape.handles
  enters_fits some_handle s r id p v at (inl x) =
      subst (λ (n : ℕ). n < l.shape.lanes * l.shape.handles) x.1
      (⊎_elim
      (λ (has : HasCount x.0 v). born_place stands l s r x.0 (count_born stands l s r id v at x.0 has))
      (λ (has : HasToken x.0 v). born_place stands l s r x.0 (token_born stands l s r id v at x.0 has))
      x.2)
  enters_fits some_handle s r id p v at (inr hand) = hand_place stands l some_handle s r id p v at hand

  -- what a step on the word of a root place asks
  at_place : (id : ℕ) (me : Me (Option H) SeatView) (p word : ℕ) (f : ℕ → ℕ)
      (then : ℕ → Me (Option H) SeatView → Type 0) → 0 < l.shape.handles → MayEnter p me.0
      → (p < l.shape.lanes * l.shape.handles → word ≡ word_of l.shape (Root p))
      → (p < l.shape.lanes * l.shape.handles → Allows (IsSound stands l) (slots_of l.shape) id me
      (word_of l.shape (Root p)) f then) → Allows (IsSound stands l) (slots_of l.shape) id me word f then
  at_place id me p word f then some_handle may is allowed s r wide at under =
      let lt = enters_fits some_handle s r id p me.0 at may in
      subst (λ (w : ℕ). Allows (IsSound stands l) (slots_of l.shape) id me w f then) (sym (is lt)) (allowed lt) s r wide
      at under

  module _ (key l' : Layout) (p : ℕ) (o : Object) (slots word id : ℕ) (me : Me (Option H) SeatView) (ke : key ≡ l)
      (se : slots ≡ slots_of l.shape) (oe : o ≡ Root p) (le : l' ≡ l) (some_handle : 0 < l.shape.handles)
      (is : p < l.shape.lanes * l.shape.handles → word ≡ word_of l.shape (Root p)) (out : IsFree me)
      (turn : 0 < me.0.turns) (may : MayEnter p me.0) where
    enters_by : (q : ℕ) → Root p ≡ Root q → MayEnter q me.0
    enters_by q e = subst (λ (n : ℕ). MayEnter n me.0) (one_place p q e) may

    pub claims_place : Allows (IsSound stands key) slots id me word (λ n. bit_or n 1)
        (claims stands l' o (step slots word 1 0 none) me)
    claims_place =
        subst (λ (y : Layout × ℕ × Object × Layout). Allows (IsSound stands y.0) y.1 id me word (λ n. bit_or n 1)
        (claims stands y.3 y.2 (step y.1 word 1 0 none) me)) (λ q. (sym ke q, sym se q, sym oe q, sym le q))
        (at_place id me p word (λ n. bit_or n 1) (claims stands l (Root p) (step (slots_of l.shape) word 1 0 none) me)
        some_handle may is (λ lt. claims_allowed stands l some_handle id me (Root p) lt out turn enters_by))

    pub marks_place : Allows (IsSound stands key) slots id me word (λ n. bit_or n 1)
        (marks_claims stands l' o (step slots word 1 0 none) me)
    marks_place =
        subst (λ (y : Layout × ℕ × Object × Layout). Allows (IsSound stands y.0) y.1 id me word (λ n. bit_or n 1)
        (marks_claims stands y.3 y.2 (step y.1 word 1 0 none) me)) (λ q. (sym ke q, sym se q, sym oe q, sym le q))
        (at_place id me p word (λ n. bit_or n 1)
        (marks_claims stands l (Root p) (step (slots_of l.shape) word 1 0 none) me) some_handle may is
        (λ lt. marks_allowed stands l some_handle id me (Root p) lt out turn enters_by tt))

  -- where a seat was in the section of a root place, there is such a place
  pub held_place : (p n : ℕ) (v : SeatView) → WasHeld stands l (Root p) n v → p < l.shape.lanes * l.shape.handles
  held_place p n v w =
      subst (IsObjectOf l.shape) w.object
      (fitting w.holder.inside w.section w.inside
      (each_at (IsView l.shape w.sound.setting) w.moment.views w.other w.holder w.sound.views w.holds).inside)
    where
      fitting : (y : Option Inside) (x : Inside) → y ≡ Some x → IfSome y (λ (x : Inside). IsObjectOf l.shape x.object)
          → IsObjectOf l.shape x.object
      fitting y x e f = subst (λ (y : Option Inside). IfSome y (λ (x : Inside). IsObjectOf l.shape x.object)) e f
