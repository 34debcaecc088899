-- A view of a sound table counts at most one root of each place, and none that it ended.
use Rattle.step_law.specs.Settings.{Setting}
use Rattle.std.proofs.Common.{◌≡◌, ℕ, List, [], sym, refl, ◌∙◌, subst, arith}
use Rattle.std.specs.Prelude.{Option, All, slice_index}
use mathlib.Core.Option.{some}
use lib.ListN.{get_elem?}
use Rattle.atomic_table.specs.Table.{State, Me, Step, Allows, stepped}
use Rattle.atomic_table.proofs.Lists.{set_here}
use Rattle.step_law.proofs.Changes.{within}
use Rattle.pool_law.specs.declared.id.RootId.{RootId}
use Rattle.pool_law.specs.declared.note.Held.{Held}
use Rattle.pool_law.specs.declared.note.Noted.{Noted}
use Rattle.pool_table.specs.declared.views.Entry.{Entry}
use Rattle.pool_table.specs.declared.views.Entry.TheVariants.{Busy}
use Rattle.pool_table.specs.declared.views.Layout.{Layout}
use Rattle.pool_table.specs.declared.views.Part.{Part}
use Rattle.pool_table.specs.declared.views.SeatView.{SeatView}
use Rattle.pool_table.specs.Views.{parts_of, with_entry}
use Rattle.pool_table.specs.Counts.{weigh, on_this, fetches, posts, ref_gain, ref_loss, ref_ended, ref_vacated, HasCount, HasToken, CountsOne}
use Rattle.pool_table.specs.Sound.{IsSound}
use Rattle.pool_table.specs.Steps.{StepRelation, counts_one}
use Rattle.pool_table.proofs.AtPlace.{CountsAt}
use Rattle.pool_table.proofs.Exact.{born_place, count_born, count_at, token_at, one_born}
use Rattle.pool_table.proofs.WordChanges.{live_word}
use Rattle.pool_table.proofs.CountSteps.{token_word}
use Rattle.pool_table.proofs.Weights.{weigh_entry, weigh_none}

-- a view without notes counts none
pub empty_one : (v : SeatView) → All (λ (p : Part). p.notes ≡ []) (parts_of v) → CountsOne v
empty_one v all = record { one = λ q r has _ _. absurd (none q has); ended = λ r _ has. none r has }
  where
    none : (r : RootId) → HasCount r v → ⊥
    none r has =
        let a = weigh_none (on_this ref_gain r) (parts_of v) all in let b = weigh_none (fetches r) (parts_of v) all in
        omega (arith, a, b, has)

-- a busy mark changes no count
pub marked_one : (v : SeatView) (b : Held) (t : ℕ) → CountsOne v → CountsOne (with_entry v (Busy b) t)
marked_one v b t k =
    record {
      one = λ q r hq hr e. k.one q r (count q hq) (count r hr) e;
      ended =
          λ r token has. k.ended r (ended r token) (count r has);
    }
  where
    same : (f : Entry → ℕ) → f (Busy b) ≡ 0 → weigh f (with_entry v (Busy b) t) ≡ weigh f v
    same f z = let a = weigh_entry f v (Busy b) t in omega (arith, a, z)

    count : (r : RootId) → HasCount r (with_entry v (Busy b) t) → HasCount r v
    count r has =
        let a = same (on_this ref_gain r) refl in let c = same (on_this ref_loss r) refl in let d =
        same (fetches r) refl in let e = same (posts r) refl in
        omega (arith, a, c, d, e, has)

    ended : (r : RootId) → HasToken r (with_entry v (Busy b) t) → HasToken r v
    ended r token =
        let a = same (on_this ref_ended r) refl in let c = same (on_this ref_vacated r) refl in
        omega (arith, a, c, token)

module _ {H : Type 0} (stands : List ℕ → Setting → List Noted → H → Type 0) (l : Layout) where
  pub sound_one : (s : State (Option H) SeatView) (r : IsSound stands l s) (id : ℕ) (v : SeatView)
      → get_elem? s.views id ≡ some v → CountsOne v
  sound_one s r id v at = record {
    one = λ q t hq ht e.
        let bq = count_born stands l s r id v at q hq in let lt = born_place stands l s r q bq in
        let a = live_word stands l s r id q.place q.generation v lt at (count_at stands l s r id v at q hq) in
        let c = live_word stands l s r id q.place t.generation v lt at
        (subst (λ (p : ℕ). CountsAt p t.generation v) (sym e) (count_at stands l s r id v at t ht)) in
        one_born stands l s r t q (count_born stands l s r id v at t ht) bq e (a.0 ∙ sym c.0);
    ended = λ q token has.
        let lt = born_place stands l s r q (count_born stands l s r id v at q has) in
        let live = (live_word stands l s r id q.place q.generation v lt at (count_at stands l s r id v at q has)).1 in
        let over = (token_word stands l s r id q.place q.generation v lt at
        (token_at stands l s r id v at q token)).2 in
        omega (arith, live, over);
  }

  -- so it is with the view that a step leaves
  pub one_allowed : (slots id : ℕ) (me : Me (Option H) SeatView) (word : ℕ) (f : ℕ → ℕ) (told : StepRelation H)
      (st : Step (Option H)) → Allows (IsSound stands l) slots id me word f (told st me)
      → Allows (IsSound stands l) slots id me word f (counts_one told st me)
  one_allowed slots id me word f told st allowed s r wide at under =
      let g = allowed s r wide at under in (
        g.0,
        g.1,
        g.2,
        g.3,
        (
          g.4,
          sound_one (stepped s word (f (slice_index s.words word)) id me.1 g.0 g.1) g.3 id g.0
              (set_here s.views id g.0 (within s.views id me.0 at)),
        ),
      )
