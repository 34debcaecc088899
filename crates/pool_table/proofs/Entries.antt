-- A view with one entry more, as each object sees it.
use Rattle.step_law.specs.Settings.{Setting}
use Rattle.std.proofs.Common.{◌≡◌, ◌≢◌, ℕ, ◌+◌, ◌<◌, ◌≤◌, List, [], ◌∷◌, ◌++◌, map, Bool, true, false, cond, sym, refl, ap, ◌∙◌, subst, arith, eq-eqb, ne_eqb}
use Rattle.std.specs.Prelude.{Option, Some, None, IfSome, All, sum_by, count_by}
use Rattle.std.proofs.lemmas.List.Elements.{All-cons, All-head, All-tail, All-push}
use Rattle.std.proofs.lemmas.List.Sums.{sum_by-cons, sum_by_push}
use Rattle.pool_law.specs.declared.note.Held.{Held}
use Rattle.pool_law.specs.declared.note.Noted.{Noted}
use Rattle.pool_law.specs.Homes.{home_of}
use Rattle.pool_table.specs.declared.views.Entry.{Entry}
use Rattle.pool_table.specs.declared.views.Entry.TheVariants.{At, Ref, Busy}
use Rattle.pool_table.specs.declared.views.Layout.{Layout}
use Rattle.pool_table.specs.declared.views.Part.{Part}
use Rattle.pool_table.specs.declared.views.Inside.{Inside}
use Rattle.pool_table.specs.declared.views.SeatView.{SeatView}
use Rattle.pool_table.specs.Views.{parts_of, took_turn, is_about, is_lane, object_view, object_part, inside_at, numbered, spent, with_entry}
use Rattle.pool_table.specs.Counts.{gained, lost}
use Rattle.pool_table.specs.Hands.{put_down, taken, IsOrderly}
use Rattle.pool_table.proofs.Weights.{IsWeighedSame, settled_same, enters_none}
use Rattle.pool_table.specs.Order.{IsBelow}
use Rattle.pool_table.specs.Sound.{IsView, Stands}
use Rattle.pool_table.proofs.Tables.{object_part_skips, object_part_takes}

pub under : (x : Option Setting) (gs : Setting) (P : Setting → Type 0) → IfSome x (λ (g : Setting). g ≡ gs) → P gs
    → IfSome x P
under (Some g) gs P e p = subst P (sym e) p
under None gs P e p = tt

-- a busy mark is above every note
pub unmarked_below : (b : Held) (y : Entry) → IsBelow y (Busy b)
unmarked_below b (At o j m) = tt
unmarked_below b (Ref r d) = tt
unmarked_below b (Busy a) = tt

module _ {H : Type 0} (stands : List ℕ → Setting → List Noted → H → Type 0) (l : Layout) where
  -- a view in no section, as an object sees it
  pub outside_object_view : (i : ℕ) (v : SeatView) → v.inside ≡ None
      → object_view l.shape i v ≡ record { parts = map (object_part l.shape i) (parts_of v); inside = None }
  outside_object_view i v e =
      ap (λ (x : Option Inside). record
      { parts = map (object_part l.shape i) (parts_of v); inside = inside_at l.shape i x })
      e

  pub inside_object_view : (i : ℕ) (v : SeatView) (x : Inside) → v.inside ≡ Some x → home_of l.shape x.object ≡ i
      → object_view l.shape i v ≡ record { parts = map (object_part l.shape i) (parts_of v); inside = Some x }
  inside_object_view i v x e here =
      ap (λ (y : Option Inside). record
      { parts = map (object_part l.shape i) (parts_of v); inside = inside_at l.shape i y })
      e
      ∙ ap (λ (b : Bool). record { parts = map (object_part l.shape i) (parts_of v); inside = cond b (Some x) None })
      (eq-eqb (home_of l.shape x.object) i here)

  pub away_object_view : (i : ℕ) (v : SeatView) (x : Inside) → v.inside ≡ Some x → home_of l.shape x.object ≢ i
      → object_view l.shape i v ≡ record { parts = map (object_part l.shape i) (parts_of v); inside = None }
  away_object_view i v x e away =
      ap (λ (y : Option Inside). record
      { parts = map (object_part l.shape i) (parts_of v); inside = inside_at l.shape i y })
      e
      ∙ ap (λ (b : Bool). record { parts = map (object_part l.shape i) (parts_of v); inside = cond b (Some x) None })
      (ne_eqb (home_of l.shape x.object) i away)

  pub not_idle : (gs : Setting) (v : SeatView) → IsView l.shape gs v → 0 < v.turns
      → All (λ (p : Part). p.number ≡ None) (parts_of v) → ⊥
  not_idle gs v fine lt all = let e = (fine.unnumbered all).turns in omega (arith, e, lt)

  -- the parts with one entry more are as many, with the same numbers
  same_numbers : (v : SeatView) (e : Entry) (t : ℕ) → All (λ (p : Part). p.number ≡ None) (parts_of (with_entry v e t))
      → All (λ (p : Part). p.number ≡ None) (parts_of v)
  same_numbers v e t all =
      All-cons (λ (p : Part). p.number ≡ None) v.own v.others
      (All-head (λ (p : Part). p.number ≡ None) (with_entry v e t).own v.others all)
      (All-tail (λ (p : Part). p.number ≡ None) (with_entry v e t).own v.others all)

  pub same_numbered : (v : SeatView) (e : Entry) (t m : ℕ) → numbered m (with_entry v e t) ≡ numbered m v
  same_numbered v e t m =
      let c = sum_by-cons (λ (p : Part). cond {A = ℕ} (is_lane m p.number) 1 0) (with_entry v e t).own v.others in
      let d = sum_by-cons (λ (p : Part). cond {A = ℕ} (is_lane m p.number) 1 0) v.own v.others in
      omega (arith, c, d)

  pub entry_view : (gs : Setting) (v : SeatView) (e : Entry) (t : ℕ) → IsWeighedSame v (with_entry v e t)
      → ((p g : ℕ) → lost p g (with_entry v e t) ≤ gained p g (with_entry v e t))
      → ((p : ℕ) → put_down p (with_entry v e t) ≤ taken p (with_entry v e t)) → IsOrderly (with_entry v e t)
      → IsView l.shape gs v → (All (λ (p : Part). p.number ≡ None) (parts_of v) → ⊥) → Stands l.shape v.own.number e
      → IsView l.shape gs (with_entry v e t)
  entry_view gs v e t same counted handy roots fine awake stands_there = record {
    handy = handy;
    roots = roots;
    enters = enters_none (with_entry v e t) refl;
    counted = counted;
    beside = fine.beside;
    settled = settled_same v (with_entry v e t) same fine.settled;
    setting_is = fine.setting_is;
    unnumbered = λ all. absurd (awake (same_numbers v e t all));
    inside = tt;
    notes = All-cons (λ (p : Part). All (Stands l.shape p.number) p.notes) (with_entry v e t).own v.others
        (All-push (Stands l.shape v.own.number) v.own.notes e
        (All-head (λ (p : Part). All (Stands l.shape p.number) p.notes) v.own v.others fine.notes) stands_there)
        (All-tail (λ (p : Part). All (Stands l.shape p.number) p.notes) v.own v.others fine.notes);
  }

  -- what is spent, with one entry more
  pub spent_entry : (v : SeatView) (e : Entry) (t : ℕ)
      → spent (with_entry v e t) + v.turns ≡ spent v + cond {A = ℕ} (took_turn e) 1 0 + t
  spent_entry v e t =
      let g : Part → ℕ = λ (p : Part). count_by took_turn p.notes in
      let c : sum_by g (parts_of (with_entry v e t))
      ≡ g (with_entry v e t).own + sum_by g v.others = sum_by-cons g (with_entry v e t).own v.others in
      let d : sum_by g (parts_of v) ≡ g v.own + sum_by g v.others = sum_by-cons g v.own v.others in
      let a : g (with_entry v e t).own ≡ g v.own + cond {A = ℕ} (took_turn e) 1 0 =
      sum_by_push (λ (x : Entry). cond {A = ℕ} (took_turn x) 1 0) v.own.notes e in
      omega (arith, c, d, a)

  -- the object view of another object doesn't change
  pub entry_elsewhere : (v : SeatView) (e : Entry) (t j : ℕ) → is_about l.shape j e ≡ false
      → object_view l.shape j (with_entry v e t) ≡ record
      { parts = map (object_part l.shape j) (parts_of v); inside = None }
  entry_elsewhere v e t j off =
      ap (λ (p : Part). record { parts = p ∷ map (object_part l.shape j) v.others; inside = None })
      (object_part_skips stands l j v.own e off)

  pub entry_here : (v : SeatView) (e : Entry) (t i : ℕ) → is_about l.shape i e ≡ true
      → object_view l.shape i (with_entry v e t) ≡ record {
        parts = record { number = v.own.number; notes = (object_part l.shape i v.own).notes ++ e ∷ [] } ∷ map
            (object_part l.shape i) v.others;
        inside = None;
      }
  entry_here v e t i on =
      ap (λ (p : Part). record { parts = p ∷ map (object_part l.shape i) v.others; inside = None })
      (object_part_takes stands l i v.own e on)
