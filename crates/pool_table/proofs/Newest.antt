-- A note that a section ends with is the newest of its object.
use Rattle.step_law.specs.Settings.{Setting}
use Rattle.std.proofs.Common.{◌≡◌, ℕ, ◌+◌, ◌-◌, List, [], ◌∷◌, map, length, Bool, true, false, cond, sym, refl, ap, ◌∙◌, arith, eq-eqb}
use Rattle.std.specs.Prelude.{Option, All, filter}
use Rattle.std.proofs.lemmas.Option.{slice_get_within}
use Rattle.std.proofs.lemmas.List.Elements.{All-cons, All-head, All-tail, All-nil, All-weaker}
use Rattle.atomic_table.specs.Table.{State}
use Rattle.pool_law.specs.declared.note.Noted.{Noted}
use Rattle.pool_law.specs.declared.note.Object.{Object}
use Rattle.pool_law.specs.Homes.{home_of, IsObjectOf}
use Rattle.pool_table.specs.declared.views.Entry.{Entry}
use Rattle.pool_table.specs.declared.views.Entry.TheVariants.{At, Ref, Busy}
use Rattle.pool_table.specs.declared.views.Layout.{Layout}
use Rattle.pool_table.specs.declared.views.Part.{Part}
use Rattle.pool_table.specs.declared.views.SeatView.{SeatView}
use Rattle.pool_table.specs.Views.{ObjectView, parts_of, is_about, object_view, object_part, is_in, inside_total}
use Rattle.pool_table.specs.Order.{IsBelow}
use Rattle.pool_table.specs.Sound.{IsSound, IsTold, Tells}
use Rattle.pool_table.proofs.Order.{IsBelowAll, IsNewest}
use Rattle.step_law.proofs.Changes.{each_unmapped}

-- a fact of what a filter lets through
pub filtered : {X : Type 0} (P : X → Type 0) (t : X → Bool) (xs : List X) → All P (filter t xs)
    → All (λ (x : X). t x ≡ true → P x) xs
filtered {X} P t [] all = All-nil (λ (x : X). t x ≡ true → P x)
filtered {X} P t (x ∷ xs) all = one (t x) refl all (λ rest. filtered P t xs rest)
  where
    one : (b : Bool) → t x ≡ b → All P (cond b (x ∷ filter t xs) (filter t xs))
        → (All P (filter t xs) → All (λ (x : X). t x ≡ true → P x) xs) → All (λ (x : X). t x ≡ true → P x) (x ∷ xs)
    one true e all more =
        All-cons (λ (x : X). t x ≡ true → P x) x xs (λ _. All-head P x (filter t xs) all)
        (more (All-tail P x (filter t xs) all))
    one false e all more =
        All-cons (λ (x : X). t x ≡ true → P x) x xs (λ on. let both : true ≡ false = sym on ∙ e in absurd (cc both))
        (more all)

module _ {H : Type 0} (stands : List ℕ → Setting → List Noted → H → Type 0) (l : Layout) where
  -- an entry of a part that the history tells is below the history's next note
  below_next : (o : Object) (h : List Noted) (limit : ℕ) (lane : Option ℕ) (n : Noted) (y : Entry)
      → (is_about l.shape (home_of l.shape o) y ≡ true → Tells o h limit lane y) → IsBelow y (At o (length h + 1) n)
  below_next o h limit lane n (At p k m) told = λ has same.
      let t = told (eq-eqb (home_of l.shape p) (home_of l.shape o) (ap (home_of l.shape) same)) in
      let in_range = slice_get_within h (k - 1) m t.1 in let pos = t.0 in omega (arith, in_range, pos)
  below_next o h limit lane n (Ref r d) told = tt
  below_next o h limit lane n (Busy b) told = tt

  pub newest_note : (s : State (Option H) SeatView) (r : IsSound stands l s) (o : Object) (fits : IsObjectOf l.shape o)
      (n : Noted) → IsNewest (At o (length (r.objects o fits).history + 1) n) s.views
  newest_note s r o fits n =
      let k = r.objects o fits in let h : List Noted = k.history in let i : ℕ = home_of l.shape o in
      let t : ℕ = inside_total (map (object_view l.shape i) s.views) in
      let limit : ObjectView → ℕ = λ (f : ObjectView). length h + (t - is_in f) in
      All-weaker (λ (v : SeatView). All (IsTold o h (limit (object_view l.shape i v))) (object_view l.shape i v).parts)
      (λ (v : SeatView). All (IsBelowAll (At o (length h + 1) n)) (parts_of v))
      (λ v told. All-weaker (λ (p : Part). IsTold o h (limit (object_view l.shape i v)) (object_part l.shape i p))
      (IsBelowAll (At o (length h + 1) n))
      (λ p one. All-weaker (λ (y : Entry). is_about l.shape i y ≡ true
      → Tells o h (limit (object_view l.shape i v)) p.number y) (λ (y : Entry). IsBelow y (At o (length h + 1) n))
      (λ y. below_next o h (limit (object_view l.shape i v)) p.number n y) p.notes
      (filtered (Tells o h (limit (object_view l.shape i v)) p.number) (is_about l.shape i) p.notes one.told))
      (parts_of v) (each_unmapped (IsTold o h (limit (object_view l.shape i v))) (object_part l.shape i) (parts_of v)
      told))
      s.views (each_unmapped (λ (f : ObjectView). All (IsTold o h (limit f)) f.parts) (object_view l.shape i) s.views
      k.told)
