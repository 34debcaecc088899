-- A step fits all steps before it, by the words that it found.
use Rattle.step_law.specs.Settings.{Setting}
use Rattle.std.proofs.Common.{◌≡◌, ℕ, ◌+◌, ◌*◌, ◌<◌, List, [], ◌∷◌, map, length, Bool, true, false, cond, eqb, sym, ap, ◌∙◌, subst, inr, arith, refl}
use Rattle.std.specs.Prelude.{Option, sum_by, count_by, filter}
use Rattle.std.proofs.lemmas.List.Sums.{sum_by-cons}
use Rattle.atomic_table.specs.Table.{State}
use Rattle.pool_law.specs.declared.run.Shape.{Shape}
use Rattle.pool_law.specs.declared.id.RootId.{RootId}
use Rattle.pool_law.specs.declared.note.Noted.{Noted}
use Rattle.pool_law.specs.declared.note.Object.{Object}
use Rattle.pool_law.specs.declared.note.Object.TheVariants.{Arena, Cache, Bin, Mail, Root}
use Rattle.pool_law.specs.Kinds.{Passing}
use Rattle.pool_law.specs.declared.note.RefDid.TheVariants.{Born, Vacated}
use Rattle.pool_law.specs.Homes.{home_of, IsObjectOf}
use Rattle.pool_table.specs.declared.views.Entry.{Entry}
use Rattle.pool_table.specs.declared.views.Entry.TheVariants.{At, Ref, Busy}
use Rattle.pool_table.specs.declared.views.Layout.{Layout}
use Rattle.pool_table.specs.declared.views.Part.{Part}
use Rattle.pool_table.specs.declared.views.SeatView.{SeatView}
use Rattle.pool_table.specs.Views.{parts_of, is_at, is_about, object_view, object_part, in_object_view, total}
use Rattle.pool_table.specs.Counts.{weigh, on_root, on_place, ref_gain, ref_loss, ref_born, ref_ended, ref_vacated, tally, place_tally}
use Rattle.pool_table.specs.Sequence.{Made, FitsNote, weigh_made, on_object, Leave, FitsCount, AreInOneOrder}
use Rattle.pool_table.specs.Sound.{IsSound}

-- the notes of one object, in all parts
module _ (s : Shape) (i : ℕ) where
  one_on : (e : Entry) (es : List Entry) → count_by is_at (filter (is_about s i) (e ∷ es))
      ≡ on_object s i e + count_by is_at (filter (is_about s i) es)
  one_on (At o k n) es = go (eqb (home_of s o) i)
    where
      go : (b : Bool) → count_by is_at (cond b (At o k n ∷ filter (is_about s i) es) (filter (is_about s i) es))
          ≡ cond {A = ℕ} b 1 0 + count_by is_at (filter (is_about s i) es)
      go true = sum_by-cons (λ (x : Entry). cond {A = ℕ} (is_at x) 1 0) (At o k n) (filter (is_about s i) es)
      go false = omega arith
  one_on (Ref r d) es = omega arith
  one_on (Busy b) es = go (eqb (home_of s b.object) i)
    where
      go : (c : Bool) → count_by is_at (cond c (Busy b ∷ filter (is_about s i) es) (filter (is_about s i) es))
          ≡ 0 + count_by is_at (filter (is_about s i) es)
      go true = sum_by-cons (λ (x : Entry). cond {A = ℕ} (is_at x) 1 0) (Busy b) (filter (is_about s i) es)
      go false = omega arith

  in_notes : (es : List Entry) → count_by is_at (filter (is_about s i) es) ≡ sum_by (on_object s i) es
  in_notes [] = refl
  in_notes (e ∷ es) =
      let a = one_on e es in let b = in_notes es in let c = sum_by-cons (on_object s i) e es in omega (arith, a, b, c)

  in_parts : (ps : List Part) → sum_by (λ (p : Part). count_by is_at p.notes) (map (object_part s i) ps)
      ≡ sum_by (λ (p : Part). sum_by (on_object s i) p.notes) ps
  in_parts [] = refl
  in_parts (p ∷ ps) =
      let a = sum_by-cons (λ (p : Part). count_by is_at p.notes) (object_part s i p) (map (object_part s i) ps) in
      let b = sum_by-cons (λ (p : Part). sum_by (on_object s i) p.notes) p ps in
      let c = in_notes p.notes in let d = in_parts ps in omega (arith, a, b, c, d)

  in_views : (vs : List SeatView) → total is_at (map (object_view s i) vs) ≡ sum_by (weigh (on_object s i)) vs
  in_views [] = refl
  in_views (v ∷ vs) =
      let a = sum_by-cons (in_object_view is_at) (object_view s i v) (map (object_view s i) vs) in
      let b = sum_by-cons (weigh (on_object s i)) v vs in
      let c = in_parts (parts_of v) in let d = in_views vs in omega (arith, a, b, c, d)

-- a note at an object of the shape fits with its next number
pub note_fits : (s : Shape) (made : List Made) (o : Object) → IsObjectOf s o → (k : ℕ) (passed : Passing)
    → k ≡ weigh_made (on_object s (home_of s o)) made + 1 → FitsNote s made o k passed
note_fits s made (Arena a) fits k passed e = e
note_fits s made (Cache d c) fits k passed e = e
note_fits s made (Bin b) fits k passed e = e
note_fits s made (Mail a b) fits k passed e = absurd fits
note_fits s made (Root p) fits k passed e = e

module _ {H : Type 0} (stands : List ℕ → Setting → List Noted → H → Type 0) (l : Layout) where
  -- the order has as many notes of an object as its history
  pub noted_so_far : (s : State (Option H) SeatView) (r : IsSound stands l s) (order : AreInOneOrder l.shape s.views)
      (o : Object) (fits : IsObjectOf l.shape o) →
      length (r.objects o fits).history ≡ weigh_made (on_object l.shape (home_of l.shape o)) order.made
  noted_so_far s r order o fits =
      let i : ℕ = home_of l.shape o in
      sym (r.objects o fits).as_many ∙ (in_views l.shape i s.views ∙ order.each (on_object l.shape i))

  module _ (s : State (Option H) SeatView) (r : IsSound stands l s) (order : AreInOneOrder l.shape s.views) (q : RootId)
      (lt : q.place < l.shape.lanes * l.shape.handles) where
    -- the order leaves as many counts of the last root as its word tells
    pub left_here : q.generation ≡ (r.counts q.place lt).generation → Leave order.made q (r.counts q.place lt).count
    left_here same =
        let k = r.counts q.place lt in
        let c : tally ref_gain q.place q.generation s.views
        ≡ tally ref_loss q.place q.generation s.views + k.count =
        subst (λ (g : ℕ). tally ref_gain q.place g s.views ≡ tally ref_loss q.place g s.views + k.count)
        (sym same) k.counts in
        sym (order.each (on_root ref_gain q.place q.generation))
        ∙ (c ∙ ap (λ (n : ℕ). n + k.count) (order.each (on_root ref_loss q.place q.generation)))

    -- a place is vacated once after its end
    pub vacated_fits : q.generation ≡ (r.counts q.place lt).generation → 0 < (r.counts q.place lt).generation
        → (r.counts q.place lt).count ≡ 0 → (r.counts q.place lt).vacant ≡ 0 → FitsCount order.made q Vacated
    vacated_fits same born over vac =
        let k = r.counts q.place lt in
        let e : tally ref_ended q.place q.generation s.views
        ≡ 1 = subst (λ (g : ℕ). tally ref_ended q.place g s.views ≡ 1) (sym same) ((k.ended born).0 over) in
        let v : tally ref_vacated q.place q.generation s.views
        ≡ 0 = subst (λ (g : ℕ). tally ref_vacated q.place g s.views ≡ 0) (sym same) (k.vacated born ∙ vac) in (
          sym (order.each (on_root ref_ended q.place q.generation))
              ∙ (e ∙ ap (λ (n : ℕ). n + 1) (sym v ∙ order.each (on_root ref_vacated q.place q.generation))),
          subst (Leave order.made q) over (left_here same),
        )

    -- a birth is of the next generation of a vacant place
    pub born_fits : q.generation ≡ (r.counts q.place lt).generation + 1 → (r.counts q.place lt).vacant ≡ 1
        → FitsCount order.made q Born
    born_fits next vac =
        let k = r.counts q.place lt in let n : ℕ = k.generation in let m : ℕ = k.vacant in
        let none : tally ref_gain q.place q.generation s.views
        ≡ 0 = k.later ref_gain q.generation (inr (omega (arith, next))) in
        let none' : tally ref_loss q.place q.generation s.views
        ≡ 0 = k.later ref_loss q.generation (inr (omega (arith, next))) in
        let a : weigh_made (on_root ref_gain q.place q.generation) order.made
        ≡ 0 = sym (order.each (on_root ref_gain q.place q.generation)) ∙ none in
        let b : weigh_made (on_root ref_loss q.place q.generation) order.made
        ≡ 0 = sym (order.each (on_root ref_loss q.place q.generation)) ∙ none' in
        let births : place_tally ref_born q.place s.views ≡ n = k.all_born in
        let x : ℕ = place_tally ref_vacated q.place s.views in let x' : x + 1 ≡ n + m = k.all_vacated in
        let vacant : x ≡ n = omega (arith, x', vac) in (
          next ∙ ap (λ (n : ℕ). n + 1) (sym births ∙ order.each (on_place ref_born q.place)),
          sym (order.each (on_place ref_vacated q.place))
              ∙ (vacant ∙ (sym births ∙ order.each (on_place ref_born q.place))),
          a ∙ ap (λ (n : ℕ). n + 0) (sym b),
        )
