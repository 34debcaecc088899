-- A section that ends with no note keeps the rule.
use Rattle.step_law.specs.Settings.{Setting}
use Rattle.std.proofs.Common.{◌≡◌, ℕ, ◌+◌, ◌-◌, ◌*◌, ◌%◌, ◌^◌, ◌<◌, ◌≤◌, List, [], ◌∷◌, map, length, set, sym, refl, ap, ◌∙◌, subst, arith, length-set, le_refl}
use Rattle.std.specs.Prelude.{Option, Some, None, IfSome, slice_index}
use mathlib.Core.Option.{some, none}
use mathlib.Core.Option as maybe
use lib.ListN.{get_elem?}
use Rattle.atomic_table.specs.Table.{State, Me, step, gives, Allows}
use Rattle.atomic_table.proofs.Lists.{set_here, set_else, at_map}
use Rattle.step_law.proofs.Changes.{each_at, sum_at}
use Rattle.pool_law.specs.declared.note.Noted.{Noted}
use Rattle.pool_law.specs.declared.note.Object.{Object}
use Rattle.pool_law.specs.Homes.{home_of, IsObjectOf}
use Rattle.pool_table.proofs.Mails.{mailed_same}
use Rattle.pool_table.specs.Slots.{slots_of, slot_of}
use Rattle.pool_table.proofs.Slots.{slot_within}
use Rattle.history_laws.specs.Measures.{measures_of}
use Rattle.pool_table.specs.Words.{word_of}
use Rattle.pool_table.specs.declared.views.Layout.{Layout}
use Rattle.pool_table.specs.declared.views.Inside.{Inside}
use Rattle.pool_table.specs.declared.views.SeatView.{SeatView}
use Rattle.pool_table.specs.Views.{ObjectView, parts_of, object_view, object_part, is_in, inside_total, spent, after_leaving}
use Rattle.pool_table.specs.Hands.{MayLeave}
use Rattle.pool_table.proofs.Weights.{same_parts, counted_parts, settled_same, handy_parts, orderly_parts, enters_none}
use Rattle.pool_table.proofs.Looks.{looks_same}
use Rattle.pool_table.proofs.Births.{born_same}
use Rattle.pool_table.proofs.Tidings.{known_same}
use Rattle.pool_table.proofs.Lone.{lone_same}
use Rattle.pool_table.proofs.Order.{order_same}
use Rattle.pool_table.proofs.Sequence.{one_same}
use Rattle.pool_table.specs.Sound.{IsKept, IsSound, IsView}
use Rattle.pool_table.specs.Sections.{StandsFor}
use Rattle.pool_table.specs.Steps.{idles}
use Rattle.pool_table.proofs.Objects.{idled_kept}
use Rattle.pool_table.proofs.Tables.{changes, short}
use Rattle.pool_table.proofs.Entries.{inside_object_view, away_object_view}
use Rattle.pool_table.proofs.Marks.{calm_now}
use Rattle.pool_table.proofs.Noting.{less_one, in_section}

module _ {H : Type 0} (stands : List ℕ → Setting → List Noted → H → Type 0) (l : Layout) where
  -- a section ends with no note
  idles_it : (id : ℕ) (v : SeatView) (o : Object) (fits : IsObjectOf l.shape o) (h : List Noted) (home : H)
      → v.inside ≡ Some (record { object = o; number = length h; history = h }) → MayLeave v o
      → StandsFor stands (measures_of l.shape o) v h home
      → (s : State (Option H) SeatView) (r : IsSound stands l s) → length s.homes ≡ slots_of l.shape
      → get_elem? s.views id ≡ some v
      → ((slice_index s.words (word_of l.shape o) ≡ 2 * length h + 1)
      × IsSound stands l (record {
        words = set s.words (word_of l.shape o)
            ((slice_index s.words (word_of l.shape o) + (2 ^ 64 - 1)) % 2 ^ 64);
        homes =
            set s.homes (slot_of l.shape o) (some (Some home));
        views = set s.views id (after_leaving v);
      }))
  idles_it id v o fits h home e leave stands_for s r wide at =
      let i : ℕ = home_of l.shape o in let d : ℕ = slot_of l.shape o in let k = r.objects o fits in let x : Inside =
      record { object = o; number = length h; history = h } in
      let known = in_section stands l s r id v o fits x at e refl in let hk : h ≡ k.history = known.0 in
      let nk : length h
      ≡ length k.history = known.1 in
      let word : ℕ = slice_index s.words (word_of l.shape o) in let object_views : List ObjectView =
      map (object_view l.shape i) s.views in
      let t : ℕ = inside_total object_views in
      let vf = inside_object_view stands l i v x e refl in
      let there : get_elem? object_views id ≡ some
      (record { parts = map (object_part l.shape i) (parts_of v); inside = Some x }) =
      at_map (object_view l.shape i) s.views id v at ∙ ap some vf in
      let some_in : 1 ≤ t = sum_at is_in object_views id
      (record { parts = map (object_part l.shape i) (parts_of v); inside = Some x }) there in
      let wi : word ≡ 2 * length k.history + t = k.word_is in let al : t ≤ 1 = k.alone in
      let n : ℕ = length h in let m : ℕ = length k.history in let nm : n ≡ m = nk in let wi' : word ≡ 2 * m + t = wi in
      let w1 : word ≡ 2 * n + 1 = omega (arith, wi', nm, al, some_in) in
      let sh : m < 4611686018427387904 = short stands l s r o fits in let sh' : n < 4611686018427387904 =
      omega (arith, sh, nm) in
      let down : (word + (2 ^ 64 - 1)) % 2 ^ 64 ≡ 2 * n = less_one stands l word n sh' w1 in
      let w : SeatView = after_leaving v in
      let fine : IsView l.shape r.setting v = each_at (IsView l.shape r.setting) s.views id v r.views at in
      let wf : object_view l.shape i w ≡ record { parts = map (object_part l.shape i) (parts_of v); inside = None } =
      refl in
      let gs : stands (measures_of l.shape o) r.setting h home =
      subst (λ (g : Setting). stands (measures_of l.shape o) g h home)
      (same_setting v.setting stands_for.setting stands_for.known fine.setting_is) stands_for.stands_for in
      let kept = idled_kept stands l.shape r.setting o object_views word (2 * n) (get_elem? s.homes d) id
      (map (object_part l.shape i) (parts_of v)) x home k w1 there (calm_now stands l s r id v o fits at leave)
      (subst (λ (g : List Noted). stands (measures_of l.shape o) r.setting g home) hk gs) in
      let inside : d < length s.homes = subst (λ (z : ℕ). d < z) (sym wide) (slot_within l.shape o fits) in (
        w1,
        changes stands l s r id v w o ((word + (2 ^ 64 - 1)) % 2 ^ 64) (set s.homes d (some (Some home))) fits at
            (λ j ne. sym (away_object_view stands l j v x e (λ q. ne (sym q)))) (λ q. refl) (same_parts v w refl refl)
            (record {
              counted = counted_parts v w refl fine.counted;
              settled =
                  settled_same v w (same_parts v w refl refl) fine.settled;
              handy =
                  handy_parts v w refl fine.handy;
              roots =
                  orderly_parts v w refl fine.roots;
              enters =
                  enters_none w refl;
              setting_is =
                  fine.setting_is;
              unnumbered =
                  λ all. absurd (cc_none v.inside x e (fine.unnumbered all).inside);
              inside =
                  tt;
              notes = fine.notes;
              beside = fine.beside;
            })
            (le_refl (spent v)) (looks_same s.views id v w at refl r.looks) (order_same s.views id v w at refl r.order)
            (one_same l.shape s.views id v w at refl r.one_order) (born_same s.views id v w at refl r.born)
            (known_same s.views id v w at refl r.known)
            (lone_same s.views id v w at refl r.lone)
            (mailed_same s.views id v w at refl refl r.mailed)
            (length-set s.homes d (some (Some home))) (λ j ne. set_else s.homes d j (some (Some home)) ne)
            (subst (λ (y : ℕ × maybe.Option (maybe.Option (Option H))). IsKept stands l.shape r.setting o
            (set object_views id (object_view l.shape i w)) y.0 y.1)
            (λ q. (sym down q, sym (set_here s.homes d (some (Some home)) inside) q)) kept),
      )
    where
      same_setting : (y : Option Setting) (g : Setting) → y ≡ Some g → {gs : Setting}
          → IfSome y (λ (g : Setting). g ≡ gs) → g ≡ gs
      same_setting y g e {gs} f = subst (λ (y : Option Setting). IfSome y (λ (g : Setting). g ≡ gs)) e f

      cc_none : (y : Option Inside) (x : Inside) → y ≡ Some x → y ≡ None → ⊥
      cc_none y x e f = let g : Some x ≡ None = sym e ∙ f in absurd (cc)

  pub idles_allowed : (id : ℕ) (me : Me (Option H) SeatView) (o : Object) (slot : ℕ) (h : List Noted) (home : H)
      → IsObjectOf l.shape o → slot ≡ slot_of l.shape o
      → me.0.inside ≡ Some (record { object = o; number = length h; history = h }) → me.1 ≡ (slot, Some home) ∷ []
      → MayLeave me.0 o → StandsFor stands (measures_of l.shape o) me.0 h home
      → Allows (IsSound stands l) (slots_of l.shape) id me (word_of l.shape o) (λ n. (n + (2 ^ 64 - 1)) % 2 ^ 64)
      (idles (step (slots_of l.shape) (word_of l.shape o) 1 0 none) me)
  idles_allowed id me o slot h home fits is e has leave stands_for =
      subst (λ (y : List (ℕ × Option H)). Allows (IsSound stands l) (slots_of l.shape) id (me.0, y) (word_of l.shape o)
      (λ n. (n + (2 ^ 64 - 1)) % 2 ^ 64) (idles (step (slots_of l.shape) (word_of l.shape o) 1 0 none) (me.0, y)))
      (ap (λ (z : ℕ). (z, Some home) ∷ []) (sym is) ∙ sym has)
      (λ s r wide at _. let got = idles_it id me.0 o fits h home e leave stands_for s r wide at in (
        after_leaving me.0,
        gives,
        tt,
        got.1,
        subst (λ (y : Option Inside). IfSome y
            (λ (x : Inside). (slice_index s.words (word_of l.shape o) ≡ 2 * x.number + 1)
            × (after_leaving me.0 ≡ after_leaving me.0)
            × (◌≡◌ {A = List (ℕ × Option H)} [] []))) (sym e) (got.0, refl, refl),
      ))
