-- The rule after a change of one word and one view, and what the rule tells of the views.
use Rattle.step_law.specs.Settings.{Setting}
use Rattle.std.proofs.Common.{◌≡◌, ◌≢◌, ℕ, suc, ◌+◌, ◌*◌, ◌<◌, ◌≤◌, List, [], ◌∷◌, ◌++◌, map, length, set, Bool, true, false, cond, eqb, sym, refl, ap, ◌∙◌, subst, arith, length-set, append-nil, eq-eqb, get_or-set_same, get_or-set_other, lt_of_not-le}
use Rattle.std.specs.Prelude.{Option, Some, All, sum_by, count_by, filter, slice_index}
use Rattle.std.proofs.lemmas.List.Elements.{All-cons, All-head, All-tail, All-set, All-nil, filter-append}
use Rattle.std.proofs.lemmas.List.Sums.{sum_by-cons}
use Rattle.std.proofs.lemmas.List.{map-set}
use mathlib.Core.Logic.{dite}
use native.Mathlib.Decide.{ℕ_discrete, dec_le}
use mathlib.Core.Option.{some, none, some-ne-none, some-injective}
use mathlib.Core.Option as maybe
use lib.ListN.{get_elem?}
use Rattle.atomic_table.specs.Table.{State}
use Rattle.step_law.proofs.Changes.{sum_set, sum_same, sum_at, sum_two, map_same, at_mapped}
use Rattle.pool_law.specs.declared.note.Noted.{Noted}
use Rattle.pool_law.specs.declared.note.Object.{Object}
use Rattle.pool_law.specs.declared.note.Object.TheVariants.{Arena, Cache, Bin, Mail, Root}
use Rattle.pool_law.specs.Kinds.{Passing, Stays, Goes, Comes, passing}
use Rattle.pool_law.specs.Homes.{home_of, objects_of, IsObjectOf}
use Rattle.history_laws.proofs.Apart.{one_home}
use Rattle.pool_table.specs.Words.{word_of, count_word_of}
use Rattle.pool_table.proofs.Words.{object_word, object_once, object_no_count}
use Rattle.pool_table.specs.Slots.{slot_of}
use Rattle.pool_table.proofs.Slots.{slot_apart, slot_between}
use Rattle.pool_table.specs.declared.views.Entry.{Entry}
use Rattle.pool_table.specs.declared.views.Entry.TheVariants.{At, Ref, Busy}
use Rattle.pool_table.specs.declared.views.Layout.{Layout}
use Rattle.pool_table.specs.declared.views.Part.{Part}
use Rattle.pool_table.specs.declared.views.SeatView.{SeatView}
use Rattle.pool_table.specs.Views.{ObjectView, parts_of, is_at, is_turn, took_turn, is_about, is_lane, object_view, object_part, is_in, inside_total, in_object_view, total, numbered, spent}
use Rattle.pool_table.specs.Counts.{IsCounted, weigh, on_root, on_place, reached, returned}
use Rattle.pool_table.proofs.Weights.{IsWeighedSame, reached_same, returned_same}
use Rattle.pool_table.proofs.Counts.{other_kept}
use Rattle.pool_table.specs.Looks.{AreLooksRight}
use Rattle.pool_table.specs.Order.{AreInOrder}
use Rattle.pool_table.specs.Sequence.{AreInOneOrder}
use Rattle.pool_table.proofs.Sequence.{IsAlone}
use Rattle.pool_table.specs.Births.{AreBorn}
use Rattle.pool_table.specs.Capacities.{AreKnown}
use Rattle.pool_table.specs.Lone.{AreLone}
use Rattle.pool_table.specs.Letters.{AreMailed}
use Rattle.pool_table.proofs.Known.{no_home}
use Rattle.std.proofs.lemmas.Bool.{eqb-true}
use Rattle.pool_table.specs.Sound.{IsKept, IsSound, IsView, OnceBelow}

module _ {H : Type 0} (stands : List ℕ → Setting → List Noted → H → Type 0) (l : Layout) where
  abbrev pub St : Type 0
  St = State (Option H) SeatView

  -- the word and the view of one object's step change
  pub changes : (s : St) (r : IsSound stands l s) (id : ℕ) (v w : SeatView) (o : Object) (n : ℕ)
      (homes' : List (maybe.Option (Option H))) → IsObjectOf l.shape o → get_elem? s.views id ≡ some v
      → ((j : ℕ) → j ≢ home_of l.shape o → object_view l.shape j w ≡ object_view l.shape j v)
      → ((m : ℕ) → numbered m w ≡ numbered m v) → IsWeighedSame v w → IsView l.shape r.setting w → spent w ≤ spent v
      → AreLooksRight (set s.views id w) → AreInOrder (set s.views id w) → AreInOneOrder l.shape (set s.views id w)
      → AreBorn (set s.views id w) → AreKnown (set s.views id w) → AreLone (set s.views id w)
      → AreMailed (set s.views id w)
      → length homes' ≡ length s.homes → ((j : ℕ) → j ≢ slot_of l.shape o → get_elem? homes' j ≡ get_elem? s.homes j)
      → IsKept stands l.shape r.setting o
      (set (map (object_view l.shape (home_of l.shape o)) s.views) id (object_view l.shape (home_of l.shape o) w)) n
      (get_elem? homes' (slot_of l.shape o))
      → IsSound stands l (record {
        words = set s.words (word_of l.shape o) n;
        homes = homes';
        views =
            set s.views id w;
      })
  changes s r id v w o n homes' fits at elsewhere numbers refs fine spends looks order one_order born known
      lone mailed wide homes
      kept =
      let i : ℕ = home_of l.shape o in
      let d : ℕ = word_of l.shape o in
      let inside : d < length s.words = subst (λ (n : ℕ). d < n) (sym r.words) (object_word l.shape o fits) in record {
        setting = r.setting;
        words = length-set s.words d n ∙ r.words;
        homes = wide ∙ r.homes;
        between = λ j k lt low high. homes k (slot_between l.shape j i k low high) ∙ r.between j k lt low high;
        views = All-set (IsView l.shape r.setting) s.views id w fine r.views;
        lanes =
            λ m. subst (OnceBelow l.shape.lanes m) (sym (sum_same (numbered m) s.views id v w at (numbers m)))
            (r.lanes m);
        objects = λ p fits'. dite (ℕ_discrete (home_of l.shape p) i)
            (λ same. let po : o ≡ p = one_home l.shape o p fits fits' (sym same) in
            subst (λ (p : Object). IsKept stands l.shape r.setting p
            (map (object_view l.shape (home_of l.shape p)) (set s.views id w))
            (slice_index (set s.words d n) (word_of l.shape p)) (get_elem? homes' (slot_of l.shape p))) po
            (subst (λ (x : List ObjectView × ℕ). IsKept stands l.shape r.setting o x.0 x.1
            (get_elem? homes' (slot_of l.shape o)))
            (λ k. (sym (map-set (object_view l.shape i) s.views id w) k, sym (get_or-set_same s.words d n 0 inside) k))
            kept))
            (λ (ne : home_of l.shape p ≢ i). let j : ℕ = home_of l.shape p in
            subst (λ (x : List ObjectView × (ℕ × maybe.Option (maybe.Option (Option H)))). IsKept stands l.shape
            r.setting p
            x.0 x.1.0 x.1.1)
            (λ k. (
              sym (map_same (object_view l.shape j) s.views id v w at (elsewhere j ne)) k,
              (
                sym (get_or-set_other s.words d (word_of l.shape p) n 0 (object_once l.shape p o fits' fits ne)) k,
                sym
                    (homes (slot_of l.shape p) (slot_apart l.shape p o ne)) k,
              ),
            ))
            (r.objects p fits'));
        born = born;
        known = known;
        lone = lone;
        looks = looks;
        order = order;
        one_order = one_order;
        mailed = mailed;
        room = r.room;
        budget = (let a = sum_set spent s.views id v w at in let b = r.budget in let c = spends in
            let x : ℕ = sum_by spent (set s.views id w) in let y : ℕ = sum_by spent s.views in let sv : ℕ = spent v in
            let sw : ℕ = spent w in let t : ℕ = l.shape.lanes * l.turns in
            let a' : x + sv ≡ y + sw = a in let b' : y ≤ t = b in let c' : sw ≤ sv = c in let g : x ≤ t =
            omega (arith, a', b', c') in
            g);
        few = r.few;
        moved =
            subst (λ (x : ℕ × ℕ). x.0 ≤ l.shape.lanes * l.moves + x.1)
            (λ i. (
              sym (sum_same reached s.views id v w at (reached_same v w refs)) i,
              sym
                  (sum_same returned s.views id v w at (returned_same v w refs)) i,
            )) r.moved;
        counts =
            λ p lt. subst (IsCounted p (set s.views id w))
            (sym (get_or-set_other s.words d (count_word_of l.shape p) n 0
            (λ e. object_no_count l.shape o p fits lt (sym e))))
            (other_kept p s.views (set s.views id w) (slice_index s.words (count_word_of l.shape p))
            (λ f g. sum_same (weigh (on_root f p g)) s.views id v w at (refs.refs f p g))
            (λ f. sum_same (weigh (on_place f p)) s.views id v w at (refs.places f p))
            (r.counts p lt));
      }

  -- the notes of an object are no more than the turns taken
  module _ (o : Object) (fits : IsObjectOf l.shape o) where
    abbrev i : ℕ
    i = home_of l.shape o

    -- a note of an object of the shape took a turn
    took : (p : Object) (passed : Passing) → eqb (home_of l.shape p) i ≡ true → is_turn p passed ≡ true
    took (Mail a b) passed on =
        absurd (no_home l.shape a b o fits (eqb-true (objects_of l.shape) (home_of l.shape o) on))
    took (Arena a) Stays on = refl
    took (Arena a) (Goes q) on = refl
    took (Arena a) (Comes q) on = refl
    took (Cache d c) Stays on = refl
    took (Cache d c) (Goes q) on = refl
    took (Cache d c) (Comes q) on = refl
    took (Bin b) Stays on = refl
    took (Bin b) (Goes q) on = refl
    took (Bin b) (Comes q) on = refl
    took (Root p) Stays on = refl
    took (Root p) (Goes q) on = refl
    took (Root p) (Comes q) on = refl

    turn : (e : Entry) → is_about l.shape i e ≡ true → cond {A = ℕ} (is_at e) 1 0 ≤ cond {A = ℕ} (took_turn e) 1 0
    turn (At p k n) on = let e : cond {A = ℕ} (is_turn p (passing n.did)) 1 0 ≡ 1 =
        ap (λ (b : Bool). cond {A = ℕ} b 1 0) (took p (passing n.did) on) in omega (arith, e)
    turn (Ref r d) on = omega arith
    turn (Busy b) on = omega arith

    fewer : (es : List Entry) → count_by is_at (filter (is_about l.shape i) es) ≤ count_by took_turn es
    fewer [] = omega arith
    fewer (e ∷ es) =
        let a = fewer es in let b = sum_by-cons (λ (x : Entry). cond {A = ℕ} (took_turn x) 1 0) e es in
        one (is_about l.shape i e) refl a b
      where
        one : (b : Bool) → is_about l.shape i e ≡ b
            → count_by is_at (filter (is_about l.shape i) es) ≤ count_by took_turn es
            → count_by took_turn (e ∷ es) ≡ cond {A = ℕ} (took_turn e) 1 0 + count_by took_turn es
            → count_by is_at (cond b (e ∷ filter (is_about l.shape i) es) (filter (is_about l.shape i) es)) ≤ count_by
            took_turn (e ∷ es)
        one true on a b =
            let c = sum_by-cons (λ (x : Entry). cond {A = ℕ} (is_at x) 1 0) e (filter (is_about l.shape i) es) in
            let d = turn e on in omega (arith, a, b, c, d)
        one false off a b = omega (arith, a, b)

    fewer_parts : (ps : List Part) → sum_by (λ (p : Part). count_by is_at p.notes) (map (object_part l.shape i) ps)
        ≤ sum_by (λ (p : Part). count_by took_turn p.notes) ps
    fewer_parts [] = omega arith
    fewer_parts (p ∷ ps) =
        let a = fewer p.notes in let b = fewer_parts ps in let c =
        sum_by-cons (λ (x : Part). count_by took_turn x.notes) p ps in let d =
        sum_by-cons (λ (x : Part). count_by is_at x.notes) (object_part l.shape i p) (map (object_part l.shape i) ps) in
        omega (arith, a, b, c, d)

    fewer_views : (vs : List SeatView) → total is_at (map (object_view l.shape i) vs) ≤ sum_by spent vs
    fewer_views [] = omega arith
    fewer_views (v ∷ vs) =
        let a = fewer_parts (parts_of v) in let b = fewer_views vs in let c = sum_by-cons spent v vs in let d =
        sum_by-cons (in_object_view is_at) (object_view l.shape i v) (map (object_view l.shape i) vs) in
        omega (arith, a, b, c, d)

  pub short : (s : St) (r : IsSound stands l s) (o : Object) (fits : IsObjectOf l.shape o)
      → length (r.objects o fits).history < 4611686018427387904
  short s r o fits =
      let k = r.objects o fits in let n : ℕ = length k.history in
      let a : total is_at (map (object_view l.shape (home_of l.shape o)) s.views) ≡ n = k.as_many in
      let b = fewer_views o fits s.views in let c = r.budget in let d = r.room in
      let x : ℕ = total is_at (map (object_view l.shape (home_of l.shape o)) s.views) in let y : ℕ =
      sum_by spent s.views in
      let t : ℕ = l.shape.lanes * l.turns in
      let a' : x ≡ n = a in let b' : x ≤ y = b in let c' : y ≤ t = c in let d' : t < 4611686018427387904 = d in
      let g : n < 4611686018427387904 = omega (arith, a', b', c', d') in
      g

  -- some view is in the section
  pub holder : (i : ℕ) (vs : List SeatView) → 0 < inside_total (map (object_view l.shape i) vs)
      → (j : ℕ) × (u : SeatView) × (get_elem? vs j ≡ some u) × (0 < is_in (object_view l.shape i u))
  holder i [] lt = absurd (omega (arith, lt))
  holder i (v ∷ vs) lt = let c = sum_by-cons is_in (object_view l.shape i v) (map (object_view l.shape i) vs) in
      let a : ℕ = is_in (object_view l.shape i v) in let b : ℕ = inside_total (map (object_view l.shape i) vs) in
      let t : ℕ =
      inside_total (map (object_view l.shape i) (v ∷ vs)) in
      let c' : t ≡ a + b = c in let lt' : 0 < t = lt in
      dite (ℕ_discrete a 0)
      (λ e. let lt'' : 0 < b = omega (arith, c', e, lt') in let more = holder i vs lt'' in
      (suc more.0, more.1, more.2, more.3))
      (λ ne. let g : 0 < a = omega (arith, ne) in (0, v, refl, g))

  -- a part's own list of entries on an object, with one entry more
  pub object_part_skips : (i : ℕ) (p : Part) (e : Entry) → is_about l.shape i e ≡ false
      → object_part l.shape i (record { number = p.number; notes = p.notes ++ e ∷ [] }) ≡ object_part l.shape i p
  object_part_skips i p e off =
      ap (λ (es : List Entry). record { number = p.number; notes = es })
      (filter-append (is_about l.shape i) p.notes (e ∷ [])
      ∙ (ap (λ (b : Bool). filter (is_about l.shape i) p.notes ++ cond b (e ∷ []) []) off
      ∙ append-nil (filter (is_about l.shape i) p.notes)))

  pub object_part_takes : (i : ℕ) (p : Part) (e : Entry) → is_about l.shape i e ≡ true
      → object_part l.shape i (record { number = p.number; notes = p.notes ++ e ∷ [] })
      ≡ record { number = p.number; notes = (object_part l.shape i p).notes ++ e ∷ [] }
  object_part_takes i p e on =
      ap (λ (es : List Entry). record { number = p.number; notes = es })
      (filter-append (is_about l.shape i) p.notes (e ∷ [])
      ∙ ap (λ (b : Bool). filter (is_about l.shape i) p.notes ++ cond b (e ∷ []) []) on)

  -- what is counted as nothing fails everywhere
  pub none_counted : {A : Type 0} (p : A → Bool) (xs : List A) → count_by p xs ≡ 0 → All (λ (x : A). p x ≡ false) xs
  none_counted p [] e = All-nil (λ x. p x ≡ false)
  none_counted p (x ∷ xs) e =
      let c = sum_by-cons (λ y. cond {A = ℕ} (p y) 1 0) x xs in
      let a : ℕ = cond {A = ℕ} (p x) 1 0 in let b : ℕ = count_by p xs in let t : ℕ = count_by p (x ∷ xs) in
      let c' : t ≡ a + b = c in let e' : t ≡ 0 = e in let az : a ≡ 0 = omega (arith, c', e') in let bz : b
      ≡ 0 = omega (arith, c', e') in
      All-cons (λ y. p y ≡ false) x xs (off (p x) az) (none_counted p xs bz)
    where
      off : (b : Bool) → cond {A = ℕ} b 1 0 ≡ 0 → b ≡ false
      off true e = absurd (omega (arith, e))
      off false e = refl

  -- the parts of a view as an object sees them
  all_object_parts : (i m : ℕ) (ps : List Part) → All (λ (p : Part). is_lane m p.number ≡ false) ps
      → All (λ (p : Part). is_lane m p.number ≡ false) (map (object_part l.shape i) ps)
  all_object_parts i m [] all = All-nil (λ (p : Part). is_lane m p.number ≡ false)
  all_object_parts i m (p ∷ ps) all =
      All-cons (λ (p : Part). is_lane m p.number ≡ false) (object_part l.shape i p) (map (object_part l.shape i) ps)
      (All-head (λ (p : Part). is_lane m p.number ≡ false) p ps all)
      (all_object_parts i m ps (All-tail (λ (p : Part). is_lane m p.number ≡ false) p ps all))

  is_own : (m : ℕ) (n : Option ℕ) → n ≡ Some m → cond {A = ℕ} (is_lane m n) 1 0 ≡ 1
  is_own m n e =
      subst (λ (x : Option ℕ). cond {A = ℕ} (is_lane m x) 1 0 ≡ 1) (sym e)
      (ap (λ (b : Bool). cond {A = ℕ} b 1 0) (eq-eqb m m refl))

  once_at_most : (n m t : ℕ) → OnceBelow n m t → t ≤ 1
  once_at_most n m t o =
      dite (dec_le n m) (λ le. let e = o.1 le in omega (arith, e))
      (λ gt. let e = o.0 (lt_of_not-le gt) in omega (arith, e))

  -- no other part has the number of this view's own part
  pub alone_among : (s : St) (r : IsSound stands l s) (id : ℕ) (v : SeatView) → get_elem? s.views id ≡ some v
      → IsAlone s.views id v
  alone_among s r id v at m own =
      let t : ℕ = sum_by (numbered m) s.views in let most : t ≤ 1 = once_at_most l.shape.lanes m t (r.lanes m) in
      let rest : ℕ = count_by (λ (p : Part). is_lane m p.number) v.others in
      let mine : numbered m v ≡ cond {A = ℕ} (is_lane m v.own.number) 1 0 + rest =
      sum_by-cons (λ (p : Part). cond {A = ℕ} (is_lane m p.number) 1 0) v.own v.others in
      let one : cond {A = ℕ} (is_lane m v.own.number) 1 0 ≡ 1 = is_own m v.own.number own in
      let le : numbered m v ≤ t = sum_at (numbered m) s.views id v at in
      let n : ℕ = numbered m v in let mine' : n ≡ 1 + rest = omega (arith, mine, one) in let le' : n ≤ t = le in
      let none_left : rest ≡ 0 = omega (arith, mine', le', most) in (
        none_counted (λ (p : Part). is_lane m p.number) v.others none_left,
        λ j u ne e.
            let two : n + numbered m u ≤ t = sum_two (numbered m) s.views id j v u (λ k. ne (sym k)) at e in
            let k : ℕ = numbered m u in let two' : n + k ≤ t = two in let z : k
            ≡ 0 = omega (arith, mine', two', most) in
            none_counted (λ (p : Part). is_lane m p.number) (parts_of u) z,
      )

  -- no other part has the number of this view's own part, as an object sees it
  pub alone_in : (s : St) (r : IsSound stands l s) (id i m : ℕ) (v : SeatView) → get_elem? s.views id ≡ some v
      → v.own.number ≡ Some m
      → All (λ (p : Part). is_lane m p.number ≡ false) (map (object_part l.shape i) v.others)
      × ((j : ℕ) (f : ObjectView) → j ≢ id → get_elem? (map (object_view l.shape i) s.views) j ≡ some f
      → All (λ (p : Part). is_lane m p.number ≡ false) f.parts)
  alone_in s r id i m v at own =
      let t : ℕ = sum_by (numbered m) s.views in let most : t ≤ 1 = once_at_most l.shape.lanes m t (r.lanes m) in
      let rest : ℕ = count_by (λ (p : Part). is_lane m p.number) v.others in
      let mine : numbered m v ≡ cond {A = ℕ} (is_lane m v.own.number) 1 0 + rest =
      sum_by-cons (λ (p : Part). cond {A = ℕ} (is_lane m p.number) 1 0) v.own v.others in
      let one : cond {A = ℕ} (is_lane m v.own.number) 1 0 ≡ 1 = is_own m v.own.number own in
      let le : numbered m v ≤ t = sum_at (numbered m) s.views id v at in
      let n : ℕ = numbered m v in let mine' : n ≡ 1 + rest = omega (arith, mine, one) in let le' : n ≤ t = le in
      let none_left : rest ≡ 0 = omega (arith, mine', le', most) in (
        all_object_parts i m v.others (none_counted (λ (p : Part). is_lane m p.number) v.others none_left),
        λ j f ne e.
            let back = at_mapped (object_view l.shape i) s.views j f e in let u : SeatView = back.0 in
            let two : n + numbered m u ≤ t = sum_two (numbered m) s.views id j v u (λ k. ne (sym k)) at back.1 in
            let k : ℕ = numbered m u in let two' : n + k ≤ t = two in let z : k
            ≡ 0 = omega (arith, mine', two', most) in
            subst (λ (f : ObjectView). All (λ (p : Part). is_lane m p.number ≡ false) f.parts) back.2
            (all_object_parts i m (parts_of u) (none_counted (λ (p : Part). is_lane m p.number) (parts_of u) z)),
      )
