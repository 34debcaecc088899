-- A view with a root place in its hands: the place is vacant.
use Rattle.step_law.specs.Settings.{Setting}
use Rattle.std.proofs.Common.{◌≡◌, ℕ, suc, ◌+◌, ◌*◌, ◌/◌, ◌%◌, ◌^◌, ◌<◌, ◌≤◌, List, [], ◌∷◌, map, set, Bool, true, false, cond, true≢false, sym, refl, ap, ◌∙◌, subst, inr, ⊎_elim, arith, eq-eqb, ne_eqb}
use Rattle.std.proofs.Math.Nat.{div-lt_iff_lt-mul}
use Rattle.std.specs.Prelude.{Option, None, All, sum_by, filter, slice_index}
use Rattle.std.proofs.lemmas.List.Elements.{All-head, All-tail, All-weaker}
use Rattle.std.proofs.lemmas.List.Sums.{sum_by-cons, sum_by-le-sum_by}
use mathlib.Core.Logic.{dite}
use native.Mathlib.Decide.{ℕ_discrete, dec_le}
use mathlib.Core.Option.{some, none}
use lib.ListN.{get_elem?}
use Rattle.atomic_table.specs.Table.{State, Me, step, keeps, Allows}
use Rattle.step_law.proofs.Changes.{each_at, sum_at, sum_none}
use Rattle.pool_law.specs.declared.run.Shape.{Shape}
use Rattle.pool_law.specs.declared.note.Did.{Did}
use Rattle.pool_law.specs.declared.note.Noted.{Noted}
use Rattle.pool_law.specs.declared.note.Object.TheVariants.{Bin}
use Rattle.pool_law.specs.declared.id.RootId.{RootId}
use Rattle.pool_law.specs.declared.note.RefDid.TheVariants.{Born}
use Rattle.pool_law.specs.Homes.{home_of}
use Rattle.pool_table.specs.Slots.{slots_of}
use Rattle.pool_table.specs.Words.{count_word_of}
use Rattle.history_laws.specs.NoteCounts.{place_lane, did_handle, did_home}
use Rattle.history_laws.proofs.Bins.{stock}
use Rattle.pool_table.specs.declared.views.Entry.{Entry}
use Rattle.pool_table.specs.declared.views.Entry.TheVariants.{At, Ref, Busy}
use Rattle.pool_table.specs.declared.views.Layout.{Layout}
use Rattle.pool_table.specs.declared.views.Part.{Part}
use Rattle.pool_table.specs.declared.views.SeatView.{SeatView}
use Rattle.pool_table.specs.Views.{parts_of, is_about, object_view, object_part, noted_weight, noted_in, noted_total}
use Rattle.pool_table.specs.Counts.{IsCounted, ref_born, ref_vacated, on_place, place_tally, ref_gain, weigh, on_root, on_exact, tally, with_ref, ref_loss, fetches, posts, HasCount}
use Rattle.pool_table.specs.Hands.{at_in, at_out, taken, put_down, InHand, IsBearing, Waits, at_birth_of, at_birth_as}
use Rattle.pool_table.specs.Sound.{IsKnown, IsSound, IsView, Stands}
use Rattle.pool_table.specs.Steps.{births}
use Rattle.pool_table.proofs.Counts.{born_kept, weigh_ref}
use Rattle.pool_table.proofs.Weights.{weigh_none, strict_sum}
use Rattle.pool_table.specs.Births.{IsBorn}
use Rattle.pool_table.proofs.Exact.{counted_of}
use Rattle.pool_table.proofs.Fitting.{born_fits}
use Rattle.pool_table.proofs.CountSteps.{own_step}
use Rattle.pool_table.proofs.Lone.{bearer_names}
use Rattle.pool_table.proofs.WordChanges.{ref_changes}
use Rattle.pool_table.proofs.CountedViews.{counted_more, settled_more, handy_less, orderly_born, exact_le}

-- what a filter leaves out weighs nothing
filter_all : (f : Entry → ℕ) (t : Entry → Bool) (es : List Entry) → All (λ (e : Entry). t e ≡ false → f e ≡ 0) es
    → sum_by f (filter t es) ≡ sum_by f es
filter_all f t [] all = refl
filter_all f t (e ∷ es) all =
    let a = sum_by-cons f e es in let b = filter_all f t es
    (All-tail (λ (e : Entry). t e ≡ false → f e ≡ 0) e es all) in
    one (t e) (All-head (λ (e : Entry). t e ≡ false → f e ≡ 0) e es all) a b
  where
    one : (b : Bool) → (b ≡ false → f e ≡ 0) → sum_by f (e ∷ es) ≡ f e + sum_by f es
        → sum_by f (filter t es) ≡ sum_by f es → sum_by f (cond b (e ∷ filter t es) (filter t es)) ≡ sum_by f (e ∷ es)
    one true h a b = let c = sum_by-cons f e (filter t es) in omega (arith, a, b, c)
    one false h a b = let z = h refl in omega (arith, a, b, z)

module _ (s : Shape) (p : ℕ) (w : Did → ℕ) (bound : (d : Did) → w d ≤ did_handle p d + did_home p d) where
  abbrev bin : ℕ
  bin = home_of s (Bin (place_lane s p))

  light : (lane : Option ℕ) (e : Entry) → Stands s lane e → is_about s bin e ≡ false
      → noted_weight (λ (n : Noted). w n.did) e ≡ 0
  light lane (At o k n) t off = ⊎_elim
      (λ (z : did_handle p n.did + did_home p n.did ≡ 0). let b = bound n.did in omega (arith, z, b))
      (λ (e : o ≡ Bin (place_lane s p)). absurd (true≢false (sym (eq-eqb (home_of s o) bin (ap (home_of s) e)) ∙ off)))
      (t.in_place.placed p)
  light lane (Ref r d) t off = refl
  light lane (Busy b) t off = refl

  in_object_parts : (ps : List Part) → All (λ (q : Part). All (Stands s q.number) q.notes) ps
      → sum_by (λ (q : Part). sum_by (noted_weight (λ (n : Noted). w n.did)) q.notes) (map (object_part s bin) ps)
      ≡ sum_by (λ (q : Part). sum_by (noted_weight (λ (n : Noted). w n.did)) q.notes) ps
  in_object_parts [] all = refl
  in_object_parts (q ∷ ps) all =
      let f : Entry → ℕ = noted_weight (λ (n : Noted). w n.did) in let g : Part → ℕ = λ (x : Part). sum_by f x.notes in
      let a = sum_by-cons g q ps in let b = sum_by-cons g (object_part s bin q) (map (object_part s bin) ps) in let c =
      in_object_parts ps (All-tail (λ (x : Part). All (Stands s x.number) x.notes) q ps all) in
      let d = filter_all f (is_about s bin) q.notes
      (All-weaker (Stands s q.number) (λ (e : Entry). is_about s bin e ≡ false → f e ≡ 0) (light q.number) q.notes
      (All-head (λ (x : Part). All (Stands s x.number) x.notes) q ps all)) in
      omega (arith, a, b, c, d)

  pub in_object_views : (vs : List SeatView) → All
      (λ (v : SeatView). All (λ (q : Part). All (Stands s q.number) q.notes) (parts_of v)) vs
      → noted_total (λ (n : Noted). w n.did) (map (object_view s bin) vs)
      ≡ sum_by (weigh (noted_weight (λ (n : Noted). w n.did))) vs
  in_object_views [] all = refl
  in_object_views (v ∷ vs) all =
      let f : Noted → ℕ = λ (n : Noted). w n.did in
      let a = sum_by-cons (noted_in f) (object_view s bin v) (map (object_view s bin) vs) in let b =
      sum_by-cons (weigh (noted_weight f)) v vs in
      let c = in_object_parts (parts_of v)
      (All-head (λ (v : SeatView). All (λ (q : Part). All (Stands s q.number) q.notes) (parts_of v)) v vs all) in
      let d = in_object_views vs (All-tail
      (λ (v : SeatView). All (λ (q : Part). All (Stands s q.number) q.notes) (parts_of v))
      v vs all) in
      omega (arith, a, b, c, d)

module _ {H : Type 0} (stands : List ℕ → Setting → List Noted → H → Type 0) (l : Layout) where
  abbrev St : Type 0
  St = State (Option H) SeatView

  pub lane_of : (p : ℕ) → p < l.shape.lanes * l.shape.handles → place_lane l.shape p < l.shape.lanes
  lane_of p lt = let h : ℕ = l.shape.handles in
      let some_handle : 0 < h = dite (ℕ_discrete h 0)
      (λ z. let e : l.shape.lanes * h ≡ l.shape.lanes * 0 = ap (λ (n : ℕ). l.shape.lanes * n) z in let a : ℕ =
      l.shape.lanes * h in let lt' : p < a = lt in let e' : a ≡ 0 = e
      ∙ (omega arith) in absurd (omega (arith, lt', e'))) (λ ne. omega (arith, ne)) in
      (div-lt_iff_lt-mul {k = h} {x = p} {y = l.shape.lanes} some_handle).1 lt

  -- in all views together, the place was taken out of its bin at most once more than it came home
  pub taken_once : (s : St) (r : IsSound stands l s) (p : ℕ) → p < l.shape.lanes * l.shape.handles
      → sum_by (weigh (at_in p)) s.views ≤ 1 + sum_by (weigh (at_out p)) s.views
  taken_once s r p lt =
      let k = r.objects (Bin (place_lane l.shape p)) (lane_of p lt) in
      let notes = All-weaker (IsView l.shape r.setting)
      (λ (v : SeatView). All (λ (q : Part). All (Stands l.shape q.number) q.notes) (parts_of v))
      (λ v fine. fine.notes) s.views r.views in
      let a = in_object_views l.shape p (did_handle p) (λ d. omega arith) s.views notes in let b =
      in_object_views l.shape p (did_home p) (λ d. omega arith) s.views notes in
      let c = k.weights (λ (n : Noted). did_handle p n.did) in let d = k.weights (λ (n : Noted). did_home p n.did) in
      let e = stock l.shape (place_lane l.shape p) p k.history k.accepted in
      omega (arith, a, b, c, d, e)

  pub hand_word : (s : St) (r : IsSound stands l s) (id p : ℕ) (v : SeatView) (lt : p < l.shape.lanes * l.shape.handles)
      → get_elem? s.views id ≡ some v → InHand p v → (r.counts p lt).vacant ≡ 1
  hand_word s r id p v lt at has =
      let k = r.counts p lt in
      let all = All-weaker (IsView l.shape r.setting) (λ (x : SeatView). put_down p x ≤ taken p x)
      (λ x fine. fine.handy p) s.views r.views in
      let strict = strict_sum (weigh (at_out p)) (weigh (on_place ref_born p)) (weigh (at_in p))
      (weigh (on_place ref_vacated p)) s.views id v all at has in
      let st = taken_once s r p lt in let b = k.all_born in let c = k.all_vacated in let f = k.free in
      let mo : ℕ = sum_by (weigh (at_out p)) s.views in let bo : ℕ = place_tally ref_born p s.views in let hi : ℕ =
      sum_by (weigh (at_in p)) s.views in let va : ℕ = place_tally ref_vacated p s.views in
      let strict' : mo + bo < hi + va = strict in let st' : hi ≤ 1 + mo = st in let b' : bo
      ≡ k.generation = b in let c' : va + 1 ≡ k.generation + k.vacant = c in
      omega (arith, strict', st', b', c', f)

  next_word : (word g c v : ℕ) → word ≡ g * 4294967296 + (2 * c + v) → c ≡ 0 → v ≡ 1 → g + 1 < 4294967296
      → ((word + 4294967297) % 2 ^ 64 ≡ word + 4294967297) × (word / 4294967296 ≡ g)
  next_word word g c v e cz vo lt = (omega (arith, e, cz, vo, lt), omega (arith, e, cz, vo))

  awake_hand : (s : St) (r : IsSound stands l s) (id p : ℕ) (v : SeatView) → get_elem? s.views id ≡ some v → InHand p v
      → All (λ (q : Part). q.number ≡ None) (parts_of v) → ⊥
  awake_hand s r id p v at has all =
      let idle = (each_at (IsView l.shape r.setting) s.views id v r.views at).unnumbered all in
      let a = weigh_none (at_in p) (parts_of v) idle.notes in let b =
      weigh_none (on_place ref_vacated p) (parts_of v) idle.notes in let c = has in
      let x : ℕ = put_down p v in let y : ℕ = taken p v in let c' : x < y = c in let z : y ≡ 0 = omega (arith, a, b) in
      omega (arith, c', z)

  exact_entry : (p g c : ℕ) (e : Entry) → on_exact ref_born p g c e ≤ on_root ref_born p g e
  exact_entry p g c (At o k n) = omega arith
  exact_entry p g c (Ref r d) = exact_le stands l ref_born p g c r d
  exact_entry p g c (Busy b) = omega arith

  -- a place in hand is one of the shape's
  pub hand_place : 0 < l.shape.handles → (s : St) (r : IsSound stands l s) (id p : ℕ) (v : SeatView)
      → get_elem? s.views id ≡ some v → InHand p v → p < l.shape.lanes * l.shape.handles
  hand_place some_handle s r id p v at has = dite (dec_le (suc p) (l.shape.lanes * l.shape.handles))
      (λ le. let n : ℕ = l.shape.lanes * l.shape.handles in let le' : suc p ≤ n = le in let g : p < n =
      omega (arith, le') in g)
      (λ gt. let n : ℕ = l.shape.lanes * l.shape.handles in
      let away : p < n → ⊥ = (λ lt. gt (let g : suc p ≤ n = omega (arith, lt) in g)) in
      let fine = each_at (IsView l.shape r.setting) s.views id v r.views at in
      let nothing : (f : Entry → ℕ) → ((lane : Option ℕ) (e : Entry) → Stands l.shape lane e → f e ≡ 0)
      → weigh f v ≡ 0 = (λ f none.
      sum_none (λ (q : Part). sum_by f q.notes) (parts_of v)
      (All-weaker (λ (q : Part). All (Stands l.shape q.number) q.notes) (λ (q : Part). sum_by f q.notes ≡ 0)
      (λ q all. sum_none f q.notes (All-weaker (Stands l.shape q.number) (λ (e : Entry). f e ≡ 0) (none q.number)
      q.notes all)) (parts_of v) fine.notes)) in
      let a = nothing (at_in p) (no_handle p some_handle away) in let b =
      nothing (on_place ref_vacated p) (no_step p away) in
      absurd (omega (arith, a, b, has)))
    where
      no_handle : (p : ℕ) → 0 < l.shape.handles → (p < l.shape.lanes * l.shape.handles → ⊥)
          → (lane : Option ℕ) (e : Entry) → Stands l.shape lane e → at_in p e ≡ 0
      no_handle p some_handle away lane (At o k n) t = ⊎_elim
          (λ (z : did_handle p n.did + did_home p n.did ≡ 0). omega (arith, z))
          (λ (e : o ≡ Bin (place_lane l.shape p)). let fits : place_lane l.shape p < l.shape.lanes =
          subst (IsKnown l.shape) e t.object in
          absurd (away ((div-lt_iff_lt-mul {k = l.shape.handles} {x = p} {y = l.shape.lanes} some_handle).0 fits)))
          (t.in_place.placed p)
      no_handle p some_handle away lane (Ref q d) t = refl
      no_handle p some_handle away lane (Busy b) t = refl

      no_step : (p : ℕ) → (p < l.shape.lanes * l.shape.handles → ⊥) → (lane : Option ℕ) (e : Entry)
          → Stands l.shape lane e → on_place ref_vacated p e ≡ 0
      no_step p away lane (At o k n) t = refl
      no_step p away lane (Ref q d) t =
          ap (λ (b : Bool). cond {A = ℕ} b (ref_vacated d) 0)
          (ne_eqb q.place p (λ e. away (subst (λ (y : ℕ). y < l.shape.lanes * l.shape.handles) e t)))
      no_step p away lane (Busy b) t = refl

  -- a view counts the root whose word it sets
  counts_it : (s : St) (r : IsSound stands l s) (id : ℕ) (v : SeatView) (q : RootId) (m : ℕ)
      → get_elem? s.views id ≡ some v → IsBorn s.views q → HasCount q (with_ref v q Born m)
  counts_it s r id v q m at born =
      let a = own_step stands l ref_gain v q Born m in let b = own_step stands l ref_loss v q Born m in
      let c = weigh_ref (fetches q) v q Born m in let d = weigh_ref (posts q) v q Born m in
      let z : fetches q (Ref q Born) ≡ 0 = refl in let y : posts q (Ref q Born) ≡ 0 = refl in
      let k = counted_of stands l s r id v at q in omega (arith, a, b, c, d, z, y, k)

  pub births_allowed : (id : ℕ) (me : Me (Option H) SeatView) (root : RootId)
      → root.place < l.shape.lanes * l.shape.handles → InHand root.place me.0
      → (q : RootId) × (q.place ≡ root.place) × (q.capacity ≡ root.capacity) × Waits q me.0
      × (q.generation < 4294967296) → ((s : St) (r : IsSound stands l s)
      (lt : root.place < l.shape.lanes * l.shape.handles) (g : ℕ) → get_elem? s.views id ≡ some me.0
      → weigh (on_root ref_born root.place g) me.0 < weigh (at_birth_of root.place g) me.0
      → g ≡ (r.counts root.place lt).generation + 1) → me.0.inside ≡ None
      → Allows (IsSound stands l) (slots_of l.shape) id me (count_word_of l.shape root.place)
      (λ n. (n + 4294967297) % 2 ^ 64)
      (births root (step (slots_of l.shape) (count_word_of l.shape root.place) 4294967297 0 none) me)
  births_allowed id me root lt has waits next out s r _ at under =
      let p : ℕ = root.place in let v : SeatView = me.0 in
      let bearing = waits_place waits in let less = waits_generation waits in let noted = waits_capacity waits in
      let this : (waits.0).generation ≡ (r.counts p lt).generation + 1 = next s r lt (waits.0).generation at less in
      let k = r.counts p lt in let vac = hand_word s r id p v lt at has in let m : ℕ = v.moves in
      let word : ℕ = slice_index s.words (count_word_of l.shape p) in let fits : k.generation + 1 < 4294967296 =
      (let low = waits_low waits in omega (arith, this, low)) in
      let over : k.count ≡ 0 = dite (ℕ_discrete k.count 0) (λ z. z)
      (λ ne. let a = k.live (omega (arith, ne)) in absurd (omega (arith, a, vac))) in
      let nx = next_word word k.generation k.count k.vacant k.word_is over vac fits in
      let r' : RootId = record { place = p; generation = word / 4294967296 + 1; capacity = root.capacity } in
      let gen : r'.generation ≡ k.generation + 1 = ap (λ (n : ℕ). n + 1) nx.1 in
      let fine = each_at (IsView l.shape r.setting) s.views id v r.views at in (
        with_ref v r' Born m,
        keeps,
        tt,
        ref_changes stands l s r id p ((word + 4294967297) % 2 ^ 64) m v r' Born lt refl out at
            (awake_hand s r id p v at has) (let n : ℕ = v.moves in let g : 0 + n ≤ n + 0 = omega arith in g)
            (counted_more stands l v r' Born m fine.counted refl) (settled_more stands l v r' Born m fine.settled refl)
            (handy_less stands l v r' m fine.handy has) (orderly_born stands l v r' m fine.roots bearing
            (subst (λ (g : ℕ). weigh (on_root ref_born p g) v < weigh (at_birth_of p g) v) (this ∙ sym gen) less)
            (let none_yet : weigh (on_exact ref_born p r'.generation root.capacity) v
            ≡ 0 =
            (let z : tally ref_born p r'.generation s.views
            ≡ 0 =
            k.later ref_born r'.generation
            (inr (let q : r'.generation ≡ k.generation + 1 = gen in omega (arith, q))) in let le =
            sum_at (weigh (on_root ref_born p r'.generation)) s.views id v at in
            let el : weigh (on_exact ref_born p r'.generation root.capacity) v ≤ weigh
            (on_root ref_born p r'.generation) v =
            sum_by-le-sum_by (λ (q : Part). sum_by (on_exact ref_born p r'.generation root.capacity) q.notes)
            (λ (q : Part). sum_by (on_root ref_born p r'.generation) q.notes) (parts_of v)
            (λ q. sum_by-le-sum_by (on_exact ref_born p r'.generation root.capacity)
            (on_root ref_born p r'.generation) q.notes
            (exact_entry p r'.generation root.capacity)) in
            let x : ℕ = tally ref_born p r'.generation s.views in let z' : x
            ≡ 0 = z in let le' : weigh (on_root ref_born p r'.generation) v ≤ x = le in
            omega (arith, z', le', el)) in
            let some_noted : 0 < weigh (at_birth_as p r'.generation root.capacity) v =
            subst (λ (g : ℕ). 0 < weigh (at_birth_as p g root.capacity) v) (this ∙ sym gen) noted in
            omega (arith, none_yet, some_noted)))
            (λ k e. absurd (cc e))
            (subst (IsCounted p (set s.views id (with_ref v r' Born m))) (sym nx.0)
            (born_kept p s.views id v r' m at refl word k gen vac fits))
            (let some_noted : 0 < weigh (at_birth_as p r'.generation root.capacity) v =
            subst (λ (g : ℕ). 0 < weigh (at_birth_as p g root.capacity) v) (this ∙ sym gen) noted in let le =
            sum_at (weigh (at_birth_as p r'.generation root.capacity)) s.views id v at in
            let g : 0 < sum_by (weigh (at_birth_as p r'.generation root.capacity)) s.views =
            omega (arith, some_noted, le) in
            g)
            (born_fits stands l s r r.one_order r' lt gen vac)
            (bearer_names r' v (subst (λ (g : ℕ). 0 < weigh (at_birth_as p g root.capacity) v) (this ∙ sym gen) noted)),
        (
          (let a : word / 4294967296 ≡ k.generation = nx.1 in let g : word / 4294967296 + 1 < 4294967296 =
              subst (λ (n : ℕ). n + 1 < 4294967296) (sym a) fits in g),
          refl,
          counts_it s r id v r' m at
              (let some_noted : 0 < weigh (at_birth_as p r'.generation root.capacity) v =
              subst (λ (g : ℕ). 0 < weigh (at_birth_as p g root.capacity) v) (this ∙ sym gen) noted in let le =
              sum_at (weigh (at_birth_as p r'.generation root.capacity)) s.views id v at in
              omega (arith, some_noted, le)),
          λ q ep ec w. let gq : q.generation
              ≡ r'.generation =
              next s r lt q.generation at (subst
              (λ (p : ℕ). weigh (on_root ref_born p q.generation) me.0 < weigh
              (at_birth_of p q.generation) me.0) ep w.generation)
              ∙ sym gen in λ i. record {
                place = sym ep i;
                generation =
                    sym gq i;
                capacity = sym ec i;
              },
        ),
      )
    where
      waits_low : (w : (q : RootId) × (q.place ≡ root.place) × (q.capacity ≡ root.capacity) × Waits q me.0
          × (q.generation < 4294967296)) → (w.0).generation < 4294967296
      waits_low (q, ep, ec, w, low) = low

      waits_place : (q : RootId) × (q.place ≡ root.place) × (q.capacity ≡ root.capacity) × Waits q me.0
          × (q.generation < 4294967296) → IsBearing root.place me.0
      waits_place (q, ep, ec, w, low) = subst (λ (p : ℕ). IsBearing p me.0) ep w.place

      waits_generation : (w : (q : RootId) × (q.place ≡ root.place) × (q.capacity ≡ root.capacity) × Waits q me.0
          × (q.generation < 4294967296)) → weigh (on_root ref_born root.place (w.0).generation) me.0 < weigh
          (at_birth_of root.place (w.0).generation) me.0
      waits_generation (q, ep, ec, w, low) =
          subst (λ (p : ℕ). weigh (on_root ref_born p q.generation) me.0 < weigh (at_birth_of p q.generation) me.0) ep
          w.generation

      waits_capacity : (w : (q : RootId) × (q.place ≡ root.place) × (q.capacity ≡ root.capacity) × Waits q me.0
          × (q.generation < 4294967296)) → 0 < weigh (at_birth_as root.place (w.0).generation root.capacity) me.0
      waits_capacity (q, ep, ec, w, low) =
          subst (λ (y : ℕ × ℕ). 0 < weigh (at_birth_as y.0 q.generation y.1) me.0) (λ i. (ep i, ec i)) w.capacity
