-- A step on the word of a count changes no other word, and no object view.
use Rattle.step_law.specs.Settings.{Setting}
use Rattle.std.proofs.Common.{◌≡◌, ◌≢◌, ℕ, ◌+◌, ◌*◌, ◌<◌, ◌≤◌, List, ◌∷◌, map, length, set, Bool, true, false, cond, sym, refl, ap, ◌∙◌, subst, inl, inr, arith, length-set, get_or-set_same, get_or-set_other, lt_of_not-le, ◌++◌, []}
use Rattle.std.specs.Prelude.{Option, None, All, sum_by, count_by, slice_index}
use Rattle.std.proofs.lemmas.List.Elements.{All-cons, All-head, All-tail, All-push, All-set, All-weaker}
use Rattle.std.proofs.lemmas.List.Sums.{sum_by-cons, sum_by_push}
use mathlib.Core.Logic.{dite}
use native.Mathlib.Decide.{ℕ_discrete, dec_le}
use mathlib.Core.Option.{some}
use lib.ListN.{get_elem?}
use Rattle.atomic_table.specs.Table.{State}
use Rattle.step_law.proofs.Changes.{each_at, sum_set, sum_same, map_same}
use Rattle.pool_law.specs.declared.note.Noted.{Noted}
use Rattle.pool_law.specs.declared.id.RootId.{RootId}
use Rattle.pool_law.specs.declared.note.RefDid.{RefDid}
use Rattle.pool_law.specs.declared.note.RefDid.TheVariants.{Look}
use Rattle.pool_law.specs.Homes.{home_of}
use Rattle.pool_table.specs.Slots.{slot_of}
use Rattle.pool_table.specs.Words.{word_of, count_word_of}
use Rattle.pool_table.proofs.Mails.{mailed_entry}
use Rattle.pool_table.proofs.Words.{count_word, count_once, object_no_count}
use Rattle.pool_table.specs.declared.views.Entry.{Entry}
use Rattle.pool_table.specs.declared.views.Entry.TheVariants.{At, Ref, Busy}
use Rattle.pool_table.specs.declared.views.Layout.{Layout}
use Rattle.pool_table.specs.declared.views.Part.{Part}
use Rattle.pool_table.specs.declared.views.SeatView.{SeatView}
use Rattle.pool_table.specs.Views.{ObjectView, parts_of, took_turn, is_lane, object_view, object_part, inside_at, numbered, spent}
use Rattle.pool_table.specs.Counts.{IsCounted, on_root, ref_gain, ref_loss, ref_ended, ref_vacated, ref_born, on_place, weigh, tally, at_gain, at_loss, on_any, gained, lost, reached, returned, ref_kept, with_ref, ref_retain}
use Rattle.pool_table.specs.Hands.{taken, put_down, IsOrderly}
use Rattle.history_laws.specs.NoteCounts.{is_root}
use Rattle.pool_table.specs.Looks.{IsLookRight, retains_in}
use Rattle.pool_table.specs.Order.{IsBelow}
use Rattle.pool_table.proofs.Looks.{looks_entry, least_right, most_right}
use Rattle.pool_table.proofs.Order.{newest, order_entry}
use Rattle.pool_table.specs.Sequence.{FitsCount}
use Rattle.pool_table.proofs.Sequence.{one_more}
use Rattle.pool_table.proofs.Births.{born_entry}
use Rattle.pool_table.proofs.Tidings.{known_entry}
use Rattle.pool_table.specs.Lone.{names}
use Rattle.pool_table.proofs.Lone.{lone_entry, names_step}
use Rattle.pool_table.specs.Births.{IsBorn}
use Rattle.pool_table.specs.Sound.{IsKept, IsSound, IsView, Stands, OnceBelow}
use Rattle.pool_table.proofs.AtPlace.{CountsAt}
use Rattle.pool_table.proofs.Counts.{weigh_ref, sums_ref, other_place, place_elsewhere, other_kept}
use Rattle.pool_table.proofs.Weights.{weigh_none, strict_sum, enters_none}
use Rattle.pool_table.proofs.Tables.{object_part_skips, alone_among}
use Rattle.pool_table.proofs.Transit.{transit}
use Rattle.pool_table.proofs.Beyond.{few_counts}

-- a step on a count is above every note
counts_below : (r : RootId) (d : RefDid) (y : Entry) → IsBelow y (Ref r d)
counts_below r d (At o j m) = tt
counts_below r d (Ref q e) = tt
counts_below r d (Busy b) = tt

module _ {H : Type 0} (stands : List ℕ → Setting → List Noted → H → Type 0) (l : Layout) where
  abbrev St : Type 0
  St = State (Option H) SeatView

  -- a view that counts a root: the word is of its generation, and live
  pub live_word : (s : St) (r : IsSound stands l s) (id p g : ℕ) (v : SeatView)
      (lt : p < l.shape.lanes * l.shape.handles) → get_elem? s.views id ≡ some v → CountsAt p g v
      → (g ≡ (r.counts p lt).generation) × (0 < (r.counts p lt).count)
  live_word s r id p g v lt at has =
      let k = r.counts p lt in
      let all = All-weaker (IsView l.shape r.setting) (λ (x : SeatView). lost p g x ≤ gained p g x)
      (λ x fine. fine.counted p g) s.views r.views in
      let strict = strict_sum (weigh (on_root ref_loss p g)) (weigh (at_loss p g)) (weigh (on_root ref_gain p g))
      (weigh (at_gain p g)) s.views id v all at has in
      let tr = transit stands l s r p g in
      let a : ℕ = tally ref_loss p g s.views in let b : ℕ = sum_by (weigh (at_loss p g)) s.views in let c : ℕ =
      tally ref_gain p g s.views in let d : ℕ = sum_by (weigh (at_gain p g)) s.views in
      let strict' : a + b < c + d = strict in let tr' : d ≤ b = tr in let more : a < c = omega (arith, strict', tr') in
      let pos : g ≢ 0 = (λ e. let z : c ≡ 0 = k.later ref_gain g (inl e) in omega (arith, z, more)) in
      let low : g ≤ k.generation = dite (dec_le g k.generation) (λ le. le)
      (λ gt. let z : c ≡ 0 = k.later ref_gain g (inr (lt_of_not-le gt)) in absurd (omega (arith, z, more))) in
      let same : g ≡ k.generation = dite (ℕ_discrete g k.generation) (λ e. e)
      (λ ne. let z : c ≡ a = (k.past g (omega (arith, pos)) (omega (arith, low, ne))).0 in
      absurd (omega (arith, z, more))) in
      let counts : c ≡ a + k.count = subst
      (λ (g : ℕ). tally ref_gain p g s.views ≡ tally ref_loss p g s.views + k.count) (sym same) k.counts in
      (same, omega (arith, counts, more))

  -- no count passes the moves
  pub small_count : (s : St) (r : IsSound stands l s) (p : ℕ) (lt : p < l.shape.lanes * l.shape.handles)
      → (r.counts p lt).count ≤ 1073741824
  small_count s r p lt =
      let notes = All-weaker (IsView l.shape r.setting)
      (λ (v : SeatView). All (λ (q : Part). All (Stands l.shape q.number) q.notes) (parts_of v))
      (λ v fine. fine.notes) s.views r.views in
      let a = few_counts l.shape s.views (λ p. slice_index s.words (count_word_of l.shape p)) (l.shape.lanes * l.moves)
      notes r.counts r.moved p lt in let b = r.few in
      let c : ℕ = (r.counts p lt).count in let t : ℕ = l.shape.lanes * l.moves in let a' : c ≤ t + 1 = a in
      let b' : t < 1073741824 = b in
      omega (arith, a', b')

  object_view_ref : (j : ℕ) (v : SeatView) (r : RootId) (d : RefDid) (m : ℕ)
      → object_view l.shape j (with_ref v r d m) ≡ object_view l.shape j v
  object_view_ref j v r d m =
      ap (λ (p : Part). record {
        parts = p ∷ map (object_part l.shape j) v.others;
        inside =
            inside_at l.shape j v.inside;
      })
      (object_part_skips stands l j v.own (Ref r d) refl)

  -- the word of a root place and one view change
  pub ref_changes : (s : St) (r : IsSound stands l s) (id p n m : ℕ) (v : SeatView) (root : RootId) (d : RefDid)
      → p < l.shape.lanes * l.shape.handles → root.place ≡ p → v.inside ≡ None → get_elem? s.views id ≡ some v
      → (All (λ (q : Part). q.number ≡ None) (parts_of v) → ⊥) → ref_retain d + m ≤ v.moves + ref_kept d
      → ((p g : ℕ) → lost p g (with_ref v root d m) ≤ gained p g (with_ref v root d m))
      → ((p g : ℕ) → weigh (on_root ref_vacated p g) (with_ref v root d m) ≤ weigh (on_root ref_ended p g)
      (with_ref v root d m)) → ((p : ℕ) → put_down p (with_ref v root d m) ≤ taken p (with_ref v root d m))
      → IsOrderly (with_ref v root d m)
      → ((k : ℕ) → d ≡ Look k → IsLookRight root.place root.generation k
      (retains_in (set s.views id (with_ref v root d m)) root.place root.generation)
      (v.own.notes ++ Ref root d ∷ []) v.own.notes)
      → IsCounted p (set s.views id (with_ref v root d m)) n → IsBorn s.views root
      → FitsCount r.one_order.made root d → 0 < weigh (names root) v
      → IsSound stands l (record {
        words = set s.words (count_word_of l.shape p) n;
        homes = s.homes;
        views =
            set s.views id (with_ref v root d m);
      })
  ref_changes s r id p n m v root d lt rp out at awake moves counted settled handy roots look kept born fit named =
      let w : SeatView = with_ref v root d m in let d' : ℕ = count_word_of l.shape p in
      let inside : d' < length s.words = subst (λ (n : ℕ). d' < n) (sym r.words) (count_word l.shape p lt) in
      let fine : IsView l.shape r.setting v = each_at (IsView l.shape r.setting) s.views id v r.views at in
      let light : (f : Entry → ℕ) → f (Ref root d) ≡ 0
      → sum_by (weigh f) (set s.views id w) ≡ sum_by (weigh f) s.views =
      (λ f e. let a = sums_ref f s.views id v root d m at in omega (arith, a, e)) in
      let made : count_by took_turn w.own.notes ≡ count_by took_turn v.own.notes =
      (let a = sum_by_push (λ (x : Entry). cond {A = ℕ} (took_turn x) 1 0) v.own.notes (Ref root d) in
      let b : cond {A = ℕ} (took_turn (Ref root d)) 1 0 ≡ 0 = refl in omega (arith, a, b)) in
      record {
        setting = r.setting;
        words = length-set s.words d' n ∙ r.words;
        homes = r.homes;
        between = r.between;
        views = All-set (IsView l.shape r.setting) s.views id w (record {
          setting_is = fine.setting_is;
          unnumbered =
              λ all. absurd (awake (All-cons (λ (x : Part). x.number ≡ None) v.own v.others
              (All-head (λ (x : Part). x.number ≡ None) w.own v.others all)
              (All-tail (λ (x : Part). x.number ≡ None) w.own v.others all)));
          inside = fine.inside;
          notes =
              All-cons (λ (x : Part). All (Stands l.shape x.number) x.notes) w.own v.others
              (All-push (Stands l.shape v.own.number) v.own.notes (Ref root d)
              (All-head (λ (x : Part). All (Stands l.shape x.number) x.notes) v.own v.others fine.notes)
              (let n : ℕ = l.shape.lanes * l.shape.handles in let lt' : p < n = lt in
              let g : root.place < n = omega (arith, lt', rp) in
              g)) (All-tail (λ (x : Part). All (Stands l.shape x.number) x.notes) v.own v.others
              fine.notes);
          counted = counted;
          beside = fine.beside;
          settled = settled;
          handy = handy;
          roots = roots;
          enters = enters_none w out;
        }) r.views;
        lanes =
            λ k. subst (OnceBelow l.shape.lanes k)
            (sym (sum_same (numbered k) s.views id v w at
            (let a = sum_by-cons (λ (x : Part). cond {A = ℕ} (is_lane k x.number) 1 0) w.own v.others in let b =
            sum_by-cons (λ (x : Part). cond {A = ℕ} (is_lane k x.number) 1 0) v.own v.others in
            omega (arith, a, b)))) (r.lanes k);
        objects = λ o fits. let i : ℕ = home_of l.shape o in
            subst (λ (y : List ObjectView × ℕ). IsKept stands l.shape r.setting o y.0 y.1
            (get_elem? s.homes (slot_of l.shape o)))
            (λ x. (
              sym (map_same (object_view l.shape i) s.views id v w at (object_view_ref i v root d m)) x,
              sym
                  (get_or-set_other s.words d' (word_of l.shape o) n 0 (object_no_count l.shape o p fits lt)) x,
            ))
            (r.objects o fits);
        born =
            born_entry s.views id v w (Ref root d) at refl
            (λ q is. subst (IsBorn s.views) (let f : root ≡ q = cc is in f) born) r.born;
        known = known_entry s.views id v w (Ref root d) at refl (λ q lt. absurd (omega (arith, lt))) r.known;
        lone = lone_entry s.views id v w (Ref root d) at refl (names_step s.views v root d named) r.lone;
        looks =
            looks_entry s.views id v w (Ref root d) at refl
            (λ q k is. subst (λ (y : RootId). IsLookRight y.place y.generation k
            (retains_in (set s.views id w) y.place y.generation) (v.own.notes ++ Ref root d ∷ []) v.own.notes)
            (let f : root ≡ q = cc is in f) (look k (let f : d ≡ Look k = cc is in f))) r.looks;
        order =
            order_entry s.views id v w (Ref root d) at refl (newest (Ref root d) (counts_below root d) s.views) r.order;
        one_order =
            one_more l.shape s.views id v w (Ref root d) at refl (alone_among stands l s r id v at) r.one_order fit;
        mailed = mailed_entry s.views id v w (Ref root d) at refl refl refl refl r.mailed;
        room = r.room;
        budget =
            subst (λ (x : ℕ). x ≤ l.shape.lanes * l.turns)
            (sym (sum_same spent s.views id v w at
            (let a = sum_by-cons (λ (x : Part). count_by took_turn x.notes) w.own v.others in let b =
            sum_by-cons (λ (x : Part). count_by took_turn x.notes) v.own v.others in
            omega (arith, a, b, made)))) r.budget;
        few = r.few;
        moved =
            (let a = sum_set reached s.views id v w at in let b = weigh_ref (on_any ref_retain) v root d m in let f =
            sum_set returned s.views id v w at in let h =
            weigh_ref (on_any ref_kept) v root d m in let c = r.moved in
            let x : ℕ = sum_by reached (set s.views id w) in let y : ℕ = sum_by reached s.views in let rv : ℕ =
            reached v in let rw : ℕ = reached w in let t : ℕ = l.shape.lanes * l.moves in
            let x2 : ℕ = sum_by returned (set s.views id w) in let y2 : ℕ = sum_by returned s.views in let kv : ℕ =
            returned v in let kw : ℕ = returned w in
            let f' : x2 + kv ≡ y2 + kw = f in let h' : kw ≡ kv + ref_kept d = h in
            let a' : x + rv ≡ y + rw = a in let c' : y ≤ t + y2 = c in let up : rw ≤ rv + ref_kept d =
            omega (arith, b, moves) in let g : x ≤ t + x2 = omega (arith, a', c', up, f', h') in
            g);
        counts = λ p' lt'. dite (ℕ_discrete p' p)
            (λ e. subst (λ (x : ℕ). IsCounted x (set s.views id w)
            (slice_index (set s.words d' n) (count_word_of l.shape x))) (sym e)
            (subst (IsCounted p (set s.views id w)) (sym (get_or-set_same s.words d' n 0 inside)) kept))
            (λ ne. subst (IsCounted p' (set s.views id w))
            (sym (get_or-set_other s.words d' (count_word_of l.shape p') n 0 (count_once l.shape p' p lt' lt ne)))
            (other_kept p' s.views (set s.views id w) (slice_index s.words (count_word_of l.shape p'))
            (λ f g. light (on_root f p' g) (other_place f p' g root d (λ e. ne (sym e ∙ rp))))
            (λ f. light (on_place f p') (place_elsewhere f p' root d (λ e. ne (sym e ∙ rp))))
            (r.counts p' lt')));
      }

  -- what a look answers is right when it is made
  pub look_right : (s : St) (r : IsSound stands l s) (id : ℕ) (v : SeatView) (root : RootId) (m n : ℕ)
      (lt : root.place < l.shape.lanes * l.shape.handles) → get_elem? s.views id ≡ some v
      → CountsAt root.place root.generation v → n ≡ (r.counts root.place lt).count →
      IsLookRight root.place root.generation n
      (retains_in (set s.views id (with_ref v root (Look n) m)) root.place root.generation)
      (v.own.notes ++ Ref root (Look n) ∷ []) v.own.notes
  look_right s r id v root m n lt at has is =
      let p : ℕ = root.place in let g : ℕ = root.generation in let k = r.counts p lt in let live =
      live_word s r id p g v lt at has in
      let counts : tally ref_gain p g s.views ≡ tally ref_loss p g s.views + n =
      subst (λ (y : ℕ × ℕ). tally ref_gain p y.0 s.views ≡ tally ref_loss p y.0 s.views + y.1)
      (λ q. (sym live.0 q, sym is q)) k.counts in
      let pos : 0 < k.generation = dite (ℕ_discrete k.generation 0)
      (λ z. let a = (k.unborn z).0 in let b = live.1 in absurd (omega (arith, a, b))) (λ ne. omega (arith, ne)) in
      let born : tally ref_born p g s.views ≡ 1 = subst (λ (y : ℕ). tally ref_born p y s.views ≡ 1) (sym live.0)
      (k.born k.generation pos (omega arith)) in
      let all = All-weaker (IsView l.shape r.setting) (λ (x : SeatView). lost p g x ≤ gained p g x)
      (λ x fine. fine.counted p g) s.views r.views in
      let fine = each_at (IsView l.shape r.setting) s.views id v r.views at in
      let f : Entry → ℕ = on_root ref_retain p g in
      let none_more : f (Ref root (Look n)) ≡ 0 = weighs_none (is_root p g root) in
      let own = sum_by_push f v.own.notes (Ref root (Look n)) in let sums =
      sums_ref f s.views id v root (Look n) m at in
      let most = most_right p g n s.views id v at counts born in record {
        least = least_right p g n s.views id v at all (transit stands l s r p g) counts (fine.beside p g);
        most =
            (let x : ℕ = tally ref_retain p g (set s.views id (with_ref v root (Look n) m)) in let y : ℕ =
            tally ref_retain p g s.views in let sums' : x
            ≡ y + f (Ref root (Look n)) = sums in omega (arith, most, own, sums', none_more));
      }
    where
      weighs_none : (b : Bool) → cond {A = ℕ} b 0 0 ≡ 0
      weighs_none true = refl
      weighs_none false = refl

  pub awake_count : (s : St) (r : IsSound stands l s) (id p g : ℕ) (v : SeatView) → get_elem? s.views id ≡ some v
      → CountsAt p g v → All (λ (q : Part). q.number ≡ None) (parts_of v) → ⊥
  awake_count s r id p g v at has all =
      let idle = (each_at (IsView l.shape r.setting) s.views id v r.views at).unnumbered all in
      let a = weigh_none (on_root ref_gain p g) (parts_of v) idle.notes in let b =
      weigh_none (at_gain p g) (parts_of v) idle.notes in let c = has in
      let x : ℕ = gained p g v in let y : ℕ = lost p g v in let c' : y < x = c in let z : x ≡ 0 = omega (arith, a, b) in
      omega (arith, c', z)
