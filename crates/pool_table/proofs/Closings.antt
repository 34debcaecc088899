-- What is known when the table is closed with the seat that has the parts of all lanes.
use Rattle.step_law.specs.Settings.{Setting}
use Rattle.std.proofs.Common.{◌≡◌, ◌≢◌, ℕ, ◌+◌, ◌-◌, ◌*◌, ◌<◌, ◌≤◌, List, [], ◌∷◌, map, length, get_or, Bool, false, true≢false, sym, refl, ap, ◌∙◌, subst, arith, eq-eqb, lt_of_not-le}
use Rattle.std.specs.Prelude.{Option, Some, None, All, sum_by, slice_index}
use mathlib.Core.Logic.{dite}
use native.Mathlib.Decide.{dec_le}
use mathlib.Core.Option.{some}
use lib.ListN.{get_elem?}
use Rattle.atomic_table.specs.Table.{State, Final, Seen}
use Rattle.atomic_table.proofs.Lists.{at_map}
use Rattle.step_law.proofs.Changes.{each_at, sum_at, sum_two, sum_only, at_mapped}
use Rattle.pool_law.specs.declared.note.Noted.{Noted}
use Rattle.pool_law.specs.Homes.{home_of, objects_of}
use Rattle.history_laws.specs.Measures.{measures_of}
use Rattle.history_laws.proofs.Apart.{home_within}
use Rattle.pool_table.specs.Words.{listed_of, word_at, word_of, count_word_of}
use Rattle.pool_table.specs.Slots.{slot_at, slot_of, IsEmptyBetween}
use Rattle.pool_table.proofs.Numbered.{object_at}
use Rattle.pool_table.proofs.Words.{object_listed, count_listed}
use Rattle.pool_table.specs.declared.views.Entry.{Entry}
use Rattle.pool_table.specs.declared.views.Inside.{Inside}
use Rattle.pool_table.specs.declared.views.Layout.{Layout}
use Rattle.pool_table.specs.declared.views.Part.{Part}
use Rattle.pool_table.specs.declared.views.SeatView.{SeatView}
use Rattle.pool_table.specs.Views.{ObjectView, parts_of, is_at, is_lane, is_numbered, object_view, object_part, inside_at, is_in, inside_total, in_object_view, total, numbered, one_if}
use Rattle.std.proofs.lemmas.List.Sums.{sum_by-cons}
use Rattle.std.proofs.lemmas.List.Elements.{All-cons, All-nil}
use Rattle.pool_table.specs.Counts.{IsCounted, weigh, on_root, on_place, place_tally, ref_retain, ref_kept}
use Rattle.pool_table.specs.Letters.{sent_as, received_as, IsInTurn}
use Rattle.pool_table.proofs.Mails.{turn_empty}
use Rattle.pool_table.proofs.Looks.{looks_regroup}
use Rattle.pool_table.proofs.Order.{order_regroups}
use Rattle.pool_table.proofs.Sequence.{one_regroups}
use Rattle.pool_table.proofs.Births.{born_regroups}
use Rattle.pool_table.proofs.Exact.{one_born}
use Rattle.pool_table.specs.Births.{IsBorn}
use Rattle.pool_table.specs.Hands.{at_birth_as, from_arena, to_arena, from_cache, to_cache, from_place, to_place, weight_taken, weight_put_down, uses_come, uses_gone}
use Rattle.history_laws.specs.NoteCounts.{is_taking, uses_in}
use Rattle.pool_law.specs.declared.id.RegionId.{RegionId}
use Rattle.pool_table.proofs.Ledgers.{sum_add}
use Rattle.pool_table.proofs.Regions.{in_one_hold}
use Rattle.pool_law.specs.declared.id.RootId.{RootId}
use Rattle.pool_table.proofs.WordChanges.{small_count}
use Rattle.pool_table.proofs.Counts.{other_kept}
use Rattle.pool_table.proofs.Weights.{weigh_none}
use Rattle.pool_table.specs.Sound.{IsSound, IsView, IsTold, IsIdle}
use Rattle.pool_table.specs.Closed.{HasAllLanes, IsClosed}
use Rattle.pool_table.proofs.Tables.{none_counted}
use Rattle.pool_table.proofs.OpeningSeats.{empty_object_parts, counts_none}
use Rattle.pool_table.proofs.Entries.{under}

module _ {H : Type 0} (stands : List ℕ → Setting → List Noted → H → Type 0) (l : Layout) where
  abbrev St : Type 0
  St = State (Option H) SeatView

  -- another view has no numbered part
  others_unnumbered : (s : St) (r : IsSound stands l s) (id : ℕ) (v : SeatView) → get_elem? s.views id ≡ some v
      → HasAllLanes l v → (j : ℕ) (u : SeatView) → j ≢ id → get_elem? s.views j ≡ some u → (m : ℕ) → numbered m u ≡ 0
  others_unnumbered s r id v at all j u ne at' m =
      let t : ℕ = sum_by (numbered m) s.views in let a : ℕ = numbered m v in let b : ℕ = numbered m u in
      dite (dec_le l.shape.lanes m)
      (λ le. let z : t ≡ 0 = (r.lanes m).1 le in let q : b ≤ t = sum_at (numbered m) s.views j u at' in let g : b
      ≡ 0 = omega (arith, z, q) in g)
      (λ gt. let lt : m < l.shape.lanes = lt_of_not-le gt in let o : t ≡ 1 = (r.lanes m).0 lt in let one : a
      ≡ 1 = all m lt in
      let q : a + b ≤ t = sum_two (numbered m) s.views id j v u (λ e. ne (sym e)) at at' in let g : b
      ≡ 0 = omega (arith, o, one, q) in
      g)

  unnumbered : (n : Option ℕ) → ((m : ℕ) → is_lane m n ≡ false) → n ≡ None
  unnumbered None no_lane = refl
  unnumbered (Some m) no_lane = absurd (true≢false (sym (eq-eqb m m refl) ∙ no_lane m))

  idle_others : (s : St) (r : IsSound stands l s) (id : ℕ) (v : SeatView) → get_elem? s.views id ≡ some v
      → HasAllLanes l v → (j : ℕ) (u : SeatView) → j ≢ id → get_elem? s.views j ≡ some u → IsIdle u
  idle_others s r id v at all j u ne at' = (each_at (IsView l.shape r.setting) s.views j u r.views at').unnumbered
      (λ k d lt. unnumbered (get_or (parts_of u) k d).number
      (λ m. none_counted stands l (λ (p : Part). is_lane m p.number) (parts_of u)
      (others_unnumbered s r id v at all j u ne at' m) k d lt))

  -- so nothing of an object stands outside the view
  idle_object_view : (i : ℕ) (u : SeatView) → IsIdle u → (is_in (object_view l.shape i u) ≡ 0)
      × ((test : Entry → Bool) → in_object_view test (object_view l.shape i u) ≡ 0)
  idle_object_view i u idle = (
    ap (λ (y : Option Inside). one_if (inside_at l.shape i y)) idle.inside,
    λ test. counts_none stands l test
        (map (object_part l.shape i) (parts_of u)) (empty_object_parts stands l i (parts_of u) idle.notes),
  )

  only_view : (f : ObjectView → ℕ) (i : ℕ) (s : St) (id : ℕ) (v : SeatView) → get_elem? s.views id ≡ some v
      → ((j : ℕ) (u : SeatView) → j ≢ id → get_elem? s.views j ≡ some u → f (object_view l.shape i u) ≡ 0)
      → sum_by f (map (object_view l.shape i) s.views) ≡ f (object_view l.shape i v)
  only_view f i s id v at others =
      sum_only f (map (object_view l.shape i) s.views) id (object_view l.shape i v)
      (at_map (object_view l.shape i) s.views id v at)
      (λ j x ne e. let b = at_mapped (object_view l.shape i) s.views j x e in ap f (sym b.2) ∙ others j b.0 ne b.1)

  -- the view weighs as much as all views
  alone_weighs : (s : St) (r : IsSound stands l s) (id : ℕ) (v : SeatView) → get_elem? s.views id ≡ some v
      → HasAllLanes l v → (f : Entry → ℕ) → sum_by (weigh f) (v ∷ []) ≡ sum_by (weigh f) s.views
  alone_weighs s r id v at all f =
      let a = sum_by-cons (weigh f) v [] in let z : sum_by (weigh f) [] ≡ 0 = refl in
      let b = sum_only (weigh f) s.views id v at
      (λ j u ne e. weigh_none f (parts_of u) (idle_others s r id v at all j u ne e).notes) in
      omega (arith, a, z, b)

  -- the view is one of all
  regroups : (s : St) (id : ℕ) (v : SeatView) → get_elem? s.views id ≡ some v → (P : Part → Type 0)
      → ((q : Part) → q.notes ≡ [] → P q) → All (λ (u : SeatView). All P (parts_of u)) s.views
      → All (λ (u : SeatView). All P (parts_of u)) (v ∷ [])
  regroups s id v at P none_of all =
      All-cons (λ (u : SeatView). All P (parts_of u)) v []
      (each_at (λ (u : SeatView). All P (parts_of u)) s.views id v all at)
      (All-nil (λ (u : SeatView). All P (parts_of u)))

  -- what was born in the view was born
  in_all : (s : St) (r : IsSound stands l s) (id : ℕ) (v : SeatView) → get_elem? s.views id ≡ some v → HasAllLanes l v
      → (q : RootId) → IsBorn (v ∷ []) q → IsBorn s.views q
  in_all s r id v at all q born =
      let a = alone_weighs s r id v at all (at_birth_as q.place q.generation q.capacity) in omega (arith, a, born)

  -- what the view has in hand is what all views have
  alone_sums : (s : St) (r : IsSound stands l s) (id : ℕ) (v : SeatView) → get_elem? s.views id ≡ some v
      → HasAllLanes l v →
      ((q : RegionId) → sum_by (weight_taken (is_taking q)) (v ∷ []) ≡ sum_by (weight_taken (is_taking q)) s.views)
      × ((q : RegionId) → sum_by (weight_put_down (is_taking q)) (v ∷ [])
      ≡ sum_by (weight_put_down (is_taking q)) s.views)
      × ((q : RegionId) → sum_by (uses_come q) (v ∷ []) ≡ sum_by (uses_come q) s.views)
      × ((q : RegionId) → sum_by (uses_gone q) (v ∷ []) ≡ sum_by (uses_gone q) s.views)
  alone_sums s r id v at all = (
    λ q. grasps (is_taking q),
    λ q. lays (is_taking q),
    λ q. (let a = sum_add (weight_taken (uses_in q)) (weigh (to_place (is_taking q))) (v ∷ []) in let b =
        sum_add (weight_taken (uses_in q)) (weigh (to_place (is_taking q))) s.views in
        let c = grasps (uses_in q) in let d = alone_weighs s r id v at all (to_place (is_taking q)) in
        omega (arith, a, b, c, d)),
    λ q. lays (uses_in q),
  )
    where
      three : (f g h : Entry → ℕ) → sum_by (λ (u : SeatView). weigh f u + (weigh g u + weigh h u)) (v ∷ [])
          ≡ sum_by (λ (u : SeatView). weigh f u + (weigh g u + weigh h u)) s.views
      three f g h =
          let a = sum_add (weigh f) (λ (u : SeatView). weigh g u + weigh h u) (v ∷ []) in let b =
          sum_add (weigh g) (weigh h) (v ∷ []) in
          let c = sum_add (weigh f) (λ (u : SeatView). weigh g u + weigh h u) s.views in let d =
          sum_add (weigh g) (weigh h) s.views in
          let x = alone_weighs s r id v at all f in let y = alone_weighs s r id v at all g in let z =
          alone_weighs s r id v at all h in
          omega (arith, a, b, c, d, x, y, z)

      grasps : (w : RegionId → ℕ) → sum_by (weight_taken w) (v ∷ []) ≡ sum_by (weight_taken w) s.views
      grasps w = three (from_arena w) (from_cache w) (from_place w)

      lays : (w : RegionId → ℕ) → sum_by (weight_put_down w) (v ∷ []) ≡ sum_by (weight_put_down w) s.views
      lays w = three (to_arena w) (to_cache w) (to_place w)

  -- nothing lies between the slots
  pub nothing_between : (id : ℕ) (v : SeatView) (words : List ℕ) (slots : List (Option H))
      → Final (Seen (IsSound stands l) id v) words slots → IsEmptyBetween l.shape slots
  nothing_between id v words slots (s, seen, same, long, there) i k lt low high =
      there k None (seen.0.between i k lt low high)

  -- nobody is in a section
  nobody_inside : (s : St) (r : IsSound stands l s) (id : ℕ) (v : SeatView) → get_elem? s.views id ≡ some v
      → HasAllLanes l v → v.inside ≡ None → (i : ℕ) → inside_total (map (object_view l.shape i) s.views) ≡ 0
  nobody_inside s r id v at all outside i =
      only_view is_in i s id v at
      (λ j u ne e. (idle_object_view i u (idle_others s r id v at all j u ne e)).0)
      ∙ ap (λ (y : Option Inside). one_if (inside_at l.shape i y)) outside

  -- so each object's home value is there
  pub homes_there : (id : ℕ) (v : SeatView) (words : List ℕ) (slots : List (Option H)) → v.inside ≡ None
      → HasAllLanes l v → Final (Seen (IsSound stands l) id v) words slots → (k : ℕ) → k < objects_of l.shape
      → (home : H) × (get_elem? slots (slot_at l.shape k) ≡ some (Some home))
  homes_there id v words slots outside all (s, seen, same, long, there) k lt =
      let r = seen.0 in let o = object_at l.shape k lt in
      let hv = (r.objects o.0 o.1).home_is (nobody_inside s r id v seen.1 all outside (home_of l.shape o.0)) in (
        hv.0,
        ap (λ (n : ℕ). get_elem? slots (slot_at l.shape n)) (sym o.2)
            ∙ there (slot_of l.shape o.0) (Some hv.0) hv.1,
      )

  -- the words and the home values are handed out in the order of the list
  pub closes : (id : ℕ) (v : SeatView) (words out : List ℕ) (slots homes : List (Option H))
      → length out ≡ listed_of l.shape
      → ((k : ℕ) → k < listed_of l.shape → slice_index out k ≡ slice_index words (word_at l.shape k)) → v.inside ≡ None
      → HasAllLanes l v → length homes ≡ objects_of l.shape
      → ((k : ℕ) → k < objects_of l.shape → get_elem? homes k ≡ get_elem? slots (slot_at l.shape k))
      → Final (Seen (IsSound stands l) id v) words slots → IsClosed stands l v homes out
  closes id v words out slots homes many laid outside all wide housed (s, seen, same, long, there) =
      let r = seen.0 in let at = seen.1 in
      let fine = each_at (IsView l.shape r.setting) s.views id v r.views at in record {
        word_count = many;
        home_count = wide;
        setting = r.setting;
        view = fine;
        few =
            λ p lt k. let a =
            alone_weighs s r id v at all (on_place ref_retain p) in let b =
            alone_weighs s r id v at all (on_place ref_kept p) in
            let c = k.beyond in let d = (r.counts p lt).beyond in let small = small_count stands l s r p lt in
            let x : ℕ = k.count in let y : ℕ = (r.counts p lt).count in let t : ℕ = place_tally ref_retain p s.views in
            let u : ℕ = place_tally ref_kept p s.views in let t' : ℕ = place_tally ref_retain p (v ∷ []) in
            let u' : ℕ = place_tally ref_kept p (v ∷ []) in
            let a' : t' ≡ t = a in let b' : u' ≡ u = b in let c' : t' ≡ u' + (x - 1) = c in let d' : t
            ≡ u + (y - 1) = d in let small' : y ≤ 1073741824 = small in
            omega (arith, a', b', c', d', small');
        alone =
            λ q t bq bt ep eg. one_born stands l s r q t (in_all s r id v at all q bq) (in_all s r id v at all t bt) ep
            eg;
        born = born_regroups s.views (v ∷ []) (λ f. alone_weighs s r id v at all f) (regroups s id v at) r.born;
        takings = λ q fits arena caches places are.
            let one = in_one_hold stands l s r q fits arena caches places
            (record { arena_is = are.arena_is; caches_are = are.caches_are; places_are = are.places_are }) in
            let h = one.held in let u = one.uses in let same = alone_sums s r id v at all in
            let g = same.0 q in let k = same.1 q in let m = same.2 q in let n = same.3 q in let b =
            alone_weighs s r id v at all (to_place (is_taking q)) in
            record {
              once = one.once;
              held = omega (arith, h, g, k);
              uses = λ lt. let t = u lt in
                  omega (arith, t, m, n, b);
            };
        looks =
            looks_regroup s.views (v ∷ []) (λ p g. alone_weighs s r id v at all (on_root ref_retain p g))
            (regroups s id v at) r.looks;
        order = order_regroups s.views (v ∷ []) (regroups s id v at) r.order;
        one_order =
            one_regroups l.shape s.views (v ∷ []) (alone_weighs s r id v at all)
            (λ P empty each. All-cons (λ (u : SeatView). All P (parts_of u)) v []
            (each_at (λ (u : SeatView). All P (parts_of u)) s.views id v each at)
            (All-nil (λ (u : SeatView). All P (parts_of u)))) r.one_order;
        holders = s.views;
        mailed = record {
          kept = λ f. let a = alone_weighs s r id v at all (sent_as f) in
              let b = alone_weighs s r id v at all (received_as f) in let c = r.mailed.kept f in omega (arith, a, b, c);
          in_turn = regroups s id v at IsInTurn turn_empty r.mailed.in_turn;
        };
        counts =
            λ p lt. subst (IsCounted p (v ∷ []))
            (ap (λ (ws : List ℕ). slice_index ws (count_word_of l.shape p)) same
            ∙ sym (laid (objects_of l.shape + p) (count_listed l.shape p lt)))
            (other_kept p s.views (v ∷ []) (slice_index s.words (count_word_of l.shape p))
            (λ f g. alone_weighs s r id v at all (on_root f p g)) (λ f. alone_weighs s r id v at all (on_place f p))
            (r.counts p lt));
        objects = λ o fits.
            let i : ℕ = home_of l.shape o in let k = r.objects o fits in let h : List Noted = k.history in let n : ℕ =
            length h in
            let idle : (j : ℕ) (u : SeatView) → j ≢ id → get_elem? s.views j ≡ some u
            → IsIdle u = idle_others s r id v at all in
            let t : ℕ = inside_total (map (object_view l.shape i) s.views) in
            let nobody : t ≡ 0 = nobody_inside s r id v at all outside i in
            let tot : (test : Entry → Bool) → in_object_view test (object_view l.shape i v)
            ≡ total test (map (object_view l.shape i) s.views) =
            (λ test. sym (only_view (in_object_view test) i s id v at
            (λ j u ne e. (idle_object_view i u (idle j u ne e)).1 test))) in
            let hv = k.home_is nobody in
            let d : ℕ = word_of l.shape o in let wi : slice_index s.words d
            ≡ 2 * n + t =
            k.word_is in let word : ℕ = slice_index s.words d in let wi' : word ≡ 2 * n + t = wi in let w : word
            ≡ 2 * n = omega (arith, wi', nobody) in
            let told = each_at (λ (f : ObjectView). All (IsTold o h (n + (t - is_in f))) f.parts)
            (map (object_view l.shape i) s.views) id (object_view l.shape i v) k.told
            (at_map (object_view l.shape i) s.views id v at) in
            let lim : n + (t - is_in (object_view l.shape i v))
            ≡ n =
            (let a : ℕ = is_in (object_view l.shape i v) in let g : n + (t - a) ≡ n = omega (arith, nobody) in g) in
            record {
              history = h;
              accepted = k.accepted;
              word_is = laid i (object_listed l.shape o fits) ∙ (ap (λ (ws : List ℕ). slice_index ws d) (sym same) ∙ w);
              told = subst (λ (z : ℕ). All (IsTold o h z) (object_view l.shape i v).parts) lim told;
              once = λ j lt. tot (is_numbered (j + 1)) ∙ k.once j lt;
              as_many = tot is_at ∙ k.as_many;
              home_is = (
                hv.0,
                housed i (home_within l.shape o fits)
                    ∙ there (slot_of l.shape o) (Some hv.0) hv.1,
                under v.setting r.setting
                    (λ g. stands (measures_of l.shape o) g h hv.0) fine.setting_is hv.2,
              );
            };
      }
