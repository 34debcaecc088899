-- Seats are cut, and the rule stays.
use Rattle.step_law.specs.Settings.{Setting}
use Rattle.std.proofs.Common.{◌≡◌, ℕ, ◌+◌, ◌-◌, ◌*◌, ◌≤◌, List, [], ◌∷◌, ◌++◌, map, set, cond, sym, refl, ap, ◌∙◌, subst, arith}
use Rattle.std.specs.Prelude.{Option, None, All, sum_by, count_by, slice_index}
use Rattle.std.proofs.lemmas.List.Elements.{All-cons, All-push, All-set, All-nil, All-map}
use Rattle.std.proofs.lemmas.List.Sums.{sum_by-cons, sum_by_push}
use Rattle.std.proofs.lemmas.List.{map-set, map_push}
use mathlib.Core.Option.{some}
use lib.ListN.{get_elem?}
use Rattle.atomic_table.specs.Table.{State, Splits}
use Rattle.atomic_table.proofs.Lists.{at_map}
use Rattle.step_law.proofs.Changes.{each_at, sum_set, sum_mapped, each_unmapped}
use Rattle.pool_law.specs.declared.note.Noted.{Noted}
use Rattle.pool_law.specs.Homes.{home_of}
use Rattle.pool_table.specs.Words.{word_of, count_word_of}
use Rattle.pool_table.specs.Slots.{slot_of}
use Rattle.pool_table.specs.declared.views.Layout.{Layout}
use Rattle.pool_table.specs.declared.views.Part.{Part}
use Rattle.pool_table.specs.declared.views.SeatView.{SeatView}
use Rattle.pool_table.specs.Views.{ObjectView, parts_of, took_turn, is_lane, object_view, object_part, inside_at, is_in, in_object_view, noted_weight, noted_in, numbered, spent, empty_part, one_if}
use Rattle.pool_table.specs.Counts.{weigh, on_root, on_place, on_any, reached, returned, ref_kept, ref_retain}
use Rattle.pool_table.proofs.Weights.{counted_none, settled_none, handy_none, orderly_none, orderly_parts, enters_none}
use Rattle.pool_table.proofs.Counts.{other_kept}
use Rattle.pool_table.proofs.Looks.{looks_regroup}
use Rattle.pool_table.proofs.Order.{order_regroups}
use Rattle.pool_table.proofs.Sequence.{one_regroups}
use Rattle.pool_table.proofs.Births.{born_regroups}
use Rattle.pool_table.proofs.Tidings.{known_regroups}
use Rattle.pool_table.proofs.Lone.{lone_cut}
use Rattle.pool_table.specs.declared.views.Letter.{Letter}
use Rattle.pool_table.proofs.Mails.{lying, mailed_regroups}
use Rattle.pool_table.specs.Sound.{IsKept, IsSound, IsView, Stands, OnceBelow}
use Rattle.pool_table.specs.Steps.{blank_beside, share_left, share_of}
use Rattle.pool_table.proofs.Objects.{split_kept}

module _ {H : Type 0} (stands : List ℕ → Setting → List Noted → H → Type 0) (l : Layout) where
  abbrev St : Type 0
  St = State (Option H) SeatView

  -- a view in no section is cut in two, which no sum over parts sees
  pub cut_in_two : (s : St) (r : IsSound stands l s) (id : ℕ) (v left right : SeatView) → get_elem? s.views id ≡ some v
      → v.inside ≡ None → left.inside ≡ None → right.inside ≡ None
      → ((f : Part → ℕ) → f (empty_part None) ≡ 0 → sum_by f (parts_of left) + sum_by f (parts_of right)
      ≡ sum_by f (parts_of v))
      → ((P : Part → Type 0) → P (empty_part None) → All P (parts_of v)
      → All P (parts_of left) × All P (parts_of right))
      → left.turns + right.turns ≡ v.turns → left.moves + right.moves ≡ v.moves
      → ((f : Letter → ℕ) → lying f left + lying f right ≡ lying f v)
      → (IsView l.shape r.setting v → IsView l.shape r.setting left × IsView l.shape r.setting right)
      → left.own ≡ v.own → right.own.notes ≡ []
      → IsSound stands l (record { words = s.words; homes = s.homes; views = set s.views id left ++ right ∷ [] })
  cut_in_two s r id v left right at vo lo ro adds shares turns moves letters fine own none =
      let both = fine (each_at (IsView l.shape r.setting) s.views id v r.views at) in
      let same : (f : SeatView → ℕ) → f left + f right ≡ f v
      → sum_by f (set s.views id left ++ right ∷ []) ≡ sum_by f s.views = (λ f e.
      let a : sum_by f (set s.views id left ++ right ∷ [])
      ≡ sum_by f (set s.views id left) + f right = sum_by_push f (set s.views id left) right in
      let b : sum_by f (set s.views id left) + f v ≡ sum_by f s.views + f left = sum_set f s.views id v left at in
      omega (arith, a, b, e)) in
      let out : (j : ℕ) (u : SeatView) → u.inside ≡ None
      → is_in (object_view l.shape j u) ≡ 0 = (λ j u e. ap (λ y. one_if (inside_at l.shape j y)) e) in
      let regrouped : (P : Part → Type 0) → P (empty_part None) → All (λ (u : SeatView). All P (parts_of u)) s.views
      → All (λ (u : SeatView). All P (parts_of u)) (set s.views id left ++ right ∷ []) = (λ P empty all.
      let got = shares P empty (each_at (λ (u : SeatView). All P (parts_of u)) s.views id v all at) in
      All-push (λ (u : SeatView). All P (parts_of u)) (set s.views id left) right
      (All-set (λ (u : SeatView). All P (parts_of u)) s.views id left got.0 all) got.1) in
      let regroups : (P : Part → Type 0) → ((q : Part) → q.notes ≡ [] → P q)
      → All (λ (u : SeatView). All P (parts_of u)) s.views
      → All (λ (u : SeatView). All P (parts_of u)) (set s.views id left ++ right ∷ []) =
      (λ P none_of all. regrouped P (none_of (empty_part None) refl) all) in
      record {
        setting = r.setting;
        words = r.words;
        homes = r.homes;
        between = r.between;
        views =
            All-push (IsView l.shape r.setting) (set s.views id left) right
            (All-set (IsView l.shape r.setting) s.views id left both.0 r.views) both.1;
        lanes =
            λ m. subst (OnceBelow l.shape.lanes m)
            (sym (same (numbered m) (adds (λ (p : Part). cond {A = ℕ} (is_lane m p.number) 1 0) refl))) (r.lanes m);
        objects = λ o fits. let j : ℕ = home_of l.shape o in
            subst (λ (x : List ObjectView). IsKept stands l.shape r.setting o x
            (slice_index s.words (word_of l.shape o))
            (get_elem? s.homes (slot_of l.shape o)))
            (sym (map_push (object_view l.shape j) (set s.views id left) right
            ∙ ap (λ (x : List ObjectView). x ++ object_view l.shape j right ∷ [])
            (map-set (object_view l.shape j) s.views id left)))
            (split_kept stands l.shape r.setting o (map (object_view l.shape j) s.views)
            (slice_index s.words (word_of l.shape o)) (get_elem? s.homes (slot_of l.shape o)) id
            (object_view l.shape j v)
            (object_view l.shape j left) (object_view l.shape j right) (r.objects o fits)
            (at_map (object_view l.shape j) s.views id v at)
            (out j v vo) (out j left lo) (out j right ro)
            (λ test. let g : Part → ℕ = λ (p : Part). count_by test (object_part l.shape j p).notes in
            let q : Part → ℕ = λ (p : Part). count_by test p.notes in
            let a : in_object_view test (object_view l.shape j left)
            ≡ sum_by g (parts_of left) = sum_mapped q (object_part l.shape j) (parts_of left) in
            let b : in_object_view test (object_view l.shape j right)
            ≡ sum_by g (parts_of right) = sum_mapped q (object_part l.shape j) (parts_of right) in
            let c : in_object_view test (object_view l.shape j v)
            ≡ sum_by g (parts_of v) = sum_mapped q (object_part l.shape j) (parts_of v) in let d = adds g refl in
            omega (arith, a, b, c, d))
            (λ f. let g : Part → ℕ = λ (p : Part). sum_by (noted_weight f) (object_part l.shape j p).notes in
            let q : Part → ℕ = λ (p : Part). sum_by (noted_weight f) p.notes in
            let a : noted_in f (object_view l.shape j left)
            ≡ sum_by g (parts_of left) = sum_mapped q (object_part l.shape j) (parts_of left) in
            let b : noted_in f (object_view l.shape j right)
            ≡ sum_by g (parts_of right) = sum_mapped q (object_part l.shape j) (parts_of right) in
            let c : noted_in f (object_view l.shape j v) ≡ sum_by g (parts_of v) =
            sum_mapped q (object_part l.shape j) (parts_of v) in let d = adds g refl in
            omega (arith, a, b, c, d))
            (λ P e all. let got = shares (λ (p : Part). P (object_part l.shape j p)) e
            (each_unmapped P (object_part l.shape j) (parts_of v) all) in (
              All-map P (object_part l.shape j) (parts_of left) got.0,
              All-map P (object_part l.shape j) (parts_of right)
                  got.1,
            )));
        born =
            born_regroups s.views (set s.views id left ++ right ∷ [])
            (λ f. same (weigh f) (adds (λ (q : Part). sum_by f q.notes) refl)) regroups r.born;
        known =
            known_regroups s.views (set s.views id left ++ right ∷ [])
            (λ f. same (weigh f) (adds (λ (q : Part). sum_by f q.notes) refl)) regroups r.known;
        lone =
            lone_cut s.views id v left right at
            (λ f. same (weigh f) (adds (λ (q : Part). sum_by f q.notes) refl)) own none r.lone;
        looks =
            looks_regroup s.views (set s.views id left ++ right ∷ [])
            (λ p g. same (weigh (on_root ref_retain p g))
            (adds (λ (q : Part). sum_by (on_root ref_retain p g) q.notes) refl)) regroups r.looks;
        order = order_regroups s.views (set s.views id left ++ right ∷ []) regroups r.order;
        one_order =
            one_regroups l.shape s.views (set s.views id left ++ right ∷ [])
            (λ f. same (weigh f) (adds (λ (q : Part). sum_by f q.notes) refl)) regrouped r.one_order;
        mailed =
            mailed_regroups s.views (set s.views id left ++ right ∷ [])
            (λ f. same (weigh f) (adds (λ (q : Part). sum_by f q.notes) refl))
            (λ f. same (lying f) (letters f)) regrouped
            r.mailed;
        room = r.room;
        budget =
            subst (λ (x : ℕ). x ≤ l.shape.lanes * l.turns)
            (sym (same spent (let a = adds (λ (p : Part). count_by took_turn p.notes) refl in omega (arith, a, turns))))
            r.budget;
        few = r.few;
        moved =
            subst (λ (x : ℕ × ℕ). x.0 ≤ l.shape.lanes * l.moves + x.1)
            (λ i. (
              sym (same reached (let a = adds (λ (q : Part). sum_by (on_any ref_retain) q.notes) refl in
                  omega (arith, a, moves))) i,
              sym
                  (same returned (adds (λ (q : Part). sum_by (on_any ref_kept) q.notes) refl)) i,
            )) r.moved;
        counts =
            λ p lt. other_kept p s.views (set s.views id left ++ right ∷ [])
            (slice_index s.words (count_word_of l.shape p))
            (λ f g. same (weigh (on_root f p g)) (adds (λ (q : Part). sum_by (on_root f p g) q.notes) refl))
            (λ f. same (weigh (on_place f p)) (adds (λ (q : Part). sum_by (on_place f p) q.notes) refl))
            (r.counts p lt);
      }

  -- a seat with nothing beside one in no section
  pub splits_allowed : (id : ℕ) (v : SeatView) → v.inside ≡ None → Splits (IsSound stands l) id v v (blank_beside v)
  splits_allowed id v out s r at = cut_in_two s r id v v (blank_beside v) at out out refl
      (λ f z. let a : sum_by f (empty_part None ∷ [])
      ≡ f (empty_part None) + 0 = sum_by-cons f (empty_part None) [] in omega (arith, a, z))
      (λ P e all. (all, All-cons P (empty_part None) [] e (All-nil P)))
      (let t : ℕ = v.turns in let g : t + 0 ≡ t = omega arith in g)
      (let t : ℕ = v.moves in let g : t + 0 ≡ t = omega arith in g)
      (λ f. omega arith)
      (λ fine. (
        fine,
        record {
          beside = λ p g. omega arith;
          counted =
              counted_none (blank_beside v) (All-cons (λ (p : Part). p.notes ≡ []) (empty_part None) [] refl
              (All-nil (λ (p : Part). p.notes ≡ [])));
          settled =
              settled_none (blank_beside v) (All-cons (λ (p : Part). p.notes ≡ []) (empty_part None) [] refl
              (All-nil (λ (p : Part). p.notes ≡ [])));
          enters = enters_none (blank_beside v) refl;
          handy =
              handy_none (blank_beside v) (All-cons (λ (p : Part). p.notes ≡ []) (empty_part None) [] refl
              (All-nil (λ (p : Part). p.notes ≡ [])));
          roots =
              orderly_none (blank_beside v) (All-cons (λ (p : Part). p.notes ≡ []) (empty_part None) [] refl
              (All-nil (λ (p : Part). p.notes ≡ [])));
          setting_is = fine.setting_is;
          unnumbered =
              λ _. record {
                notes = All-cons (λ (p : Part). p.notes ≡ []) (empty_part None) [] refl
                    (All-nil (λ (p : Part). p.notes ≡ []));
                inside = refl;
                turns = refl;
              };
          inside = tt;
          notes =
              All-cons (λ (p : Part). All (Stands l.shape p.number) p.notes) (empty_part None) []
              (All-nil (Stands l.shape None)) (All-nil (λ (p : Part). All (Stands l.shape p.number) p.notes));
        },
      )) refl refl

  -- a seat with some of the moves beside one in no section
  pub shares_allowed : (n id : ℕ) (v : SeatView) → v.inside ≡ None → n ≤ v.moves
      → Splits (IsSound stands l) id v (share_left n v) (share_of n v)
  shares_allowed n id v out le s r at = cut_in_two s r id v (share_left n v) (share_of n v) at out out refl
      (λ f z. let a : sum_by f (empty_part None ∷ [])
      ≡ f (empty_part None) + 0 = sum_by-cons f (empty_part None) [] in omega (arith, a, z))
      (λ P e all. (all, All-cons P (empty_part None) [] e (All-nil P)))
      (let t : ℕ = v.turns in let g : t + 0 ≡ t = omega arith in g)
      (let t : ℕ = v.moves in let le' : n ≤ t = le in let g : (t - n) + n ≡ t = omega (arith, le') in g)
      (λ f. omega arith)
      (λ fine. (
        record {
          beside = fine.beside;
          counted = fine.counted;
          settled = fine.settled;
          enters = enters_none (share_left n v) out;
          handy = fine.handy;
          roots = orderly_parts v (share_left n v) refl fine.roots;
          setting_is = fine.setting_is;
          unnumbered =
              λ all. let i = fine.unnumbered all in record { notes = i.notes; inside = i.inside; turns = i.turns };
          inside = fine.inside;
          notes = fine.notes;
        },
        record {
          beside = λ p g. omega arith;
          counted =
              counted_none (share_of n v) (All-cons (λ (p : Part). p.notes ≡ []) (empty_part None) [] refl
              (All-nil (λ (p : Part). p.notes ≡ [])));
          settled =
              settled_none (share_of n v) (All-cons (λ (p : Part). p.notes ≡ []) (empty_part None) [] refl
              (All-nil (λ (p : Part). p.notes ≡ [])));
          enters = enters_none (share_of n v) refl;
          handy =
              handy_none (share_of n v) (All-cons (λ (p : Part). p.notes ≡ []) (empty_part None) [] refl
              (All-nil (λ (p : Part). p.notes ≡ [])));
          roots =
              orderly_none (share_of n v) (All-cons (λ (p : Part). p.notes ≡ []) (empty_part None) [] refl
              (All-nil (λ (p : Part). p.notes ≡ [])));
          setting_is = fine.setting_is;
          unnumbered =
              λ _. record {
                notes = All-cons (λ (p : Part). p.notes ≡ []) (empty_part None) [] refl
                    (All-nil (λ (p : Part). p.notes ≡ []));
                inside = refl;
                turns = refl;
              };
          inside = tt;
          notes =
              All-cons (λ (p : Part). All (Stands l.shape p.number) p.notes) (empty_part None) []
              (All-nil (Stands l.shape None)) (All-nil (λ (p : Part). All (Stands l.shape p.number) p.notes));
        },
      )) refl refl
