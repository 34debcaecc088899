-- The rule of the table as it is made, and of the first seats.
use Rattle.step_law.specs.Settings.{Setting}
use Rattle.std.proofs.Common.{◌≡◌, ℕ, zero, suc, ◌+◌, ◌-◌, ◌*◌, ◌/◌, ◌<◌, ◌≤◌, List, [], ◌∷◌, map, length, Bool, cond, sym, refl, ap, ◌∙◌, subst, arith, suc-mul}
use Rattle.std.specs.Prelude.{Option, Some, None, All, sum_by, count_by, filter, filter_map, slice_index}
use Rattle.std.proofs.lemmas.List.Elements.{All-cons, All-head, All-tail, All-nil, All-weaker}
use Rattle.std.proofs.lemmas.List.Sums.{sum_by-cons}
use Rattle.std.proofs.lemmas.List.{length-map}
use Rattle.std.proofs.Math.Nat.{mul-div_cancel_left}
use mathlib.Core.Option.{some}
use lib.ListN.{get_elem?}
use Rattle.atomic_table.specs.Table.{Splits, opening}
use Rattle.atomic_table.proofs.Lists.{at_map}
use Rattle.step_law.proofs.Changes.{sum_none}
use Rattle.pool_law.specs.declared.note.Noted.{Noted}
use Rattle.pool_law.specs.declared.note.Object.{Object}
use Rattle.pool_law.specs.Homes.{home_of, objects_of, IsObjectOf}
use Rattle.history_laws.specs.Measures.{measures_of}
use Rattle.pool_table.specs.Words.{word_of, IsOpening}
use Rattle.pool_table.specs.Slots.{slots_of, slot_of, IsEmptyBetween}
use Rattle.history_laws.proofs.Bins.{no_history}
use Rattle.history_laws.proofs.Apart.{home_within}
use Rattle.pool_table.specs.declared.views.Entry.{Entry}
use Rattle.pool_table.specs.declared.views.Layout.{Layout}
use Rattle.pool_table.specs.declared.views.Part.{Part}
use Rattle.pool_table.specs.declared.views.SeatView.{SeatView}
use Rattle.pool_table.specs.Views.{ObjectView, parts_of, noted_of, is_at, took_turn, is_about, is_lane, object_view, object_part, is_in, in_object_view, noted_weight, noted_in, total, numbered, spent, empty_part, inside_total}
use Rattle.pool_table.specs.Counts.{IsCounted, weigh, on_root, on_place, on_any, ref_retain, reached, returned}
use Rattle.pool_table.proofs.Weights.{weigh_none, counted_none, beside_none, settled_none, handy_none, orderly_none, enters_none}
use Rattle.pool_table.proofs.Counts.{never_born}
use Rattle.pool_table.proofs.Looks.{looks_open}
use Rattle.pool_table.proofs.Order.{order_opens}
use Rattle.pool_table.proofs.Sequence.{one_opens}
use Rattle.pool_table.proofs.Births.{born_opens}
use Rattle.pool_table.proofs.Tidings.{known_opens}
use Rattle.pool_table.proofs.Lone.{lone_opens}
use Rattle.pool_table.specs.Sound.{IsKept, IsSound, IsView, IsTold, IsIdle, IsTableShape, Stands, Knows, OnceBelow}
use Rattle.pool_table.specs.Steps.{lane_parts, first_view, rest_view, lane_view, first_lane, rest_of_lanes}
use Rattle.pool_table.proofs.Mails.{lying, mailed_opens}
use Rattle.pool_table.proofs.Seatings.{cut_in_two}
use Rattle.pool_table.proofs.Openings.{lane_once, none_numbered}

module _ {H : Type 0} (stands : List ℕ → Setting → List Noted → H → Type 0) (l : Layout) where
  -- empty parts tell an empty history
  empty_told : (o : Object) (limit : ℕ) (p : Part) → p.notes ≡ [] → IsTold o [] limit p
  empty_told o limit p e = record {
    ordered =
        λ i j d lt below. absurd (let z : length p.notes
        ≡ 0 = ap length e in let a : i < j = lt in let b : j < length p.notes = below in omega (arith, z, a, b));
    told =
        λ k d lt. absurd (let z : length p.notes ≡ 0 = ap length e in let b : k < length p.notes = lt in
        omega (arith, z, b));
    own = λ m n. ap (λ (es : List Entry). filter_map noted_of es) e;
  }

  -- the parts of an opening view, as an object sees them
  pub empty_object_parts : (i : ℕ) (ps : List Part) → All (λ (p : Part). p.notes ≡ []) ps
      → All (λ (p : Part). p.notes ≡ []) (map (object_part l.shape i) ps)
  empty_object_parts i [] all = All-nil (λ (p : Part). p.notes ≡ [])
  empty_object_parts i (p ∷ ps) all =
      All-cons (λ (p : Part). p.notes ≡ []) (object_part l.shape i p) (map (object_part l.shape i) ps)
      (ap (λ (es : List Entry). filter (is_about l.shape i) es) (All-head (λ (p : Part). p.notes ≡ []) p ps all))
      (empty_object_parts i ps (All-tail (λ (p : Part). p.notes ≡ []) p ps all))

  pub counts_none : (test : Entry → Bool) (ps : List Part) → All (λ (p : Part). p.notes ≡ []) ps
      → sum_by (λ (p : Part). count_by test p.notes) ps ≡ 0
  counts_none test ps all =
      sum_none (λ (p : Part). count_by test p.notes) ps
      (All-weaker (λ (p : Part). p.notes ≡ []) (λ (p : Part). count_by test p.notes ≡ 0)
      (λ p e. ap (λ (es : List Entry). count_by test es) e) ps all)

  sums_none : (f : Entry → ℕ) (ps : List Part) → All (λ (p : Part). p.notes ≡ []) ps
      → sum_by (λ (p : Part). sum_by f p.notes) ps ≡ 0
  sums_none f ps all =
      sum_none (λ (p : Part). sum_by f p.notes) ps
      (All-weaker (λ (p : Part). p.notes ≡ []) (λ (p : Part). sum_by f p.notes ≡ 0)
      (λ p e. ap (λ (es : List Entry). sum_by f es) e) ps all)

  all_parts : (gs : Setting) → All (λ (p : Part). p.notes ≡ []) (parts_of (first_view l gs))
  all_parts gs =
      All-cons (λ (p : Part). p.notes ≡ []) (empty_part None) (lane_parts 0 l.shape.lanes) refl
      (none_numbered 0 l.shape.lanes)

  one : (f : SeatView → ℕ) (v : SeatView) → sum_by f (v ∷ []) ≡ f v
  one f v = let c = sum_by-cons f v [] in let z : sum_by f [] ≡ 0 = refl in omega (arith, c, z)

  opens_at : (gs : Setting) (homes : List (Option H)) (o : Object) (x : H) → IsObjectOf l.shape o
      → get_elem? homes (slot_of l.shape o) ≡ some (Some x) → stands (measures_of l.shape o) gs [] x
      → IsKept stands l.shape gs o (map (object_view l.shape (home_of l.shape o)) (first_view l gs ∷ [])) 0
      (get_elem? (map some homes) (slot_of l.shape o))
  opens_at gs homes o x fits at told_by =
      let i : ℕ = home_of l.shape o in let f : ObjectView = object_view l.shape i (first_view l gs) in
      let object_parts = empty_object_parts i (parts_of (first_view l gs)) (all_parts gs) in
      let t : inside_total (f ∷ []) ≡ 0 = refl in
      let none_of : (test : Entry → Bool) → total test (f ∷ [])
      ≡ 0 =
      (λ test. let c = sum_by-cons (in_object_view test) f [] in let z =
      counts_none test (map (object_part l.shape i) (parts_of (first_view l gs))) object_parts in
      let y : sum_by (in_object_view test) [] ≡ 0 = refl in omega (arith, c, z, y)) in
      record {
        history = [];
        accepted = no_history l.shape o fits;
        word_is = refl;
        alone = (let z : ℕ = inside_total (f ∷ []) in let e : z ≡ 0 = t in let g : z ≤ 1 = omega (arith, e) in g);
        knows = All-cons (Knows []) f [] tt (All-nil (Knows []));
        told =
            All-cons (λ (g : ObjectView). All (IsTold o [] (0 + (inside_total (f ∷ []) - is_in g))) g.parts) f []
            (All-weaker (λ (p : Part). p.notes ≡ []) (IsTold o [] (0 + (inside_total (f ∷ []) - is_in f)))
            (empty_told o (0 + (inside_total (f ∷ []) - is_in f))) f.parts object_parts)
            (All-nil (λ (g : ObjectView). All (IsTold o [] (0 + (inside_total (f ∷ []) - is_in g))) g.parts));
        once = λ k lt. absurd (omega (arith, lt));
        as_many = none_of is_at;
        weights =
            λ w. (let c = sum_by-cons (noted_in w) f [] in let z =
            sums_none (noted_weight w) (map (object_part l.shape i) (parts_of (first_view l gs))) object_parts in
            let y : sum_by (noted_in w) [] ≡ 0 = refl in omega (arith, c, z, y));
        home_is = λ _. (x, at_map some homes (slot_of l.shape o) (Some x) at, told_by);
      }

  numbered_parts : (i n : ℕ) → 0 < n → All (λ (p : Part). p.number ≡ None) (lane_parts i n) → ⊥
  numbered_parts i zero lt all = omega (arith, lt)
  numbered_parts i (suc n) lt all =
      let e : Some i ≡ None = All-head (λ (p : Part). p.number ≡ None) (empty_part (Some i)) (lane_parts (suc i) n)
      all in
      absurd (cc)

  empty_notes : (ps : List Part) → All (λ (p : Part). p.notes ≡ []) ps
      → All (λ (p : Part). All (Stands l.shape p.number) p.notes) ps
  empty_notes ps all =
      All-weaker (λ (p : Part). p.notes ≡ []) (λ (p : Part). All (Stands l.shape p.number) p.notes)
      (λ p e. subst (λ (es : List Entry). All (Stands l.shape p.number) es) (sym e)
      (All-nil (Stands l.shape p.number))) ps all

  -- the table as it is made
  pub opens : (gs : Setting) (words : List ℕ) (homes : List (Option H)) → IsTableShape l.shape
      → l.shape.lanes * l.turns < 4611686018427387904 → l.shape.lanes * l.moves < 1073741824 → IsOpening l.shape words
      → length homes ≡ slots_of l.shape → IsEmptyBetween l.shape homes
      → ((o : Object) → IsObjectOf l.shape o → (x : H) × (get_elem? homes (slot_of l.shape o) ≡ some (Some x))
      × stands (measures_of l.shape o) gs [] x) → IsSound stands l (opening words homes (first_view l gs))
  opens gs words homes shape room few is wide between all =
      let q : ℕ = objects_of l.shape in record {
        setting = gs;
        words = is.many;
        homes = length-map homes some ∙ wide;
        between = λ i k lt low high. at_map some homes k None (between i k lt low high);
        views =
            All-cons (IsView l.shape gs) (first_view l gs) []
            (record {
              beside = beside_none (first_view l gs) (all_parts gs);
              counted =
                  counted_none (first_view l gs) (all_parts gs);
              settled =
                  settled_none (first_view l gs) (all_parts gs);
              enters =
                  enters_none (first_view l gs) refl;
              handy =
                  handy_none (first_view l gs) (all_parts gs);
              roots =
                  orderly_none (first_view l gs) (all_parts gs);
              setting_is =
                  refl;
              unnumbered =
                  λ none_of. absurd (numbered_parts 0 l.shape.lanes shape.some_lane
                  (All-tail (λ (p : Part). p.number ≡ None) (empty_part None)
                  (lane_parts 0 l.shape.lanes) none_of));
              inside = tt;
              notes =
                  empty_notes (parts_of (first_view l gs)) (all_parts gs);
            })
            (All-nil (IsView l.shape gs));
        lanes =
            λ m. subst (OnceBelow l.shape.lanes m)
            (sym (one (numbered m) (first_view l gs)
            ∙ (let c = sum_by-cons (λ (p : Part). cond {A = ℕ} (is_lane m p.number) 1 0) (empty_part None)
            (lane_parts 0 l.shape.lanes) in let y : cond {A = ℕ} (is_lane m None) 1 0
            ≡ 0 =
            refl in omega (arith, c, y))))
            (let zl : 0 + l.shape.lanes ≡ l.shape.lanes = omega arith in
            subst (λ (n : ℕ). OnceBelow n m
            (count_by (λ (p : Part). is_lane m p.number) (lane_parts 0 l.shape.lanes)))
            zl (lane_once m 0 l.shape.lanes (omega arith)));
        objects = λ o fits.
            let i : ℕ = home_of l.shape o in let near : i < q = home_within l.shape o fits in
            let here = all o fits in
            let word : slice_index words (word_of l.shape o) ≡ 0 = is.objects i near in
            subst (λ (n : ℕ). IsKept stands l.shape gs o (map (object_view l.shape i) (first_view l gs ∷ [])) n
            (get_elem? (map some homes) (slot_of l.shape o))) (sym word)
            (opens_at gs homes o here.0 fits here.1 here.2);
        born = born_opens (first_view l gs) (all_parts gs);
        known = known_opens (first_view l gs) (all_parts gs);
        lone = lone_opens (first_view l gs) refl;
        looks = looks_open (first_view l gs) (all_parts gs);
        order = order_opens (first_view l gs) (all_parts gs);
        one_order =
            one_opens l.shape (first_view l gs)
            (λ f. one (weigh f) (first_view l gs) ∙ sums_none f (parts_of (first_view l gs)) (all_parts gs))
            (all_parts gs);
        mailed =
            mailed_opens (first_view l gs)
            (λ f. one (weigh f) (first_view l gs) ∙ sums_none f (parts_of (first_view l gs)) (all_parts gs))
            (λ f. one (lying f) (first_view l gs)) (all_parts gs);
        room = room;
        budget =
            (let a = one spent (first_view l gs) in let b =
            counts_none took_turn (parts_of (first_view l gs)) (all_parts gs) in let t : ℕ = l.shape.lanes * l.turns in
            let x : ℕ = sum_by spent (first_view l gs ∷ []) in let y : ℕ = spent (first_view l gs) in
            let c : ℕ = sum_by (λ (p : Part). count_by took_turn p.notes) (parts_of (first_view l gs)) in let a' : x
            ≡ y = a in let b' : c ≡ 0 = b in let d : y ≡ c + t = refl in let g : x ≤ t = omega (arith, a', b', d) in
            g);
        few = few;
        moved =
            (let a = one reached (first_view l gs) in let b =
            weigh_none (on_any ref_retain) (parts_of (first_view l gs)) (all_parts gs) in let t : ℕ =
            l.shape.lanes * l.moves in let x : ℕ = sum_by reached (first_view l gs ∷ []) in let y : ℕ =
            reached (first_view l gs) in
            let c : ℕ = weigh (on_any ref_retain) (first_view l gs) in let z : ℕ =
            sum_by returned (first_view l gs ∷ []) in let a' : x ≡ y = a in let b' : c ≡ 0 = b in let d : y
            ≡ c + t = refl in let g : x ≤ t + z = omega (arith, a', b', d) in
            g);
        counts =
            λ p lt. subst (IsCounted p (first_view l gs ∷ [])) (sym (is.counts p lt))
            (never_born p (first_view l gs ∷ [])
            (λ f g. one (weigh (on_root f p g)) (first_view l gs)
            ∙ sums_none (on_root f p g) (parts_of (first_view l gs)) (all_parts gs))
            (λ f. one (weigh (on_place f p)) (first_view l gs)
            ∙ sums_none (on_place f p) (parts_of (first_view l gs)) (all_parts gs)));
      }

  length_parts : (i n : ℕ) → length (lane_parts i n) ≡ n
  length_parts i zero = refl
  length_parts i (suc n) = ap suc (length_parts (suc i) n)

  shared : (i n t : ℕ) → suc n * t / (length (lane_parts i n) + 1) ≡ t
  shared i n t =
      ap (λ (k : ℕ). suc n * t / (k + 1)) (length_parts i n)
      ∙ (let e : n + 1 ≡ suc n = omega arith in ap (λ (k : ℕ). suc n * t / k) e
      ∙ mul-div_cancel_left t {n = suc n} (omega arith))

  left_over : (n t : ℕ) → suc n * t - t ≡ n * t
  left_over n t =
      let a = suc-mul n t in let x : ℕ = n * t in let y : ℕ = suc n * t in let a' : y ≡ x + t = a in let g : y - t
      ≡ x = omega (arith, a') in
      g

  pub cut_first : (i n : ℕ) (g : Setting) → first_lane (rest_view l i (suc n) g) ≡ lane_view l i g
  cut_first i n g =
      λ k. record {
        own = empty_part (Some i);
        others = [];
        inside = None;
        letters = [];
        moves = shared (suc i) n l.moves k;
        turns =
            shared (suc i) n l.turns k;
        setting = Some g;
      }

  pub cut_rest : (i n : ℕ) (g : Setting) → rest_of_lanes (rest_view l i (suc n) g) ≡ rest_view l (suc i) n g
  cut_rest i n g = λ k. record {
    own = empty_part None;
    others = lane_parts (suc i) n;
    inside = None;
    letters = [];
    moves = (ap (λ (s : ℕ). suc n * l.moves - s) (shared (suc i) n l.moves) ∙ left_over n l.moves) k;
    turns = (ap (λ (s : ℕ). suc n * l.turns - s) (shared (suc i) n l.turns) ∙ left_over n l.turns) k;
    setting = Some g;
  }

  rest_idle : (i n : ℕ) (g : Setting) → All (λ (p : Part). p.number ≡ None) (parts_of (rest_view l i n g))
      → IsIdle (rest_view l i n g)
  rest_idle i zero g all =
      record {
        notes = All-cons (λ (p : Part). p.notes ≡ []) (empty_part None) [] refl
            (All-nil (λ (p : Part). p.notes ≡ []));
        inside = refl;
        turns = (let m : ℕ = l.turns in omega arith);
      }
  rest_idle i (suc n) g all =
      absurd (numbered_parts i (suc n) (omega arith)
      (All-tail (λ (p : Part). p.number ≡ None) (empty_part None) (lane_parts i (suc n)) all))

  -- a first seat is cut from the opening view
  pub cuts_allowed : (id i n : ℕ) (g : Setting) → Splits (IsSound stands l) id (rest_view l i (suc n) g)
      (rest_of_lanes (rest_view l i (suc n) g)) (first_lane (rest_view l i (suc n) g))
  cuts_allowed id i n g =
      subst (λ (y : SeatView × SeatView). Splits (IsSound stands l) id (rest_view l i (suc n) g) y.0 y.1)
      (λ k. (sym (cut_rest i n g) k, sym (cut_first i n g) k))
      (λ s r at. cut_in_two stands l s r id (rest_view l i (suc n) g) (rest_view l (suc i) n g) (lane_view l i g) at
      refl refl refl
      (λ f z. let own : Part = empty_part None in let p : Part = empty_part (Some i) in let ps : List Part =
      lane_parts (suc i) n in
      let a : sum_by f (own ∷ ps) ≡ f own + sum_by f ps = sum_by-cons f own ps in let b : sum_by f (p ∷ [])
      ≡ f p + 0 = sum_by-cons f p [] in
      let c : sum_by f (own ∷ p ∷ ps) ≡ f own + sum_by f (p ∷ ps) = sum_by-cons f own (p ∷ ps) in
      let d : sum_by f (p ∷ ps) ≡ f p + sum_by f ps = sum_by-cons f p ps in
      omega (arith, a, b, c, d))
      (λ P e all. let more = All-tail P (empty_part None) (lane_parts i (suc n)) all in (
        All-cons P (empty_part None) (lane_parts (suc i) n) e
            (All-tail P (empty_part (Some i)) (lane_parts (suc i) n) more),
        All-cons P (empty_part (Some i)) []
            (All-head P (empty_part (Some i)) (lane_parts (suc i) n) more) (All-nil P),
      ))
      (let a = suc-mul n l.turns in let x : ℕ = n * l.turns in let y : ℕ = suc n * l.turns in let a' : y
      ≡ x + l.turns =
      a in let g : x + l.turns ≡ y = omega (arith, a') in g)
      (let a = suc-mul n l.moves in let x : ℕ = n * l.moves in let y : ℕ = suc n * l.moves in let a' : y
      ≡ x + l.moves = a in let g : x + l.moves ≡ y = omega (arith, a') in g)
      (λ f. omega arith)
      (λ fine. (
        record {
          beside = beside_none (rest_view l (suc i) n g)
              (All-cons (λ (p : Part). p.notes ≡ []) (empty_part None) (lane_parts (suc i) n) refl
              (none_numbered (suc i) n));
          counted =
              counted_none (rest_view l (suc i) n g)
              (All-cons (λ (p : Part). p.notes ≡ []) (empty_part None) (lane_parts (suc i) n) refl
              (none_numbered (suc i) n));
          settled =
              settled_none (rest_view l (suc i) n g)
              (All-cons (λ (p : Part). p.notes ≡ []) (empty_part None) (lane_parts (suc i) n) refl
              (none_numbered (suc i) n));
          enters =
              enters_none (rest_view l (suc i) n g) refl;
          handy =
              handy_none (rest_view l (suc i) n g)
              (All-cons (λ (p : Part). p.notes ≡ []) (empty_part None)
              (lane_parts (suc i) n) refl (none_numbered (suc i) n));
          roots =
              orderly_none (rest_view l (suc i) n g)
              (All-cons (λ (p : Part). p.notes ≡ []) (empty_part None)
              (lane_parts (suc i) n) refl (none_numbered (suc i)
              n));
          setting_is = fine.setting_is;
          unnumbered =
              rest_idle (suc i) n g;
          inside =
              tt;
          notes =
              empty_notes (parts_of (rest_view l
              (suc i) n g)) (All-cons (λ (p :
              Part). p.notes ≡ [])
              (empty_part None)
              (lane_parts (suc i)
              n) refl
              (none_numbered (suc i) n));
        },
        record {
          beside =
              beside_none (lane_view l i g) (All-cons (λ (p : Part). p.notes ≡ []) (empty_part (Some i)) [] refl
              (All-nil (λ (p : Part). p.notes ≡ [])));
          counted =
              counted_none (lane_view l i g)
              (All-cons (λ (p : Part). p.notes ≡ []) (empty_part (Some i)) [] refl
              (All-nil (λ (p : Part). p.notes ≡ [])));
          settled =
              settled_none (lane_view l i g)
              (All-cons (λ (p : Part). p.notes ≡ []) (empty_part (Some i)) [] refl
              (All-nil (λ (p : Part). p.notes ≡ [])));
          enters = enters_none (lane_view l i g) refl;
          handy =
              handy_none (lane_view l i g) (All-cons (λ (p : Part). p.notes ≡ []) (empty_part (Some i)) [] refl
              (All-nil (λ (p : Part). p.notes ≡ [])));
          roots =
              orderly_none (lane_view l i g)
              (All-cons (λ (p : Part). p.notes ≡ []) (empty_part (Some i)) [] refl
              (All-nil (λ (p : Part). p.notes ≡ [])));
          setting_is = fine.setting_is;
          unnumbered =
              λ all. (let e : Some i ≡ None = All-head (λ (p : Part). p.number ≡ None) (empty_part (Some i)) [] all in
              absurd (cc));
          inside = tt;
          notes =
              empty_notes (empty_part (Some i) ∷ [])
              (All-cons (λ (p : Part). p.notes ≡ []) (empty_part (Some i)) [] refl
              (All-nil (λ (p : Part). p.notes ≡ [])));
        },
      )) refl refl)
