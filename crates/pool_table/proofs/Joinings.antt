-- Seats are joined, and take in shares, and the rule stays.
use Rattle.step_law.specs.Settings.{Setting}
use Rattle.std.proofs.Common.{◌≡◌, ◌≢◌, ℕ, ◌+◌, ◌*◌, ◌≤◌, List, [], ◌∷◌, map, set, cond, sym, refl, ap, ◌∙◌, subst, arith}
use Rattle.std.specs.Prelude.{Option, None, All, sum_by, count_by, slice_index}
use Rattle.std.proofs.lemmas.List.Elements.{All-cons, All-set, All-append, All-nil, All-map}
use Rattle.std.proofs.lemmas.List.Sums.{sum_by-cons, sum_by-append}
use Rattle.std.proofs.lemmas.List.{map-set}
use mathlib.Core.Option.{some}
use lib.ListN.{get_elem?}
use Rattle.atomic_table.specs.Table.{State, Joins}
use Rattle.atomic_table.proofs.Lists.{set_else, at_map}
use Rattle.step_law.proofs.Changes.{each_at, sum_set, sum_mapped, each_unmapped, each_front, each_back}
use Rattle.pool_law.specs.declared.note.Noted.{Noted}
use Rattle.pool_law.specs.Homes.{home_of}
use Rattle.pool_table.specs.Words.{word_of, count_word_of}
use Rattle.pool_table.specs.Slots.{slot_of}
use Rattle.pool_table.specs.declared.views.Entry.{Entry}
use Rattle.pool_table.specs.declared.views.Layout.{Layout}
use Rattle.pool_table.specs.declared.views.Part.{Part}
use Rattle.pool_table.specs.declared.views.SeatView.{SeatView}
use Rattle.pool_table.specs.Views.{ObjectView, parts_of, took_turn, is_lane, object_view, object_part, inside_at, is_in, in_object_view, noted_weight, noted_in, numbered, spent, empty_part, one_if, blank, joined}
use Rattle.pool_table.specs.Counts.{weigh, on_root, on_place, ref_born, at_gain, at_loss, on_any, reached, returned, ref_kept, ref_gain, ref_loss, ref_ended, ref_vacated, on_exact, ref_retain, weigh_in}
use Rattle.pool_table.specs.Hands.{at_in, at_out, at_birth, at_end, at_birth_of, at_birth_as}
use Rattle.pool_table.proofs.Holdings.{held_both}
use Rattle.pool_table.proofs.Weights.{counted_none, settled_none, handy_none, orderly_none, orderly_parts, enters_none}
use Rattle.pool_table.proofs.Counts.{other_kept}
use Rattle.pool_table.proofs.Looks.{looks_regroup}
use Rattle.pool_table.proofs.Order.{order_regroups}
use Rattle.pool_table.proofs.Sequence.{one_regroups}
use Rattle.pool_table.proofs.Births.{born_regroups}
use Rattle.pool_table.proofs.Tidings.{known_regroups}
use Rattle.pool_table.proofs.Lone.{lone_joined}
use Rattle.pool_table.specs.declared.views.Letter.{Letter}
use Rattle.pool_table.proofs.Mails.{lying, mailed_regroups}
use Rattle.pool_table.specs.Sound.{IsKept, IsSound, IsView, Stands, OnceBelow}
use Rattle.pool_table.specs.Steps.{share_added, IsShare}
use Rattle.pool_table.proofs.Objects.{joined_kept}

module _ {H : Type 0} (stands : List ℕ → Setting → List Noted → H → Type 0) (l : Layout) where
  abbrev St : Type 0
  St = State (Option H) SeatView

  -- a view of nothing
  blank_view : (gs : Setting) → IsView l.shape gs (blank None)
  blank_view gs = record {
    beside = λ p g. omega arith;
    counted =
        counted_none (blank None) (All-cons (λ (p : Part). p.notes ≡ []) (empty_part None) [] refl
        (All-nil (λ (p : Part). p.notes ≡ [])));
    settled =
        settled_none (blank None) (All-cons (λ (p : Part). p.notes ≡ []) (empty_part None) [] refl
        (All-nil (λ (p : Part). p.notes ≡ [])));
    enters = enters_none (blank None) refl;
    handy =
        handy_none (blank None) (All-cons (λ (p : Part). p.notes ≡ []) (empty_part None) [] refl
        (All-nil (λ (p : Part). p.notes ≡ [])));
    roots =
        orderly_none (blank None) (All-cons (λ (p : Part). p.notes ≡ []) (empty_part None) [] refl
        (All-nil (λ (p : Part). p.notes ≡ [])));
    setting_is = tt;
    unnumbered =
        λ _. record {
          notes = All-cons (λ (p : Part). p.notes ≡ []) (empty_part None) [] refl
              (All-nil (λ (p : Part). p.notes ≡ []));
          inside = refl;
          turns = refl;
        };
    inside = tt;
    notes =
        All-cons (λ (p : Part). All (Stands l.shape p.number) p.notes) (empty_part None) []
        (All-nil (Stands l.shape None)) (All-nil (λ (p : Part). All (Stands l.shape p.number) p.notes));
  }

  -- two views in no section are made two others, which no sum over parts sees
  pub brought_together : (s : St) (r : IsSound stands l s) (id other : ℕ) (v w b z : SeatView)
      → get_elem? s.views id ≡ some v → other ≢ id → get_elem? (set s.views id b) other ≡ some w
      → v.inside ≡ None → w.inside ≡ None → b.inside ≡ None → z.inside ≡ None
      → ((f : Part → ℕ) → f (empty_part None) ≡ 0 → sum_by f (parts_of b) + sum_by f (parts_of z)
      ≡ sum_by f (parts_of v) + sum_by f (parts_of w))
      → ((P : Part → Type 0) → P (empty_part None) → All P (parts_of v) → All P (parts_of w)
      → All P (parts_of b) × All P (parts_of z))
      → b.turns + z.turns ≡ v.turns + w.turns → b.moves + z.moves ≡ v.moves + w.moves
      → ((f : Letter → ℕ) → lying f b + lying f z ≡ lying f v + lying f w)
      → (IsView l.shape r.setting v → IsView l.shape r.setting w
      → IsView l.shape r.setting b × IsView l.shape r.setting z)
      → b.own ≡ v.own → z.own.notes ≡ []
      → IsSound stands l (record { words = s.words; homes = s.homes; views = set (set s.views id b) other z })
  brought_together s r id other v w b z at ne at' vo wo bo zo adds shares turns moves letters fine own none =
      let before : get_elem? s.views other ≡ some w = sym (set_else s.views id other b ne) ∙ at' in
      let fv : IsView l.shape r.setting v = each_at (IsView l.shape r.setting) s.views id v r.views at in
      let fw : IsView l.shape r.setting w = each_at (IsView l.shape r.setting) s.views other w r.views before in
      let same : (f : SeatView → ℕ) → f b + f z ≡ f v + f w
      → sum_by f (set (set s.views id b) other z) ≡ sum_by f s.views = (λ f e.
      let a : sum_by f (set (set s.views id b) other z) + f w
      ≡ sum_by f (set s.views id b) + f z = sum_set f (set s.views id b) other w z at' in
      let c : sum_by f (set s.views id b) + f v ≡ sum_by f s.views + f b = sum_set f s.views id v b at in
      omega (arith, a, c, e)) in
      let out : (j : ℕ) (u : SeatView) → u.inside ≡ None
      → is_in (object_view l.shape j u) ≡ 0 = (λ j u e. ap (λ y. one_if (inside_at l.shape j y)) e) in
      let regrouped : (P : Part → Type 0) → P (empty_part None) → All (λ (u : SeatView). All P (parts_of u)) s.views
      → All (λ (u : SeatView). All P (parts_of u)) (set (set s.views id b) other z) = (λ P empty all.
      let mine = each_at (λ (u : SeatView). All P (parts_of u)) s.views id v all at in let theirs =
      each_at (λ (u : SeatView). All P (parts_of u)) s.views other w all before in
      let got = shares P empty mine theirs in
      All-set (λ (u : SeatView). All P (parts_of u)) (set s.views id b) other z got.1
      (All-set (λ (u : SeatView). All P (parts_of u)) s.views id b got.0 all)) in
      let regroups : (P : Part → Type 0) → ((q : Part) → q.notes ≡ [] → P q)
      → All (λ (u : SeatView). All P (parts_of u)) s.views
      → All (λ (u : SeatView). All P (parts_of u)) (set (set s.views id b) other z) =
      (λ P none_of all. regrouped P (none_of (empty_part None) refl) all) in
      record {
        setting = r.setting;
        words = r.words;
        homes = r.homes;
        between = r.between;
        views =
            All-set (IsView l.shape r.setting) (set s.views id b) other z (fine fv fw).1
            (All-set (IsView l.shape r.setting) s.views id b (fine fv fw).0 r.views);
        lanes =
            λ m. subst (OnceBelow l.shape.lanes m)
            (sym (same (numbered m) (adds (λ (p : Part). cond {A = ℕ} (is_lane m p.number) 1 0) refl)))
            (r.lanes m);
        objects = λ o fits. let j : ℕ = home_of l.shape o in
            let there : get_elem? (set (map (object_view l.shape j) s.views) id (object_view l.shape j b)) other
            ≡ some (object_view l.shape j w) =
            ap (λ (x : List ObjectView). get_elem? x other) (sym (map-set (object_view l.shape j) s.views id b))
            ∙ at_map (object_view l.shape j) (set s.views id b) other w at' in
            subst (λ (x : List ObjectView). IsKept stands l.shape r.setting o x
            (slice_index s.words (word_of l.shape o))
            (get_elem? s.homes (slot_of l.shape o)))
            (sym (map-set (object_view l.shape j) (set s.views id b) other z
            ∙ ap (λ (x : List ObjectView). set x other (object_view l.shape j z))
            (map-set (object_view l.shape j) s.views id b)))
            (joined_kept stands l.shape r.setting o (map (object_view l.shape j) s.views)
            (slice_index s.words (word_of l.shape o)) (get_elem? s.homes (slot_of l.shape o)) id other
            (object_view l.shape j v) (object_view l.shape j w) (object_view l.shape j b) (object_view l.shape j z)
            (r.objects o fits)
            (at_map (object_view l.shape j) s.views id v at) ne there (out j v vo) (out j w wo) (out j b bo)
            (out j z zo)
            (λ test. let g : Part → ℕ = λ (p : Part). count_by test (object_part l.shape j p).notes in let q : Part
            → ℕ = λ (p : Part). count_by test p.notes in
            let a : in_object_view test (object_view l.shape j b)
            ≡ sum_by g (parts_of b) = sum_mapped q (object_part l.shape j) (parts_of b) in
            let c : in_object_view test (object_view l.shape j z)
            ≡ sum_by g (parts_of z) = sum_mapped q (object_part l.shape j) (parts_of z) in
            let d : in_object_view test (object_view l.shape j v)
            ≡ sum_by g (parts_of v) = sum_mapped q (object_part l.shape j) (parts_of v) in
            let e : in_object_view test (object_view l.shape j w)
            ≡ sum_by g (parts_of w) = sum_mapped q (object_part l.shape j) (parts_of w) in let f = adds g refl in
            omega (arith, a, c, d, e, f))
            (λ f. let g : Part → ℕ = λ (p : Part). sum_by (noted_weight f) (object_part l.shape j p).notes in
            let q : Part
            → ℕ = λ (p : Part). sum_by (noted_weight f) p.notes in
            let a : noted_in f (object_view l.shape j b) ≡ sum_by g (parts_of b) =
            sum_mapped q (object_part l.shape j) (parts_of b) in
            let c : noted_in f (object_view l.shape j z) ≡ sum_by g (parts_of z) =
            sum_mapped q (object_part l.shape j) (parts_of z) in
            let d : noted_in f (object_view l.shape j v) ≡ sum_by g (parts_of v) =
            sum_mapped q (object_part l.shape j) (parts_of v) in
            let e : noted_in f (object_view l.shape j w) ≡ sum_by g (parts_of w) =
            sum_mapped q (object_part l.shape j) (parts_of w) in let h = adds g refl in
            omega (arith, a, c, d, e, h))
            (λ P e all more. let got = shares (λ (p : Part). P (object_part l.shape j p)) e
            (each_unmapped P (object_part l.shape j) (parts_of v) all)
            (each_unmapped P (object_part l.shape j) (parts_of w) more)
            in (
              All-map P (object_part l.shape j) (parts_of b) got.0,
              All-map P (object_part l.shape j) (parts_of z) got.1,
            )));
        born =
            born_regroups s.views (set (set s.views id b) other z)
            (λ f. same (weigh f) (adds (λ (q : Part). sum_by f q.notes) refl)) regroups r.born;
        known =
            known_regroups s.views (set (set s.views id b) other z)
            (λ f. same (weigh f) (adds (λ (q : Part). sum_by f q.notes) refl)) regroups r.known;
        lone =
            lone_joined s.views id other v b z at
            (λ f. same (weigh f) (adds (λ (q : Part). sum_by f q.notes) refl)) own none r.lone;
        looks =
            looks_regroup s.views (set (set s.views id b) other z)
            (λ p g. same (weigh (on_root ref_retain p g))
            (adds (λ (q : Part). sum_by (on_root ref_retain p g) q.notes) refl)) regroups r.looks;
        order = order_regroups s.views (set (set s.views id b) other z) regroups r.order;
        one_order =
            one_regroups l.shape s.views (set (set s.views id b) other z)
            (λ f. same (weigh f) (adds (λ (q : Part). sum_by f q.notes) refl)) regrouped r.one_order;
        mailed =
            mailed_regroups s.views (set (set s.views id b) other z)
            (λ f. same (weigh f) (adds (λ (q : Part). sum_by f q.notes) refl))
            (λ f. same (lying f) (letters f)) regrouped
            r.mailed;
        room = r.room;
        budget =
            subst (λ (x : ℕ). x ≤ l.shape.lanes * l.turns)
            (sym (same spent (let a = adds (λ (p : Part). count_by took_turn p.notes) refl in omega
            (arith, a, turns)))) r.budget;
        few = r.few;
        moved =
            subst (λ (x : ℕ × ℕ). x.0 ≤ l.shape.lanes * l.moves + x.1)
            (λ i. (
              sym (same reached (let a = adds (λ (q : Part). sum_by (on_any ref_retain) q.notes) refl in
                  omega (arith, a, moves))) i,
              sym (same returned
                  (adds (λ (q : Part). sum_by (on_any ref_kept) q.notes) refl)) i,
            )) r.moved;
        counts =
            λ p lt. other_kept p s.views (set (set s.views id b) other z)
            (slice_index s.words (count_word_of l.shape p))
            (λ f g. same (weigh (on_root f p g)) (adds (λ (q : Part). sum_by (on_root f p g) q.notes) refl))
            (λ f. same (weigh (on_place f p)) (adds (λ (q : Part). sum_by (on_place f p) q.notes) refl))
            (r.counts p lt);
      }

  -- two views in no section become one
  pub joins_allowed : (id other : ℕ) (v w : SeatView) → v.inside ≡ None → w.inside ≡ None
      → Joins (IsSound stands l) id v other w (joined v w) (blank None)
  joins_allowed id other v w vo wo s r at ne at' =
      brought_together s r id other v w (joined v w) (blank None) at ne at' vo wo vo refl
      (λ f e.
      let a : sum_by f (parts_of (joined v w)) ≡ sum_by f (parts_of v) + sum_by f (parts_of w) =
      sum_by-append f (parts_of v) (parts_of w) in
      let c : sum_by f (empty_part None ∷ []) ≡ f (empty_part None) + 0 = sum_by-cons f (empty_part None) [] in
      omega (arith, a, c, e))
      (λ P e mine theirs. (
        All-append P (parts_of v) (parts_of w) mine theirs,
        All-cons P (empty_part None) [] e (All-nil P),
      ))
      (let t : ℕ = v.turns in let u : ℕ = w.turns in let g : t + u + 0 ≡ t + u = omega arith in g)
      (let t : ℕ = v.moves in let u : ℕ = w.moves in let g : t + u + 0 ≡ t + u = omega arith in g)
      (λ f. let a = sum_by-append f v.letters w.letters in omega (arith, a))
      (λ fv fw. (joined_view r.setting fv fw, blank_view r.setting)) refl refl
    where
      both : (f : Entry → ℕ) → weigh f (joined v w) ≡ weigh f v + weigh f w
      both f = sum_by-append (λ (p : Part). sum_by f p.notes) (parts_of v) (parts_of w)

      apart : (f : Entry → ℕ) → weigh_in f (joined v w).others ≡ weigh_in f v.others + weigh f w
      apart f = sum_by-append (λ (p : Part). sum_by f p.notes) v.others (parts_of w)

      joined_view : (gs : Setting) → IsView l.shape gs v → IsView l.shape gs w → IsView l.shape gs (joined v w)
      joined_view gs fv fw = record {
        enters = enters_none (joined v w) vo;
        roots = record {
          borne_of =
              λ p g. let q =
              fv.roots.borne_of p g in let u =
              fw.roots.borne_of p g in let a =
              both (on_root ref_born p g) in let b = both (at_birth_of p g) in omega (arith, q, u, a, b);
          borne_as =
              λ p g x. let q =
              fv.roots.borne_as p g x in let u =
              fw.roots.borne_as p g x in let a =
              both (on_exact ref_born p g x) in let b =
              both (at_birth_as p g x) in omega (arith, q, u, a, b);
          held = λ q. held_both q v w (joined v w) both (fv.roots.held q) (fw.roots.held q);
          borne =
              λ p. let q =
              fv.roots.borne p in let u =
              fw.roots.borne p in let a =
              both (on_place ref_born p) in let b = both (at_birth p) in omega (arith, q, u, a, b);
          bears =
              λ p. let q =
              fv.roots.bears p in let u =
              fw.roots.bears p in let a =
              both (at_in p) in let b =
              both (at_birth p) in let c =
              both (at_out p) in let d =
              both (on_place ref_born p) in let e =
              both (on_place ref_vacated p) in omega (arith, q, u, a, b, c, d, e);
          ending =
              λ p g. let q =
              fv.roots.ending p g in let u =
              fw.roots.ending p g in let a =
              both (at_end p g) in let b = both (on_root ref_ended p g) in omega (arith, q, u, a, b);
          over =
              λ p g. let q =
              fv.roots.over p g in let u =
              fw.roots.over p g in let a =
              both (at_end p g) in let b = both (on_root ref_vacated p g) in omega (arith, q, u, a, b);
        };
        handy =
            λ p. let q =
            fv.handy p in let u =
            fw.handy p in let a =
            both (at_in p) in let c =
            both (at_out p) in let d =
            both (on_place ref_born p) in let e =
            both (on_place ref_vacated p) in omega (arith, q, u, a, c, d, e);
        settled =
            λ p g. let q =
            fv.settled p g in let u =
            fw.settled p g in let a =
            both (on_root ref_ended p g) in let c =
            both (on_root ref_vacated p g) in omega (arith, q, u, a, c);
        beside =
            λ p g. let q =
            fv.beside p g in let u =
            fw.counted p g in let a =
            apart (on_root ref_gain p g) in let c =
            apart (on_root ref_loss p g) in let d =
            apart (at_gain p g) in let e = apart (at_loss p g) in omega (arith, q, u, a, c, d, e);
        counted =
            λ p g. let q =
            fv.counted p g in let u =
            fw.counted p g in let a =
            both (on_root ref_gain p g) in let c =
            both (on_root ref_loss p g) in let d =
            both (at_gain p g) in let e = both (at_loss p g) in omega (arith, q, u, a, c, d, e);
        setting_is = fv.setting_is;
        unnumbered =
            λ all. let iv =
            fv.unnumbered (each_front (λ (p : Part). p.number ≡ None) (parts_of v) (parts_of w) all) in let iw =
            fw.unnumbered (each_back (λ (p : Part). p.number ≡ None) (parts_of v) (parts_of w) all) in
            record {
              notes = All-append (λ (p : Part). p.notes ≡ []) (parts_of v) (parts_of w) iv.notes iw.notes;
              inside = iv.inside;
              turns = (let a = iv.turns in let b = iw.turns in omega (arith, a, b));
            };
        inside = fv.inside;
        notes =
            All-append (λ (p : Part). All (Stands l.shape p.number) p.notes) (parts_of v) (parts_of w) fv.notes
            fw.notes;
      }

  -- the moves of a share come to a view in no section
  pub accepts_allowed : (id other : ℕ) (v w : SeatView) → v.inside ≡ None → IsShare w
      → Joins (IsSound stands l) id v other w (share_added w.moves v) (blank None)
  accepts_allowed id other v w vo is s r at ne at' =
      brought_together s r id other v w (share_added w.moves v) (blank None) at ne at' vo (λ i. (is i).inside) vo refl
      (λ f e.
      let c : sum_by f (empty_part None ∷ []) ≡ f (empty_part None) + 0 = sum_by-cons f (empty_part None) [] in
      let p : sum_by f (parts_of w) ≡ sum_by f (empty_part None ∷ []) = (λ i. sum_by f (parts_of (is i))) in
      omega (arith, c, p))
      (λ P e mine theirs. (mine, All-cons P (empty_part None) [] e (All-nil P)))
      (let t : ℕ = v.turns in let u : ℕ = w.turns in let none : u ≡ 0 = (λ i. (is i).turns) in
      let g : t + 0 ≡ t + u = omega (arith, none) in g)
      (let t : ℕ = v.moves in let u : ℕ = w.moves in let g : t + u + 0 ≡ t + u = omega arith in g)
      (λ f. let none : lying f w ≡ 0 = (λ i. lying f (is i)) in omega (arith, none))
      (λ fv fw. (
        record {
          beside = fv.beside;
          counted = fv.counted;
          settled = fv.settled;
          enters = enters_none (share_added w.moves v) vo;
          handy = fv.handy;
          roots = orderly_parts v (share_added w.moves v) refl fv.roots;
          setting_is = fv.setting_is;
          unnumbered =
              λ all. let i = fv.unnumbered all in record { notes = i.notes; inside = i.inside; turns = i.turns };
          inside = fv.inside;
          notes = fv.notes;
        },
        blank_view r.setting,
      )) refl refl
