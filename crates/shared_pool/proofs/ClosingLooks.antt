-- What the lanes looked up of counts is right.
use Rattle.step_law.specs.Settings.{Setting}
use Rattle.std.proofs.Common.{◌≡◌, ℕ, zero, suc, ◌+◌, ◌<◌, ◌≤◌, List, [], ◌∷◌, ◌++◌, length, map, Bool, sym, refl, ap, ◌∙◌, subst, arith, ⊎_elim, eq-eqb, ne_eqb, Some}
use Rattle.std.specs.Prelude.{◌==◌, if◌then◌else◌, Option, All, sum_by, slice_get}
use Rattle.std.proofs.lemmas.List.Elements.{All-head, All-weaker}
use Rattle.std.proofs.lemmas.List.Sums.{sum_by-cons}
use Rattle.pool_law.specs.declared.id.RootId.{RootId}
use Rattle.pool_law.specs.declared.note.RefDid.TheVariants.{Look}
use Rattle.pool_law.specs.declared.note.Note.{Note}
use Rattle.pool_law.specs.declared.note.Noted.{Noted}
use Rattle.pool_law.specs.Logs.{ToldNote, of_lane}
use Rattle.pool_law.specs.Counts.{note_gains, note_loses, is_retain, is_release, count_in}
use Rattle.pool_law.specs.Legal.{others_retains}
use Rattle.pool_table.specs.declared.views.Entry.{Entry}
use Rattle.pool_table.specs.declared.views.Entry.TheVariants.{At, Ref, Busy}
use Rattle.pool_table.specs.declared.views.Layout.{Layout}
use Rattle.pool_table.specs.declared.views.Part.{Part}
use Rattle.pool_table.specs.declared.views.SeatView.{SeatView}
use Rattle.pool_table.specs.Views.{parts_of}
use Rattle.pool_table.specs.Counts.{on_root, at_gain, at_loss, weigh, weigh_in, ref_gain, ref_loss, ref_retain}
use Rattle.pool_table.specs.Births.{IsBorn, NamesBorn}
use Rattle.pool_table.specs.Looks.{LooksRight as AreRight, retains_in}
use Rattle.pool_table.specs.Closed.{IsClosed}
use Rattle.pool_table.proofs.Ledgers.{sum_add}
use Rattle.pool_table.proofs.Lists.{at_cut, none_cut}
use Rattle.pool_table.proofs.RootEntries.{Alone}
use Rattle.shared_pool.specs.Looks.{LookRight, LooksRight}
use Rattle.shared_pool.specs.Closing.{note_of, entry_of, entries_in}
use Rattle.shared_pool.proofs.ClosingWhole.{at, there_or}
use Rattle.shared_pool.proofs.ClosingSums.{law, note_is, count_in-is, sums_same, weigh_same, retains_alike, releases_alike, gains_alike, losses_alike}

-- ---- Looks.

-- each look of a part is right
abbrev AllBound : RootId → ℕ → List Entry → Type 0
AllBound r others own =
    (before after : List Entry) (k : ℕ) → own ≡ before ++ Ref r (Look k) ∷ after
    → LookRight r others (map entry_of before) k

-- where a mapped list is cut, the list is cut
cut_map : {A B : Type 0} (f : A → B) (xs : List A) (before after : List B) (y : B) → map f xs ≡ before ++ y ∷ after →
    (front : List A) × (x : A) × (back : List A) × (xs ≡ front ++ x ∷ back) × (map f front ≡ before) × (f x ≡ y)
cut_map f [] before after y is = none_cut before after y is
cut_map f (x ∷ xs) [] after y is = let e : f x ≡ y = cc is in ([], x, xs, refl, refl, e)
cut_map {A} f (x ∷ xs) (b ∷ bs) after y is =
    let e : f x ≡ b = cc is in let g : map f xs ≡ bs ++ y ∷ after = cc is in
    let c = cut_map f xs bs after y g in (x ∷ c.0, c.1, c.2, ap (λ (zs : List A). x ∷ zs) c.3, (λ i. e i ∷ c.4 i), c.5)

look_is : (r : RootId) (k : ℕ) (e : Entry) → note_of e ≡ Note.Ref r (Look k) → e ≡ Ref r (Look k)
look_is r k (At o j n) is = absurd (cc is)
look_is r k (Ref q d) is = let a : q ≡ r = cc is in let b : d ≡ Look k = cc is in λ i. Ref (a i) (b i)
look_is r k (Busy b) is = absurd (cc is)

right_in : (r : RootId) (others : ℕ) (own : List Entry) → AllBound r others own → LooksRight r others (map entry_of own)
right_in r others own all before after e found is note =
    let c = cut_map entry_of own before after e is in
    let look = look_is r found c.1 (sym (note_is c.1) ∙ (ap (λ (x : ToldNote). x.note) c.5 ∙ note)) in
    subst (λ (es : List ToldNote). LookRight r others es found) c.4
    (all c.0 c.2 found (subst (λ (x : Entry). own ≡ c.0 ++ x ∷ c.2) look c.3))

-- ---- The retains of others.

none_beside : (r : RootId) (lane at : ℕ) (ps : List Part) → lane < at
    → others_retains r lane at (entries_in ps) ≡ weigh_in (law (is_retain r)) ps
none_beside r lane at [] lt = refl
none_beside r lane at (p ∷ ps) lt =
    let a = sum_by-cons (λ (q : Part). sum_by (law (is_retain r)) q.notes) p ps in let b =
    count_in-is (is_retain r) p.notes in
    let c = none_beside r lane (at + 1) ps (omega (arith, lt)) in
    let d : (if at == lane then 0 else count_in (is_retain r) (map entry_of p.notes))
    ≡ count_in (is_retain r) (map entry_of p.notes) =
    ap (λ (t : Bool). if t then 0 else count_in (is_retain r) (map entry_of p.notes))
    (ne_eqb at lane (λ e. omega (arith, e, lt))) in omega (arith, a, b, c, d)

beside : (r : RootId) (at i : ℕ) (ps : List Part) (p : Part) → slice_get ps i ≡ Some p
    → others_retains r (at + i) at (entries_in ps) + sum_by (law (is_retain r)) p.notes
    ≡ weigh_in (law (is_retain r)) ps
beside r at i [] p is = absurd (cc is)
beside r at zero (q ∷ ps) p is =
    let same : q ≡ p = cc is in
    let a = sum_by-cons (λ (x : Part). sum_by (law (is_retain r)) x.notes) q ps in let b =
    ap (λ (x : Part). sum_by (law (is_retain r)) x.notes) same in
    let c = none_beside r (at + 0) (at + 1) ps (omega arith) in
    let d : (if at == at + 0 then 0 else count_in (is_retain r) (map entry_of q.notes)) ≡ 0 =
    ap (λ (t : Bool). if t then 0 else count_in (is_retain r) (map entry_of q.notes))
    (eq-eqb at (at + 0) (omega arith)) in omega (arith, a, b, c, d)
beside r at (suc i) (q ∷ ps) p is =
    let a = sum_by-cons (λ (x : Part). sum_by (law (is_retain r)) x.notes) q ps in let b =
    count_in-is (is_retain r) q.notes in
    let next : at + 1 + i ≡ at + suc i = omega arith in
    let c = subst (λ (n : ℕ). others_retains r n (at + 1) (entries_in ps) + sum_by (law (is_retain r)) p.notes
    ≡ weigh_in (law (is_retain r)) ps) next (beside r (at + 1) i ps p is) in
    let d : (if at == at + suc i then 0 else count_in (is_retain r) (map entry_of q.notes))
    ≡ count_in (is_retain r) (map entry_of q.notes) =
    ap (λ (t : Bool). if t then 0 else count_in (is_retain r) (map entry_of q.notes))
    (ne_eqb at (at + suc i) (λ e. omega (arith, e))) in omega (arith, a, b, c, d)

-- ---- The logs with what their entries know.

entries_at : (ps : List Part) (lane : ℕ) (p : Part) → slice_get ps lane ≡ Some p
    → of_lane (entries_in ps) lane ≡ map entry_of p.notes
entries_at [] lane p is = absurd (cc is)
entries_at (q ∷ ps) zero p is = let same : q ≡ p = cc is in ap (λ (x : Part). map entry_of x.notes) same
entries_at (q ∷ ps) (suc lane) p is = entries_at ps lane p is

entries_past : (ps : List Part) (lane : ℕ) → length ps ≤ lane → of_lane (entries_in ps) lane ≡ []
entries_past [] lane le = refl
entries_past (q ∷ ps) zero le =
    absurd (let n : ℕ = length ps in let le' : suc n ≤ 0 = le in let g : ⊥ = omega (arith, le') in g)
entries_past (q ∷ ps) (suc lane) le =
    entries_past ps lane (let n : ℕ = length ps in let le' : suc n ≤ suc lane = le in let g : n ≤ lane =
    omega (arith, le') in g)

module _ {H : Type 0} (stands : List ℕ → Setting → List Noted → H → Type 0) (l : Layout) (v : SeatView)
    (homes : List (Option H)) (words : List ℕ)
    (closed : IsClosed stands l v homes words) where
  abbrev pub Names : Part → Type 0
  Names p = All (NamesBorn (v ∷ [])) p.notes

  pub names : All Names (parts_of v)
  names = All-head (λ (u : SeatView). All Names (parts_of u)) v [] closed.born

  -- of a root that was born, no other of its place and generation is named
  pub alone : (r : RootId) → IsBorn (v ∷ []) r → All (λ (p : Part). All (Alone r) p.notes) (parts_of v)
  alone r born = All-weaker Names (λ (p : Part). All (Alone r) p.notes)
      (λ p all. All-weaker (NamesBorn (v ∷ [])) (Alone r)
      (λ e named q is place generation. closed.alone r q born (named q is) place generation) p.notes all)
      (parts_of v) names

  all_bound : (r : RootId) (lane : ℕ) (p : Part) → slice_get (parts_of v) lane ≡ Some p
      → AllBound r (others_retains r lane 0 (entries_in (parts_of v))) p.notes
  all_bound r lane p there before after k is =
      let born : IsBorn (v ∷ []) r =
      (at_cut (NamesBorn (v ∷ [])) before after (Ref r (Look k))
      (subst (All (NamesBorn (v ∷ []))) is (at Names (parts_of v) lane p names there))).0 r refl in
      let one = alone r born in let here : All (Alone r) p.notes =
      at (λ (q : Part). All (Alone r) q.notes) (parts_of v) lane p one there in
      let front : All (Alone r) before =
      (at_cut (Alone r) before after (Ref r (Look k)) (subst (All (Alone r)) is here)).1 in
      let right = at (AreRight (retains_in (v ∷ []))) (parts_of v) lane p
      (All-head (λ (u : SeatView). All (AreRight (retains_in (v ∷ []))) (parts_of u)) v [] closed.looks) there
      before after r k is in
      let pl : ℕ = r.place in let g : ℕ = r.generation in
      let gains = sums_same (law (note_gains r)) (λ (e : Entry). on_root ref_gain pl g e + at_gain pl g e) before
      (All-weaker (Alone r) _ (gains_alike r) before front) in
      let losses = sums_same (law (note_loses r)) (λ (e : Entry). on_root ref_loss pl g e + at_loss pl g e) before
      (All-weaker (Alone r) _ (losses_alike r) before front) in
      let both = sum_add (on_root ref_gain pl g) (at_gain pl g) before in let both' =
      sum_add (on_root ref_loss pl g) (at_loss pl g) before in
      let released = sums_same (law (is_release r)) (on_root ref_loss pl g) before
      (All-weaker (Alone r) _ (releases_alike r) before front) in
      let retained = sums_same (law (is_retain r)) (on_root ref_retain pl g) before
      (All-weaker (Alone r) _ (retains_alike r) before front) in
      let own = sums_same (law (is_retain r)) (on_root ref_retain pl g) p.notes
      (All-weaker (Alone r) _ (retains_alike r) p.notes here) in
      let all = weigh_same (law (is_retain r)) (on_root ref_retain pl g) (parts_of v)
      (All-weaker (λ (q : Part). All (Alone r) q.notes)
      (λ (q : Part). All (λ (e : Entry). law (is_retain r) e ≡ on_root ref_retain pl g e) q.notes)
      (λ q alone. All-weaker (Alone r) _ (retains_alike r) q.notes alone) (parts_of v) one) in
      let views = sum_by-cons (weigh (on_root ref_retain pl g)) v [] in
      let next : 0 + lane ≡ lane = omega arith in
      let others = subst (λ (n : ℕ). others_retains r n 0 (entries_in (parts_of v)) + sum_by (law (is_retain r)) p.notes
      ≡ weigh_in (law (is_retain r)) (parts_of v)) next (beside r 0 lane (parts_of v) p there) in
      let s = right.least in let t = right.most in
      let ga = count_in-is (note_gains r) before in let lo = count_in-is (note_loses r) before in let re =
      count_in-is (is_release r) before in let ta = count_in-is (is_retain r) before in
      record {
        least = omega (arith, ga, lo, gains, losses, both, both', s);
        most =
            omega (arith, re, ta, released, retained, own, all, views, others, t);
      }

  pub looks_right : (r : RootId) (lane : ℕ) → LooksRight r (others_retains r lane 0 (entries_in (parts_of v)))
      (of_lane (entries_in (parts_of v)) lane)
  looks_right r lane = ⊎_elim
      (λ (t : (p : Part) × (slice_get (parts_of v) lane ≡ Some p)).
      subst (LooksRight r (others_retains r lane 0 (entries_in (parts_of v))))
      (sym (entries_at (parts_of v) lane t.0 t.1))
      (right_in r (others_retains r lane 0 (entries_in (parts_of v))) t.0.notes (all_bound r lane t.0 t.1)))
      (λ (past : length (parts_of v) ≤ lane).
      subst (LooksRight r (others_retains r lane 0 (entries_in (parts_of v))))
      (sym (entries_past (parts_of v) lane past))
      (λ before after e found is note. none_cut before after e is))
      (there_or (parts_of v) lane)
