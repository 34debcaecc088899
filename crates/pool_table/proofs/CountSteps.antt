-- Each step on the word of a count keeps the rule.
use Rattle.step_law.specs.Settings.{Setting}
use Rattle.std.proofs.Common.{◌≡◌, ◌≢◌, ℕ, ◌+◌, ◌-◌, ◌*◌, ◌/◌, ◌%◌, ◌^◌, ◌<◌, ◌≤◌, List, ◌∷◌, set, Bool, true, false, cond, eqb, sym, refl, ap, ◌∙◌, subst, inl, inr, arith, lt_of_not-le, eq-eqb, ◌++◌, []}
use Rattle.std.specs.Prelude.{Option, None, All, slice_index}
use Rattle.std.proofs.lemmas.List.Elements.{All-weaker}
use mathlib.Core.Logic.{dite}
use native.Mathlib.Decide.{ℕ_discrete, dec_le}
use mathlib.Core.Option.{some, none}
use lib.ListN.{get_elem?}
use Rattle.atomic_table.specs.Table.{State, Me, step, keeps, Allows}
use Rattle.step_law.proofs.Changes.{each_at}
use Rattle.pool_law.specs.declared.note.Noted.{Noted}
use Rattle.pool_law.specs.declared.id.RootId.{RootId}
use Rattle.pool_law.specs.declared.note.RefDid.{RefDid}
use Rattle.pool_law.specs.declared.note.RefDid.TheVariants.{Retain, Kept, Ended, Vacated, Look}
use Rattle.pool_law.proofs.PatternLemmas.{same_root-refl}
use Rattle.pool_table.specs.Slots.{slots_of}
use Rattle.pool_table.specs.Words.{count_word_of}
use Rattle.pool_table.specs.declared.views.Entry.TheVariants.{Ref}
use Rattle.pool_table.specs.declared.views.Layout.{Layout}
use Rattle.pool_table.specs.declared.views.Part.{Part}
use Rattle.pool_table.specs.declared.views.SeatView.{SeatView}
use Rattle.pool_table.specs.Views.{parts_of}
use Rattle.pool_table.specs.Counts.{IsCounted, on_root, ref_ended, ref_vacated, ref_born, on_place, weigh, tally, HasCount, HasToken, with_ref, on_this}
use Rattle.pool_table.specs.Hands.{at_in, at_out, taken, put_down, InHand, HasEnded, HasNoEnd, ends}
use Rattle.pool_table.specs.Looks.{IsLookRight, retains_in}
use Rattle.pool_table.specs.Sequence.{Leave}
use Rattle.pool_table.proofs.Fitting.{left_here, vacated_fits}
use Rattle.pool_table.proofs.Exact.{count_at, count_born, token_at, token_born, ended_at, none_ended}
use Rattle.pool_table.specs.Sound.{IsSound, IsView}
use Rattle.pool_table.specs.Steps.{retains, looks, releases, vacates}
use Rattle.pool_table.proofs.AtPlace.{TokenAt}
use Rattle.pool_table.proofs.Counts.{weigh_ref, retained_kept, looked_kept, released_kept, ended_kept, vacated_kept}
use Rattle.pool_table.proofs.Weights.{weigh_none, strict_sum}
use Rattle.pool_table.proofs.Lone.{count_names, token_names}
use Rattle.pool_table.proofs.WordChanges.{live_word, small_count, ref_changes, look_right, awake_count}
use Rattle.pool_table.proofs.CountedViews.{counted_more, counted_less, settled_more, handy_more, orderly_more, settled_less, orderly_vacated}

module _ {H : Type 0} (stands : List ℕ → Setting → List Noted → H → Type 0) (l : Layout) where
  abbrev St : Type 0
  St = State (Option H) SeatView

  -- a view with an end token: the word has its generation, no count, and isn't vacant
  pub token_word : (s : St) (r : IsSound stands l s) (id p g : ℕ) (v : SeatView)
      (lt : p < l.shape.lanes * l.shape.handles) → get_elem? s.views id ≡ some v → TokenAt p g v
      → (g ≡ (r.counts p lt).generation) × (0 < (r.counts p lt).generation) × ((r.counts p lt).count ≡ 0)
      × ((r.counts p lt).vacant ≡ 0)
  token_word s r id p g v lt at has =
      let k = r.counts p lt in let x : SeatView → ℕ = weigh (on_root ref_vacated p g) in let y : SeatView
      → ℕ = weigh (on_root ref_ended p g) in
      let all = All-weaker (IsView l.shape r.setting) (λ (u : SeatView). x u + x u ≤ y u + y u)
      (λ u fine. let q = fine.settled p g in omega (arith, q)) s.views r.views in
      let twice = strict_sum x x y y s.views id v all at (omega (arith, has)) in
      let a : ℕ = tally ref_vacated p g s.views in let b : ℕ = tally ref_ended p g s.views in
      let twice' : a + a < b + b = twice in let more : a < b = omega (arith, twice') in
      let pos : g ≢ 0 = (λ e. let z : b ≡ 0 = k.later ref_ended g (inl e) in omega (arith, z, more)) in
      let low : g ≤ k.generation = dite (dec_le g k.generation) (λ le. le)
      (λ gt. let z : b ≡ 0 = k.later ref_ended g (inr (lt_of_not-le gt)) in absurd (omega (arith, z, more))) in
      let same : g ≡ k.generation = dite (ℕ_discrete g k.generation) (λ e. e)
      (λ ne. let z = k.past g (omega (arith, pos)) (omega (arith, low, ne)) in let z1 : b ≡ 1 = z.1 in let z2 : a
      ≡ 1 = z.2 in absurd (omega (arith, z1, z2, more))) in
      let born : 0 < k.generation = omega (arith, pos, same) in
      let e0 = k.ended born in
      let here : (tally ref_vacated p k.generation s.views < tally ref_ended p k.generation s.views) =
      subst (λ (g : ℕ). tally ref_vacated p g s.views < tally ref_ended p g s.views) same more in
      let a' : ℕ = tally ref_vacated p k.generation s.views in let b' : ℕ = tally ref_ended p k.generation s.views in
      let here' : a' < b' = here in
      let over : k.count ≡ 0 = dite (ℕ_discrete k.count 0) (λ z. z)
      (λ ne. let z : b' ≡ 0 = e0.1 (omega (arith, ne)) in absurd (omega (arith, z, here'))) in
      let one : b' ≡ 1 = e0.0 over in let va : a' ≡ k.vacant = k.vacated born in
      (same, born, over, omega (arith, here', one, va))

  low_part : (word g c v : ℕ) → word ≡ g * 4294967296 + (2 * c + v) → c ≤ 1073741824 → v ≡ 0 → word % 4294967296 ≡ 2 * c
  low_part word g c v e lt z = let e' : word ≡ 4294967296 * g + 2 * c = omega (arith, e, z) in omega (arith, e', lt)

  add_two : (word g c v : ℕ) → word ≡ g * 4294967296 + (2 * c + v) → c ≤ 1073741824 → v ≤ 1
      → word < 18446744073709551616 → (word + 2) % 2 ^ 64 ≡ word + 2
  add_two word g c v e lt le under = omega (arith, e, lt, le, under)

  less_two : (word g c v : ℕ) → word ≡ g * 4294967296 + (2 * c + v) → 0 < c → word < 18446744073709551616
      → ((word + (2 ^ 64 - 2)) % 2 ^ 64 + 2 ≡ word)
  less_two word g c v e pos under = omega (arith, e, pos, under)

  -- one of its own steps more
  pub own_step : (f : RefDid → ℕ) (v : SeatView) (q : RootId) (d : RefDid) (m : ℕ)
      → weigh (on_this f q) (with_ref v q d m) ≡ weigh (on_this f q) v + f d
  own_step f v q d m =
      let a = weigh_ref (on_this f q) v q d m in let b : on_this f q (Ref q d)
      ≡ f d = ap (λ (t : Bool). cond {A = ℕ} t (f d) 0) (same_root-refl q) in
      omega (arith, a, b)

  -- the view that ends a root has its end token, and hasn't noted its end
  ended_here : (s : St) (r : IsSound stands l s) (id : ℕ) (v : SeatView) (root : RootId) (m : ℕ)
      (lt : root.place < l.shape.lanes * l.shape.handles) → get_elem? s.views id ≡ some v → HasCount root v
      → HasToken root (with_ref v root Ended m) × HasNoEnd root (with_ref v root Ended m)
  ended_here s r id v root m lt at has =
      let p : ℕ = root.place in let g : ℕ = root.generation in let k = r.counts p lt in let live =
      live_word stands l s r id p g v lt at (count_at stands l s r id v at root has) in
      let pos : 0 < k.generation = dite (ℕ_discrete k.generation 0)
      (λ z. let a = (k.unborn z).0 in let b = live.1 in absurd (omega (arith, a, b))) (λ ne. omega (arith, ne)) in
      let over : tally ref_ended p g s.views ≡ 0 = ap (λ (y : ℕ). tally ref_ended p y s.views) live.0
      ∙ (k.ended pos).1 live.1 in
      let none = none_ended stands l s r id v at root (count_born stands l s r id v at root has) over in
      let a = own_step ref_ended v root Ended m in let b = own_step ref_vacated v root Ended m in let c =
      weigh_ref (ends root) v root Ended m in
      let n0 = none.0 in let n1 = none.1 in let n2 = none.2 in let z : ends root (Ref root Ended) ≡ 0 = refl in
      (omega (arith, a, b, n0, n1), omega (arith, c, n2, z))

  module _ (id : ℕ) (me : Me (Option H) SeatView) (root : RootId) (lt : root.place < l.shape.lanes * l.shape.handles)
      (counts : HasCount root me.0) (out : me.0.inside ≡ None) where
    pub retains_allowed : 0 < me.0.moves → Allows (IsSound stands l) (slots_of l.shape) id me
        (count_word_of l.shape root.place) (λ n. (n + 2) % 2 ^ 64)
        (retains root (step (slots_of l.shape) (count_word_of l.shape root.place) 2 0 none) me)
    retains_allowed moves s r _ at under =
        let p : ℕ = root.place in let v : SeatView = me.0 in let has = count_at stands l s r id v at root counts in
        let born = count_born stands l s r id v at root counts in let k = r.counts p lt in let live =
        live_word stands l s r id p root.generation v lt at has in
        let word : ℕ = slice_index s.words (count_word_of l.shape p) in let small = small_count stands l s r p lt in
        let up : (word + 2) % 2 ^ 64 ≡ word + 2 = add_two word k.generation k.count k.vacant k.word_is small k.free
        under in
        let fine = each_at (IsView l.shape r.setting) s.views id v r.views at in (
          with_ref v root Retain (v.moves - 1),
          keeps,
          tt,
          ref_changes stands l s r id p ((word + 2) % 2 ^ 64) (v.moves - 1) v root Retain lt refl out at
              (awake_count stands l s r id p root.generation v at has)
              (let m : ℕ = v.moves in let pos : 0 < m = moves in let g : 1 + (m - 1) ≤ m + 0 = omega (arith, pos) in
              g)
              (counted_more stands l v root Retain (v.moves - 1) fine.counted refl)
              (settled_more stands l v root Retain (v.moves - 1) fine.settled refl)
              (handy_more stands l v root Retain (v.moves - 1) fine.handy refl)
              (orderly_more stands l v root Retain (v.moves - 1) fine.roots refl refl) (λ k e. absurd (cc e))
              (subst (IsCounted p (set s.views id (with_ref v root Retain (v.moves - 1)))) (sym up)
              (retained_kept p s.views id v root (v.moves - 1) at refl word k live.0 live.1)) born
              (k.count, live.1, left_here stands l s r r.one_order root lt live.0) (count_names root v counts),
          refl,
        )

    pub looks_allowed : Allows (IsSound stands l) (slots_of l.shape) id me (count_word_of l.shape root.place) (λ n. n)
        (looks root (step (slots_of l.shape) (count_word_of l.shape root.place) 0 0 none) me)
    looks_allowed s r _ at under =
        let p : ℕ = root.place in let v : SeatView = me.0 in let has = count_at stands l s r id v at root counts in
        let born = count_born stands l s r id v at root counts in let k = r.counts p lt in let live =
        live_word stands l s r id p root.generation v lt at has in
        let word : ℕ = slice_index s.words (count_word_of l.shape p) in let d : RefDid = Look (word % 4294967296 / 2) in
        let fine = each_at (IsView l.shape r.setting) s.views id v r.views at in (
          with_ref v root d v.moves,
          keeps,
          tt,
          ref_changes stands l s r id p word v.moves v root d lt refl out at
              (awake_count stands l s r id p root.generation v at has)
              (let m : ℕ = v.moves in let g : 0 + m ≤ m + 0 = omega arith in g)
              (counted_more stands l v root d v.moves fine.counted refl)
              (settled_more stands l v root d v.moves fine.settled refl)
              (handy_more stands l v root d v.moves fine.handy refl)
              (orderly_more stands l v root d v.moves fine.roots refl refl)
              (λ n e. subst (λ (y : ℕ). IsLookRight root.place root.generation y
              (retains_in (set s.views id (with_ref v root d v.moves)) root.place root.generation)
              (v.own.notes ++ Ref root d ∷ []) v.own.notes)
              (let f : word % 4294967296 / 2 ≡ n = cc e in f)
              (look_right stands l s r id v root v.moves (word % 4294967296 / 2) lt at has
              (let low = low_part word k.generation k.count k.vacant k.word_is (small_count stands l s r p lt)
              (k.live live.1) in omega (arith, low))))
              (looked_kept p s.views id v root v.moves at refl word (word % 4294967296 / 2) k live.0 live.1)
              born
              (subst (λ (y : ℕ). (0 < y) × Leave r.one_order.made root y)
              (let low = low_part word k.generation k.count k.vacant k.word_is (small_count stands l s r p lt)
              (k.live live.1) in let e : k.count ≡ word % 4294967296 / 2 = omega (arith, low) in e)
              (live.1, left_here stands l s r r.one_order root lt live.0)) (count_names root v counts),
          refl,
        )

    pub releases_allowed : Allows (IsSound stands l) (slots_of l.shape) id me (count_word_of l.shape root.place)
        (λ n. (n + (2 ^ 64 - 2)) % 2 ^ 64)
        (releases root (step (slots_of l.shape) (count_word_of l.shape root.place) 2 0 none) me)
    releases_allowed s r _ at under =
        let p : ℕ = root.place in let v : SeatView = me.0 in let has = count_at stands l s r id v at root counts in
        let born = count_born stands l s r id v at root counts in let k = r.counts p lt in let live =
        live_word stands l s r id p root.generation v lt at has in
        let word : ℕ = slice_index s.words (count_word_of l.shape p) in let small = small_count stands l s r p lt in
        let rest : ℕ = (word + (2 ^ 64 - 2)) % 2 ^ 64 in
        let down : rest + 2 ≡ word = less_two word k.generation k.count k.vacant k.word_is live.1 under in
        let low : word % 4294967296 ≡ 2 * k.count =
        low_part word k.generation k.count k.vacant k.word_is small (k.live live.1) in
        let fine = each_at (IsView l.shape r.setting) s.views id v r.views at in let c : ℕ = k.count in let c1 : 0 < c =
        live.1 in let more_moves : ℕ = v.moves + 1 in
        let kd : IsCounted p s.views (rest + 2) = again p s.views word (rest + 2) k (sym down) in
        let awake = awake_count stands l s r id p root.generation v at has in let room : 0 + v.moves ≤ v.moves + 0 =
        (let m : ℕ = v.moves in let g : 0 + m ≤ m + 0 = omega arith in g) in
        dite (ℕ_discrete k.count 1)
        (λ last. (
          with_ref v root Ended v.moves,
          keeps,
          tt,
          ref_changes stands l s r id p rest v.moves v root Ended lt refl out at awake room
              (counted_less stands l v root Ended v.moves fine.counted refl has)
              (settled_more stands l v root Ended v.moves fine.settled refl)
              (handy_more stands l v root Ended v.moves fine.handy refl)
              (orderly_more stands l v root Ended v.moves fine.roots refl refl) (λ k e. absurd (cc e))
              (ended_kept p s.views id v root v.moves at refl rest kd live.0 last) born
              (subst (Leave r.one_order.made root) last
              (left_here stands l s r r.one_order root lt live.0)) (count_names root v counts),
          (
            (λ _. let e = ended_here s r id v root v.moves lt at counts in (refl, e.0, e.1)),
            (λ ne. absurd (ne (let g : word % 4294967296 ≡ 2 = omega (arith, low, last) in g))),
          ),
        ))
        (λ more. (
          with_ref v root Kept more_moves,
          keeps,
          tt,
          ref_changes stands l s r id p rest more_moves v root Kept lt refl out at awake
              (let g : 0 + more_moves ≤ v.moves + 1 = omega arith in g)
              (counted_less stands l v root Kept more_moves fine.counted refl has)
              (settled_more stands l v root Kept more_moves fine.settled refl)
              (handy_more stands l v root Kept more_moves fine.handy refl)
              (orderly_more stands l v root Kept more_moves fine.roots refl refl) (λ k e. absurd (cc e))
              (released_kept p s.views id v root more_moves at refl rest kd live.0
              (let q : c ≢ 1 = more in let g : 1 < c = omega (arith, q, c1) in g)) born (
                c,
                (let q : c ≢ 1 = more in let g : 1 < c = omega (arith, q, c1) in g),
                left_here stands l s r r.one_order root lt live.0,
              ) (count_names root v counts),
          (
            (λ two. absurd (more (let low' : word % 4294967296 ≡ 2 * c = low in let two' : word % 4294967296
                ≡ 2 = two in let g : c ≡ 1 = omega (arith, low', two') in g))),
            (λ _. refl),
          ),
        ))
      where
        again : (p : ℕ) (views : List SeatView) (word word' : ℕ) → IsCounted p views word → word ≡ word'
            → IsCounted p views word'
        again p views word word' k e =
            record {
              generation = k.generation;
              count = k.count;
              vacant = k.vacant;
              word_is = sym e
                  ∙ k.word_is;
              young = k.young;
              free = k.free;
              live = k.live;
              unborn = k.unborn;
              later = k.later;
              born =
                  k.born;
              counts =
                  k.counts;
              past =
                  k.past;
              ended =
                  k.ended;
              vacated =
                  k.vacated;
              all_born = k.all_born;
              all_vacated = k.all_vacated;
              beyond = k.beyond;
            }

  awake_token : (s : St) (r : IsSound stands l s) (id p g : ℕ) (v : SeatView) → get_elem? s.views id ≡ some v
      → TokenAt p g v → All (λ (q : Part). q.number ≡ None) (parts_of v) → ⊥
  awake_token s r id p g v at has all =
      let idle = (each_at (IsView l.shape r.setting) s.views id v r.views at).unnumbered all in
      let a = weigh_none (on_root ref_ended p g) (parts_of v) idle.notes in omega (arith, a, has)

  hand_after : (v : SeatView) (root : RootId) (m : ℕ) → put_down root.place v ≤ taken root.place v
      → InHand root.place (with_ref v root Vacated m)
  hand_after v root m handy =
      let a = weigh_ref (at_out root.place) v root Vacated m in let b =
      weigh_ref (on_place ref_born root.place) v root Vacated m in let c =
      weigh_ref (at_in root.place) v root Vacated m in let e =
      weigh_ref (on_place ref_vacated root.place) v root Vacated m in
      let z : at_out root.place (Ref root Vacated) ≡ 0 = refl in let y : at_in root.place (Ref root Vacated)
      ≡ 0 = refl in
      let x : on_place ref_born root.place (Ref root Vacated) ≡ 0 = off (eqb root.place root.place) in
      let w : on_place ref_vacated root.place (Ref root Vacated)
      ≡ 1 = ap (λ (t : Bool). cond {A = ℕ} t 1 0) (eq-eqb root.place root.place refl) in
      omega (arith, a, b, c, e, z, y, x, w, handy)
    where
      off : (b : Bool) → cond {A = ℕ} b 0 0 ≡ 0
      off true = refl
      off false = refl

  pub vacates_allowed : (id : ℕ) (me : Me (Option H) SeatView) (root : RootId)
      → root.place < l.shape.lanes * l.shape.handles → HasToken root me.0 → HasEnded root me.0 → me.0.inside ≡ None
      → Allows (IsSound stands l) (slots_of l.shape) id me (count_word_of l.shape root.place) (λ n. (n + 1) % 2 ^ 64)
      (vacates root (step (slots_of l.shape) (count_word_of l.shape root.place) 1 0 none) me)
  vacates_allowed id me root lt token over out s r _ at under =
      let p : ℕ = root.place in let v : SeatView = me.0 in let has = token_at stands l s r id v at root token in
      let ended = ended_at stands l s r id v at root token over in let k = r.counts p lt in let tok =
      token_word s r id p root.generation v lt at has in
      let word : ℕ = slice_index s.words (count_word_of l.shape p) in
      let up : (word + 1) % 2 ^ 64 ≡ word + 1 = add_one_to word k.generation k.count k.vacant k.word_is tok.2 tok.3
      under in
      let fine = each_at (IsView l.shape r.setting) s.views id v r.views at in (
        with_ref v root Vacated v.moves,
        keeps,
        tt,
        ref_changes stands l s r id p ((word + 1) % 2 ^ 64) v.moves v root Vacated lt refl out at
            (awake_token s r id p root.generation v at has)
            (let m : ℕ = v.moves in let g : 0 + m ≤ m + 0 = omega arith in g)
            (counted_more stands l v root Vacated v.moves fine.counted refl)
            (settled_less stands l v root v.moves fine.settled has)
            (handy_more stands l v root Vacated v.moves fine.handy refl)
            (orderly_vacated stands l v root v.moves fine.roots ended)
            (λ k e. absurd (cc e)) (subst (IsCounted p (set s.views id (with_ref v root Vacated v.moves)))
            (sym up) (vacated_kept p s.views id v root v.moves at refl word k tok.0 tok.1 tok.2 tok.3))
            (token_born stands l s r id v at root token)
            (vacated_fits stands l s r r.one_order root lt tok.0 tok.1 tok.2 tok.3) (token_names root v token),
        (refl, hand_after v root v.moves (fine.handy p)),
      )
    where
      add_one_to : (word g c v : ℕ) → word ≡ g * 4294967296 + (2 * c + v) → c ≡ 0 → v ≡ 0 → word < 18446744073709551616
          → (word + 1) % 2 ^ 64 ≡ word + 1
      add_one_to word g c v e cz vz under = omega (arith, e, cz, vz, under)
