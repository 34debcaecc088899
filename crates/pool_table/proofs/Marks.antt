-- A claim with a busy mark keeps the rule.
use Rattle.step_law.specs.Settings.{Setting}
use Rattle.std.proofs.Common.{◌≡◌, ◌≢◌, ℕ, ◌+◌, ◌*◌, ◌/◌, ◌%◌, ◌<◌, ◌≤◌, List, [], ◌∷◌, ◌++◌, map, length, set, sym, refl, ap, ◌∙◌, subst, inl, inr, arith, length-append, append-nil, eq-eqb, ne_eqb}
use Rattle.std.specs.Prelude.{Option, Some, None, slice_index, bit_or}
use mathlib.Core.Logic.{dite}
use native.Mathlib.Decide.{ℕ_discrete}
use mathlib.Core.Option.{some, none}
use lib.ListN.{get_elem?}
use Rattle.atomic_table.specs.Table.{State, Me, step, keeps, Allows}
use Rattle.atomic_table.proofs.Lists.{at_map}
use Rattle.step_law.proofs.Changes.{each_at}
use Rattle.step_law.proofs.LowestBit.{or_odd}
use Rattle.pool_law.specs.declared.note.Held.{Held}
use Rattle.pool_law.specs.declared.note.Noted.{Noted}
use Rattle.pool_law.specs.declared.note.Object.{Object}
use Rattle.pool_law.specs.declared.note.Object.TheVariants.{Arena, Cache, Bin, Mail, Root}
use Rattle.pool_law.specs.Homes.{home_of, IsObjectOf}
use Rattle.pool_table.proofs.Mails.{mailed_entry}
use Rattle.pool_table.specs.Slots.{slots_of, slot_of}
use Rattle.pool_table.specs.Words.{word_of}
use Rattle.history_laws.specs.Histories.{root_after}
use Rattle.pool_table.specs.declared.views.Entry.{Entry}
use Rattle.pool_table.specs.declared.views.Entry.TheVariants.{Busy}
use Rattle.pool_table.specs.declared.views.Layout.{Layout}
use Rattle.pool_table.specs.declared.views.SeatView.{SeatView}
use Rattle.pool_table.specs.Views.{ObjectView, parts_of, object_view, object_part, inside_total, spent, with_entry}
use Rattle.pool_table.proofs.Places.{never_held}
use Rattle.pool_table.proofs.Presence.{tells_root}
use Rattle.pool_table.specs.Hands.{MayEnter, MayLeave}
use Rattle.pool_table.proofs.Weights.{IsWeighedSame, same_entry, counted_entry, handy_entry, orderly_entry}
use Rattle.pool_table.proofs.Looks.{looks_entry}
use Rattle.pool_table.proofs.Births.{born_entry}
use Rattle.pool_table.proofs.Tidings.{known_entry}
use Rattle.pool_table.proofs.Lone.{lone_entry, names_none}
use Rattle.pool_table.proofs.Order.{newest, order_entry}
use Rattle.pool_table.proofs.Sequence.{one_more}
use Rattle.pool_table.proofs.Fitting.{noted_so_far}
use Rattle.pool_table.specs.Sound.{IsKept, IsSound, IsView, IsMarked, WasHeld, WasPresent}
use Rattle.pool_table.specs.Steps.{IsFree}
use Rattle.pool_table.specs.Steps.{marks_claims}
use Rattle.pool_table.proofs.Objects.{marked_kept}
use Rattle.pool_table.proofs.Tables.{changes, alone_among}
use Rattle.pool_table.proofs.Entries.{unmarked_below, not_idle, outside_object_view, same_numbered, entry_view, spent_entry, entry_elsewhere, entry_here}
use Rattle.pool_table.proofs.Claimed.{was_held, half, finds_held, gets_in, parity}

module _ {H : Type 0} (stands : List ℕ → Setting → List Noted → H → Type 0) (l : Layout) where
  -- a view that finds another in the section of a root place counts the root that is present
  present_now : (s : State (Option H) SeatView) (r : IsSound stands l s) (id : ℕ) (v : SeatView) (o : Object)
      (fits : IsObjectOf l.shape o) → get_elem? s.views id ≡ some v
      → WasHeld stands l o (length (r.objects o fits).history) v → ((p : ℕ) → o ≡ Root p → MayEnter p v)
      → WasPresent o (r.objects o fits).history (length (r.objects o fits).history)
  present_now s r id v (Root p) fits at held may = one (may p refl)
    where
      one : MayEnter p v → WasPresent (Root p) (r.objects (Root p) fits).history
          (length (r.objects (Root p) fits).history)
      one (inl (q, here, inl has)) =
          let h : List Noted = (r.objects (Root p) fits).history in let is : root_after p h
          ≡ Some q = (tells_root stands l s r id v (Root p) fits at p refl).counted q here has in
          (h, [], sym (append-nil h), refl, λ e. let g : Some q ≡ None = sym is ∙ e in absurd (cc g))
      one (inl (q, here, inr tok)) =
          absurd (never_held stands l p (length (r.objects (Root p) fits).history) v fits held (inr (q, here, tok)))
      one (inr hand) = absurd (never_held stands l p (length (r.objects (Root p) fits).history) v fits held (inl hand))
  present_now s r id v (Arena a) fits at held may = tt
  present_now s r id v (Cache m c) fits at held may = tt
  present_now s r id v (Bin b) fits at held may = tt
  present_now s r id v (Mail f t) fits at held may = tt

  -- where a section may end with no note, no mark is the history's length
  pub calm_now : (s : State (Option H) SeatView) (r : IsSound stands l s) (id : ℕ) (v : SeatView) (o : Object)
      (fits : IsObjectOf l.shape o) → get_elem? s.views id ≡ some v → MayLeave v o → (n : ℕ) → IsMarked o
      → WasPresent o (r.objects o fits).history n → n ≢ length (r.objects o fits).history
  calm_now s r id v (Root p) fits at leave n marked (early, late, is, many, there) = λ same.
      let h : List Noted = (r.objects (Root p) fits).history in let gone : root_after p h
      ≡ None = (tells_root stands l s r id v (Root p) fits at p refl).in_hand leave.0 leave.1 in
      let a : length h ≡ length early + length late = ap length is
      ∙ length-append early late in let x : ℕ = length h in let y : ℕ = length early in let z : ℕ = length late in
      let a' : x ≡ y + z = a in let same' : n ≡ x = same in let many' : y ≡ n = many in let none : z
      ≡ 0 = omega (arith, a', same', many') in
      there (ap (root_after p) (sym (append-nil early)
      ∙ (ap (λ (t : List Noted). early ++ t) (sym (nothing late none)) ∙ sym is)) ∙ gone)
    where
      nothing : (xs : List Noted) → length xs ≡ 0 → xs ≡ []
      nothing [] e = refl
      nothing (y ∷ ys) e = absurd (omega (arith, e))
  calm_now s r id v (Arena a) fits at leave n marked w = absurd (leave)
  calm_now s r id v (Cache m c) fits at leave n marked w = absurd (leave)
  calm_now s r id v (Bin b) fits at leave n marked w = absurd (leave)
  calm_now s r id v (Mail f t) fits at leave n marked w = absurd (marked)

  -- another was in the section, and the mark is kept
  marks : (id : ℕ) (me : Me (Option H) SeatView) (o : Object) (fits : IsObjectOf l.shape o) → IsFree me → 0 < me.0.turns
      → ((p : ℕ) → o ≡ Root p → MayEnter p me.0) → IsMarked o → (s : State (Option H) SeatView) (r : IsSound stands l s)
      → get_elem? s.views id ≡ some me.0
      → inside_total (map (object_view l.shape (home_of l.shape o)) s.views) ≡ 1 → (word' : ℕ)
      → word' ≡ slice_index s.words (word_of l.shape o)
      → IsSound stands l (record {
        words = set s.words (word_of l.shape o) word';
        homes = s.homes;
        views =
            set s.views id (with_entry me.0
            (Busy (record { object = o; number = slice_index s.words (word_of l.shape o) / 2 })) me.0.turns);
      })
  marks id me o fits out turn may marked s r at one word' same =
      let i : ℕ = home_of l.shape o in let d : ℕ = slot_of l.shape o in let k = r.objects o fits in let h : List Noted =
      k.history in let n : ℕ = length h in let v : SeatView = me.0 in
      let word : ℕ = slice_index s.words (word_of l.shape o) in let t : ℕ =
      inside_total (map (object_view l.shape i) s.views) in
      let wi : word ≡ 2 * n + t = k.word_is in
      let b : Held = record { object = o; number = word / 2 } in let e : Entry = Busy b in let w : SeatView =
      with_entry v e v.turns in
      let bn : b.number ≡ n = half stands l word n t one wi in
      let light : IsWeighedSame v w = same_entry v e v.turns (λ f p g. refl) (λ f p. refl) (λ f. refl) in
      let fine : IsView l.shape r.setting v = each_at (IsView l.shape r.setting) s.views id v r.views at in
      let vf : object_view l.shape i v ≡ record { parts = map (object_part l.shape i) (parts_of v); inside = None } =
      outside_object_view stands l i v out.0 in
      let wf = entry_here stands l v e v.turns i (eq-eqb i i refl) in
      let there : get_elem? (map (object_view l.shape i) s.views) id
      ≡ some (record { parts = map (object_part l.shape i) (parts_of v); inside = None }) =
      at_map (object_view l.shape i) s.views id v at ∙ ap some vf in
      let kept = marked_kept stands l.shape r.setting o (map (object_view l.shape i) s.views) word (get_elem? s.homes d)
      id
      (object_part l.shape i v.own) (map (object_part l.shape i) v.others) b k there one bn marked
      (subst (λ (y : ℕ). WasPresent o h y) (sym bn)
      (present_now s r id v o fits at (was_held stands l s r id v o fits at out.0 one) may)) in
      changes stands l s r id v w o word' s.homes fits at
      (λ j ne. entry_elsewhere stands l v e v.turns j (ne_eqb i j (λ q. ne (sym q)))
      ∙ sym (outside_object_view stands l j v out.0))
      (λ m. same_numbered stands l v e v.turns m) light
      (entry_view stands l r.setting v e v.turns light
      (counted_entry v e v.turns (λ f p g. refl) (λ p g. omega arith) (λ p g lt. absurd (omega (arith, lt)))
      fine.counted) (handy_entry v e v.turns (λ f p. refl) (λ p. omega arith)
      (λ p lt. absurd (omega (arith, lt))) fine.handy)
      (orderly_entry v e v.turns (λ f p g c. refl) (λ f p g. refl) (λ f p. refl) (λ p. inl refl)
      (λ p g. inl refl) (λ q. inl (record { none = refl; unused = refl; light = λ _. refl }))
      fine.roots) fine (not_idle stands l r.setting v fine turn) (fits, marked))
      (let a = spent_entry stands l v e v.turns in let x : ℕ = spent w in let y : ℕ = spent v in
      let tv : ℕ = v.turns in let a' : x + tv
      ≡ y + 0 + tv = a in let g : x ≤ y = omega (arith, a') in
      g)
      (looks_entry s.views id v w e at refl (λ r k is. absurd (cc is)) r.looks)
      (order_entry s.views id v w e at refl (newest e (unmarked_below b) s.views) r.order)
      (one_more l.shape s.views id v w e at refl (alone_among stands l s r id v at) r.one_order
      (bn ∙ noted_so_far stands l s r r.one_order o fits))
      (born_entry s.views id v w e at refl (λ q is. absurd (cc is)) r.born)
      (known_entry s.views id v w e at refl (λ q lt. absurd (omega (arith, lt))) r.known)
      (lone_entry s.views id v w e at refl (names_none s.views v e (λ q. refl)) r.lone)
      (mailed_entry s.views id v w e at refl refl refl refl r.mailed)
      refl (λ j ne. refl)
      (subst (λ (y : ObjectView × ℕ). IsKept stands l.shape r.setting o
      (set (map (object_view l.shape i) s.views) id y.0) y.1
      (get_elem? s.homes d)) (λ q. (sym wf q, sym same q)) kept)

  pub marks_allowed : 0 < l.shape.handles → (id : ℕ) (me : Me (Option H) SeatView) (o : Object) → IsObjectOf l.shape o
      → IsFree me → 0 < me.0.turns → ((p : ℕ) → o ≡ Root p → MayEnter p me.0) → IsMarked o
      → Allows (IsSound stands l) (slots_of l.shape) id me (word_of l.shape o) (λ n. bit_or n 1)
      (marks_claims stands l o (step (slots_of l.shape) (word_of l.shape o) 1 0 none) me)
  marks_allowed some_handle id me o fits out turn may marked s r _ at _ =
      let i : ℕ = home_of l.shape o in let k = r.objects o fits in let n : ℕ = length k.history in
      let word : ℕ = slice_index s.words (word_of l.shape o) in let t : ℕ =
      inside_total (map (object_view l.shape i) s.views) in
      let wi : word ≡ 2 * n + t = k.word_is in let al : t ≤ 1 = k.alone in let par = parity stands l word n t wi al in
      dite (ℕ_discrete t 0)
      (λ z. let g = gets_in stands l some_handle id me o fits out turn may s r at z in (
        g.0,
        g.1,
        g.2,
        g.3,
        (
          (λ _. g.4.1),
          (λ (odd : word % 2 ≡ 1). let e = g.4.0 in absurd (omega (arith, odd, e))),
        ),
      ))
      (λ ne. let one : t ≡ 1 = omega (arith, ne, al) in let odd = par.1 one in (
        with_entry me.0 (Busy (record { object = o; number = word / 2 })) me.0.turns,
        keeps,
        tt,
        marks id me o fits out turn may marked s r at one (bit_or word 1)
            (or_odd word n (let e : word ≡ 2 * n + 1 = omega (arith, wi, one) in e)),
        (
          (λ (even : word % 2 ≡ 0). absurd (omega (arith, even, odd))),
          (λ _. (refl, refl, (finds_held stands l id me o fits out s r at fits one).2)),
        ),
      ))
