-- A claim keeps the rule.
use Rattle.step_law.specs.Settings.{Setting}
use Rattle.std.proofs.Common.{◌≡◌, ◌≢◌, ℕ, ◌+◌, ◌-◌, ◌*◌, ◌/◌, ◌%◌, ◌<◌, ◌≤◌, List, map, length, set, Bool, true, false, cond, eqb, sym, refl, ap, ◌∙◌, subst, arith, length-set, le_refl}
use Rattle.std.specs.Prelude.{Option, Some, None, IfSome, slice_index, bit_or}
use Rattle.std.proofs.lemmas.List.{set-get_or}
use Rattle.std.proofs.lemmas.Bool.{eqb-true}
use mathlib.Core.Logic.{dite}
use native.Mathlib.Decide.{ℕ_discrete}
use mathlib.Core.Option.{some, none, some-injective}
use lib.ListN.{get_elem?}
use Rattle.atomic_table.specs.Table.{State, Me, Act, Valid, stepped, carried_after, step, keeps, takes, Allows}
use Rattle.atomic_table.proofs.Lists.{set_else, set_again, at_map}
use Rattle.step_law.proofs.Changes.{each_at}
use Rattle.step_law.proofs.LowestBit.{or_even, or_odd}
use Rattle.pool_law.specs.declared.note.Noted.{Noted}
use Rattle.pool_law.specs.declared.note.Object.{Object}
use Rattle.pool_law.specs.declared.note.Object.TheVariants.{Root}
use Rattle.pool_law.specs.Homes.{home_of, IsObjectOf}
use Rattle.pool_table.proofs.Mails.{mailed_same}
use Rattle.pool_table.specs.Slots.{slots_of, slot_of}
use Rattle.history_laws.specs.Measures.{measures_of}
use Rattle.pool_table.specs.Words.{word_of}
use Rattle.history_laws.proofs.Apart.{one_home}
use Rattle.pool_table.specs.declared.views.Layout.{Layout}
use Rattle.pool_table.specs.declared.views.Inside.{Inside}
use Rattle.pool_table.specs.declared.views.SeatView.{SeatView}
use Rattle.pool_table.specs.Views.{ObjectView, parts_of, object_view, object_part, inside_at, is_in, inside_total, spent, one_if, entered}
use Rattle.pool_table.proofs.RegionNumbers.{arena_tells, few_uses, next_free}
use Rattle.pool_table.proofs.Regions.{in_hand_once}
use Rattle.pool_table.proofs.OwnTakings.{cache_tells}
use Rattle.pool_table.proofs.Hands.{hand_place}
use Rattle.pool_table.proofs.Makers.{each_may}
use Rattle.pool_table.proofs.Places.{hand_bin}
use Rattle.pool_table.proofs.Presence.{tells_root}
use Rattle.pool_table.specs.Hands.{MayEnter}
use Rattle.pool_table.proofs.Weights.{same_parts, counted_parts, settled_same, handy_parts, orderly_parts}
use Rattle.pool_table.proofs.Looks.{looks_same}
use Rattle.pool_table.proofs.Births.{born_same}
use Rattle.pool_table.proofs.Tidings.{known_same}
use Rattle.pool_table.proofs.LoneBytes.{told_own}
use Rattle.pool_table.proofs.Lone.{lone_same}
use Rattle.pool_table.proofs.Exact.{counted_of, vacated_of}
use Rattle.pool_table.proofs.Order.{order_same}
use Rattle.pool_table.proofs.Sequence.{one_same}
use Rattle.pool_table.proofs.Numbers.{next_above, last_not_below}
use Rattle.pool_table.specs.Sound.{IsKept, IsSound, IsView, Knows, WasHeld}
use Rattle.pool_table.specs.Steps.{IsFree}
use Rattle.pool_table.specs.Steps.{GotIn, claims}
use Rattle.pool_table.proofs.Objects.{claimed_kept}
use Rattle.pool_table.proofs.Tables.{changes, short, holder}
use Rattle.pool_table.proofs.Entries.{outside_object_view, under, inside_object_view, away_object_view, not_idle}

module _ {H : Type 0} (stands : List ℕ → Setting → List Noted → H → Type 0) (l : Layout) where
  -- the section of a view that is in it
  abbrev pub Section_at : ℕ → List Noted → Option Inside → Type 0
  Section_at i h y =
      (x : Inside) × (y ≡ Some x) × (home_of l.shape x.object ≡ i) × (x.history ≡ h) × (x.number ≡ length h)

  section_cases : (i : ℕ) (x : Inside) (h : List Noted) (b : Bool) → eqb (home_of l.shape x.object) i ≡ b
      → 0 < one_if (cond b (Some x) None) → IfSome (cond b (Some x) None)
      (λ (y : Inside). (y.history ≡ h) × (y.number ≡ length h)) → Section_at i h (Some x)
  section_cases i x h true e p kn = (x, refl, eqb-true (home_of l.shape x.object) i e, kn.0, kn.1)
  section_cases i x h false e p kn = absurd (omega (arith, p))

  pub section_at : (i : ℕ) (h : List Noted) (y : Option Inside) → 0 < one_if (inside_at l.shape i y)
      → IfSome (inside_at l.shape i y) (λ (x : Inside). (x.history ≡ h) × (x.number ≡ length h)) → Section_at i h y
  section_at i h None p kn = absurd (omega (arith, p))
  section_at i h (Some x) p kn = section_cases i x h (eqb (home_of l.shape x.object) i) refl p kn

  fitting : (y : Option Inside) (x : Inside) → y ≡ Some x → IfSome y (λ (x : Inside). IsObjectOf l.shape x.object)
      → IsObjectOf l.shape x.object
  fitting y x e f = subst (λ (y : Option Inside). IfSome y (λ (x : Inside). IsObjectOf l.shape x.object)) e f

  -- the history tells the entries of a view's own part
  -- some other view is in the section
  pub was_held : (s : State (Option H) SeatView) (r : IsSound stands l s) (id : ℕ) (v : SeatView) (o : Object)
      (fits : IsObjectOf l.shape o) → get_elem? s.views id ≡ some v → v.inside ≡ None
      → inside_total (map (object_view l.shape (home_of l.shape o)) s.views) ≡ 1
      → WasHeld stands l o (length (r.objects o fits).history) v
  was_held s r id v o fits at out one =
      let i : ℕ = home_of l.shape o in let k = r.objects o fits in
      let t : ℕ = inside_total (map (object_view l.shape i) s.views) in let one' : t
      ≡ 1 = one in let some_in : 0 < t = omega (arith, one') in
      let b = holder stands l i s.views some_in in let j : ℕ = b.0 in let u : SeatView = b.1 in
      let ne : j ≢ id = (λ same. let uv : u ≡ v = some-injective u v
      (sym b.2 ∙ ap (λ (n : ℕ). get_elem? s.views n) same ∙ at) in
      let z : is_in (object_view l.shape i u) ≡ 0 = ap (λ (y : SeatView). is_in (object_view l.shape i y)) uv
      ∙ ap is_in (outside_object_view stands l i v out) in let p = b.3 in let q : ℕ = is_in (object_view l.shape i u) in
      let z' : q
      ≡ 0 = z in let p' : 0 < q = p in
      omega (arith, z', p')) in
      let knows = each_at (Knows k.history) (map (object_view l.shape i) s.views) j (object_view l.shape i u) k.knows
      (at_map (object_view l.shape i) s.views j u b.2) in
      let fine = each_at (IsView l.shape r.setting) s.views j u r.views b.2 in
      let x = section_at i k.history u.inside b.3 knows in
      record {
        moment = s;
        sound = r;
        seat = id;
        view = at;
        other = j;
        apart = ne;
        holder = u;
        section = x.0;
        holds =
            b.2;
        inside =
            x.1;
        object =
            one_home l.shape x.0.object o (fitting u.inside x.0 x.1 fine.inside) fits x.2;
        number =
            x.4;
        seen =
            last_not_below l.shape o k.history (length k.history + (t - is_in (object_view l.shape i v)))
            v.own.number (let n : ℕ = length k.history in let z : ℕ = is_in (object_view l.shape i v) in
            omega (arith, one')) v.own.notes (told_own stands l s r id v o fits at).told;
      }

  pub half : (word n t : ℕ) → t ≡ 1 → word ≡ 2 * n + t → word / 2 ≡ n
  half word n t e w = omega (arith, e, w)

  -- another was in the section, and no mark is kept
  pub finds_held : (id : ℕ) (me : Me (Option H) SeatView) (o : Object) → IsObjectOf l.shape o → IsFree me
      → (s : State (Option H) SeatView) (r : IsSound stands l s) → get_elem? s.views id ≡ some me.0
      → (fits : IsObjectOf l.shape o) → inside_total (map (object_view l.shape (home_of l.shape o)) s.views) ≡ 1
      → (me.0 ≡ me.0) × (me.1 ≡ me.1) × WasHeld stands l o (slice_index s.words (word_of l.shape o) / 2) me.0
  finds_held id me o f out s r at fits one =
      let k = r.objects o fits in (
        refl,
        refl,
        subst (λ (n : ℕ). WasHeld stands l o n me.0)
            (sym (half (slice_index s.words (word_of l.shape o)) (length k.history)
            (inside_total (map (object_view l.shape (home_of l.shape o)) s.views)) one k.word_is))
            (was_held s r id me.0 o fits at out.0 one),
      )

  object_or : Object → Option Inside → Object
  object_or o (Some x) = x.object
  object_or o None = o

  -- what a step owes, in one state
  abbrev pub Owes : (s : State (Option H) SeatView) → ℕ → Me (Option H) SeatView → ℕ → (ℕ → ℕ)
      → (ℕ → Me (Option H) SeatView → Type 0) → Type 0
  Owes s id me i f then =
      (w : SeatView) × (a : Act (Option H)) × Valid s.homes me.1 a
      × IsSound stands l (stepped s i (f (slice_index s.words i)) id me.1 w a)
      × then (slice_index s.words i) (w, carried_after me.1 a)

  -- nobody was in the section, and the seat gets in
  pub gets_in : 0 < l.shape.handles → (id : ℕ) (me : Me (Option H) SeatView) (o : Object) (fits : IsObjectOf l.shape o)
      → IsFree me → 0 < me.0.turns → ((p : ℕ) → o ≡ Root p → MayEnter p me.0)
      → (s : State (Option H) SeatView) (r : IsSound stands l s) → get_elem? s.views id ≡ some me.0
      → inside_total (map (object_view l.shape (home_of l.shape o)) s.views) ≡ 0
      → Owes s id me (word_of l.shape o) (λ n. bit_or n 1)
      (λ found after. (found % 2 ≡ 0) × GotIn stands l o (slot_of l.shape o) me found after)
  unfolding object_or
  gets_in some_handle id me o fits out turn may s r at nobody =
      let i : ℕ = home_of l.shape o in let d : ℕ = slot_of l.shape o in let k = r.objects o fits in let h : List Noted =
      k.history in let n : ℕ = length h in let v : SeatView = me.0 in
      let word : ℕ = slice_index s.words (word_of l.shape o) in let t : ℕ =
      inside_total (map (object_view l.shape i) s.views) in
      let wi : word ≡ 2 * n + t = k.word_is in let z : t ≡ 0 = nobody in let w0 : word
      ≡ 2 * n + 0 = omega (arith, wi, z) in
      let x : Inside = record { object = o; number = n; history = h } in
      let w : SeatView = entered v o h n in
      let hv = k.home_is nobody in
      let fine : IsView l.shape r.setting v = each_at (IsView l.shape r.setting) s.views id v r.views at in
      let vf : object_view l.shape i v ≡ record { parts = map (object_part l.shape i) (parts_of v); inside = None } =
      outside_object_view stands l i v out.0 in
      let wf : object_view l.shape i w ≡ record { parts = map (object_part l.shape i) (parts_of v); inside = Some x } =
      inside_object_view stands l i w x refl refl in
      let there = at_map (object_view l.shape i) s.views id v at in
      let told = told_own stands l s r id v o fits at in let last : n + (t - is_in (object_view l.shape i v)) ≤ n =
      omega (arith, z) in
      let kept = claimed_kept stands l.shape r.setting o (map (object_view l.shape i) s.views) word
      (get_elem? s.homes d)
      (get_elem? (set s.homes d none) d) id (object_view l.shape i v) x k there nobody refl refl in
      let free : bit_or word 1 ≡ word + 1 = or_even word n (let e : word ≡ 2 * n = omega (arith, w0) in e) in
      let kept' : IsKept stands l.shape r.setting o
      (set (map (object_view l.shape i) s.views) id (object_view l.shape i w))
      (bit_or word 1) (get_elem? (set s.homes d none) d) =
      subst (λ (y : ObjectView × ℕ). IsKept stands l.shape r.setting o
      (set (map (object_view l.shape i) s.views) id y.0) y.1
      (get_elem? (set s.homes d none) d)) (λ q. (sym wf q, sym free q)) kept in (
        w,
        takes d (Some hv.0),
        hv.1,
        changes stands l s r id v w o (bit_or word 1) (set s.homes d none) fits at
            (λ j ne. away_object_view stands l j w x refl (λ e. ne (sym e))
            ∙ sym (outside_object_view stands l j v out.0)) (λ m. refl)
            (same_parts v w refl refl)
            (record {
              counted = counted_parts v w refl fine.counted;
              settled =
                  settled_same v w (same_parts v w refl refl) fine.settled;
              handy =
                  handy_parts v w refl fine.handy;
              roots =
                  orderly_parts v w refl fine.roots;
              enters =
                  (λ y p e q. may p (ap (λ (z : Option Inside). object_or o z) e ∙ q));
              setting_is =
                  fine.setting_is;
              unnumbered =
                  λ all. absurd (not_idle stands l r.setting v fine turn all);
              inside =
                  fits;
              notes =
                  fine.notes;
              beside =
                  fine.beside;
            }) (le_refl (spent v))
            (looks_same s.views id v w at refl r.looks)
            (order_same s.views id v w at refl r.order)
            (one_same l.shape s.views id v w at refl r.one_order)
            (born_same s.views id v w at refl r.born)
            (known_same s.views id v w at refl r.known)
            (lone_same s.views id v w at refl r.lone)
            (mailed_same s.views id v w at refl refl r.mailed)
            (length-set s.homes d none) (λ j ne. set_else
            s.homes d j none ne) kept',
        (
          (let e : word % 2 ≡ 0 = omega (arith, w0) in e),
          (
            h,
            hv.0,
            (let e : word ≡ 2 * n = omega (arith, w0) in e),
            refl,
            refl,
            record {
              object = fits;
              accepted = k.accepted;
              stands_for =
                  under v.setting r.setting (λ g. stands (measures_of l.shape o) g h hv.0) fine.setting_is hv.2;
              short =
                  short stands l s r o fits;
              root =
                  tells_root stands l s r id v o fits at;
              bin =
                  λ b p m e after has. hand_bin stands l s r id v o fits at b p m e after
                  (hand_place stands l some_handle s r id p v at has) has;
              arena =
                  arena_tells stands l s r id v o fits at;
              cache =
                  cache_tells stands l s r id v o fits at;
              setting =
                  r.setting;
              view =
                  fine;
              counted =
                  counted_of stands l s r id v at;
              vacated =
                  vacated_of stands l s r id v at;
              uses =
                  few_uses stands l s r id v at;
              once =
                  in_hand_once stands l s r id v at;
              free =
                  λ q n more lt. next_free stands l s r id v at q n o
                  fits more lt;
              lanes =
                  each_may stands l s r o fits;
              seen =
                  next_above l.shape o h
                  (n + (t - is_in (object_view l.shape i v))) v.own.number last v.own.notes told.told;
              own = told.own;
            },
          ),
        ),
      )

  -- the word and the view stay as they are
  pub stays_sound : (id i n : ℕ) (v : SeatView) (s : State (Option H) SeatView) → IsSound stands l s
      → get_elem? s.views id ≡ some v → n ≡ slice_index s.words i
      → IsSound stands l (record { words = set s.words i n; homes = s.homes; views = set s.views id v })
  stays_sound id i n v s r at same =
      subst (λ (x : List ℕ × List SeatView). IsSound stands l (record { words = x.0; homes = s.homes; views = x.1 }))
      (λ q. (sym (ap (λ (m : ℕ). set s.words i m) same ∙ set-get_or s.words i 0) q, sym (set_again s.views id v at) q))
      r

  pub parity : (word n t : ℕ) → word ≡ 2 * n + t → t ≤ 1 → (t ≡ 0 → word % 2 ≡ 0) × (t ≡ 1 → word % 2 ≡ 1)
  parity word n t e le = ((λ z. omega (arith, e, z)), (λ z. omega (arith, e, z)))

  pub claims_allowed : 0 < l.shape.handles → (id : ℕ) (me : Me (Option H) SeatView) (o : Object) → IsObjectOf l.shape o
      → IsFree me → 0 < me.0.turns → ((p : ℕ) → o ≡ Root p → MayEnter p me.0)
      → Allows (IsSound stands l) (slots_of l.shape) id me (word_of l.shape o) (λ n. bit_or n 1)
      (claims stands l o (step (slots_of l.shape) (word_of l.shape o) 1 0 none) me)
  claims_allowed some_handle id me o fits out turn may s r _ at _ =
      let i : ℕ = home_of l.shape o in let k = r.objects o fits in let n : ℕ = length k.history in
      let word : ℕ = slice_index s.words (word_of l.shape o) in let t : ℕ =
      inside_total (map (object_view l.shape i) s.views) in
      let wi : word ≡ 2 * n + t = k.word_is in let al : t ≤ 1 = k.alone in let par = parity word n t wi al in
      dite (ℕ_discrete t 0)
      (λ z. let g = gets_in some_handle id me o fits out turn may s r at z in (
        g.0,
        g.1,
        g.2,
        g.3,
        (
          (λ _. g.4.1),
          (λ (odd : word % 2 ≡ 1). let e = g.4.0 in absurd (omega (arith, odd, e))),
        ),
      ))
      (λ ne. let one : t ≡ 1 = omega (arith, ne, al) in let odd = par.1 one in (
        me.0,
        keeps,
        tt,
        stays_sound id (word_of l.shape o) (bit_or word 1) me.0 s r at
            (or_odd word n (let e : word ≡ 2 * n + 1 = omega (arith, wi, one) in e)),
        (
          (λ (even : word % 2 ≡ 0). absurd (omega (arith, even, odd))),
          (λ _. finds_held id me o fits out s r at fits one),
        ),
      ))
