-- A section that ends with a note keeps the rule.
use Rattle.step_law.specs.Settings.{Setting}
use Rattle.std.proofs.Common.{◌≡◌, ◌⊎◌, ℕ, ◌+◌, ◌-◌, ◌*◌, ◌%◌, ◌^◌, ◌<◌, ◌≤◌, List, [], ◌∷◌, ◌++◌, map, length, set, Bool, true, false, cond, eqb, sym, refl, ap, ◌∙◌, subst, inl, inr, ⊎_elim, arith, length-set, eq-eqb, ne_eqb}
use Rattle.std.specs.Prelude.{Option, Some, None, IfSome, slice_index}
use Rattle.std.proofs.Math.Nat.{mod-eq_of_lt}
use mathlib.Core.Option.{some, none}
use mathlib.Core.Option as maybe
use lib.ListN.{get_elem?}
use Rattle.atomic_table.specs.Table.{State, Me, step, gives, Allows}
use Rattle.atomic_table.proofs.Lists.{set_here, set_else, at_map}
use Rattle.step_law.proofs.Changes.{each_at, sum_at}
use Rattle.pool_law.specs.declared.note.Noted.{Noted}
use Rattle.pool_law.specs.declared.note.Object.{Object}
use Rattle.pool_law.specs.declared.note.Object.TheVariants.{Root}
use Rattle.pool_law.specs.Homes.{home_of, IsObjectOf}
use Rattle.pool_table.proofs.Mails.{mailed_entry}
use Rattle.pool_table.proofs.Known.{known, none_in, none_out, plain_at}
use Rattle.pool_law.specs.Kinds.{passing}
use Rattle.pool_table.specs.Slots.{slots_of, slot_of}
use Rattle.pool_table.proofs.Slots.{slot_within}
use Rattle.history_laws.specs.Measures.{measures_of}
use Rattle.pool_table.specs.Words.{word_of}
use Rattle.history_laws.specs.Histories.{IsLawful}
use Rattle.pool_law.specs.Naming.{noted_by}
use Rattle.pool_table.specs.declared.views.Entry.{Entry}
use Rattle.pool_table.specs.declared.views.Entry.TheVariants.{At}
use Rattle.pool_table.specs.declared.views.Layout.{Layout}
use Rattle.pool_table.specs.declared.views.Inside.{Inside}
use Rattle.pool_table.specs.declared.views.SeatView.{SeatView}
use Rattle.pool_table.specs.Views.{ObjectView, parts_of, took_turn, object_view, object_part, is_in, inside_total, spent, with_entry}
use Rattle.pool_law.specs.declared.note.Did.{Did}
use Rattle.pool_law.specs.declared.id.Parcel.{Parcel}
use Rattle.pool_law.specs.declared.id.ViewData.{ViewData}
use Rattle.std.specs.Prelude.{◌&&◌}
use Rattle.pool_law.specs.declared.note.Did.TheVariants.{Home, Post, Birth, End}
use Rattle.history_laws.specs.NoteCounts.{did_home, did_post, parcel_weight, did_birth, did_end}
use Rattle.history_laws.specs.Standing.{IsRooted}
use Rattle.history_laws.proofs.InPlace.{in_place}
use Rattle.pool_table.proofs.Presence.{birth_alone, end_first}
use Rattle.pool_table.specs.Counts.{weigh, on_root, ref_ended}
use Rattle.pool_table.specs.Hands.{PutsDown}
use Rattle.pool_table.specs.Hands.{at_end, InHand, NoneWaits}
use Rattle.pool_table.proofs.Holdings.{note_handles}
use Rattle.pool_table.proofs.Weights.{IsWeighedSame, same_entry, counted_entry, handy_entry, orderly_entry}
use Rattle.pool_table.proofs.Looks.{looks_entry}
use Rattle.pool_table.proofs.AtPlace.{PutsAt}
use Rattle.pool_table.proofs.Births.{born_entry}
use Rattle.pool_table.proofs.Capacities.{note_tells}
use Rattle.pool_table.proofs.Lasting.{entry_grows, entry_counts}
use Rattle.pool_table.proofs.Tidings.{known_entry}
use Rattle.pool_table.proofs.Lone.{lone_entry}
use Rattle.pool_table.proofs.LoneNotes.{may_note}
use Rattle.pool_table.proofs.Putting.{puts_at, note_born}
use Rattle.pool_table.proofs.Order.{IsNewest, order_entry}
use Rattle.pool_table.proofs.Sequence.{one_more}
use Rattle.pool_table.proofs.Fitting.{noted_so_far, note_fits}
use Rattle.pool_table.proofs.Newest.{newest_note}
use Rattle.pool_law.specs.NotedHistories.{MayNote}
use Rattle.pool_table.specs.Sound.{IsKept, IsSound, IsView, Stands, Knows}
use Rattle.pool_table.specs.Sections.{StandsFor}
use Rattle.pool_table.specs.Steps.{dones}
use Rattle.pool_table.proofs.Objects.{done_kept}
use Rattle.pool_table.proofs.Tables.{changes, short, alone_in, alone_among}
use Rattle.pool_table.proofs.Entries.{inside_object_view, not_idle, away_object_view, same_numbered, entry_view, spent_entry, entry_elsewhere, entry_here}

module _ {H : Type 0} (stands : List ℕ → Setting → List Noted → H → Type 0) (l : Layout) where
  add_one : (word n : ℕ) → n < 4611686018427387904 → word ≡ 2 * n + 1 → (word + 1) % 2 ^ 64 ≡ word + 1
  add_one word n lt e = mod-eq_of_lt (let g : word + 1 < 18446744073709551616 = omega (arith, lt, e) in g)

  pub less_one : (word n : ℕ) → n < 4611686018427387904 → word ≡ 2 * n + 1 → (word + (2 ^ 64 - 1)) % 2 ^ 64 ≡ 2 * n
  less_one word n lt e = omega (arith, lt, e)

  -- the history of the section that a view is in
  pub in_section : (s : State (Option H) SeatView) (r : IsSound stands l s) (id : ℕ) (v : SeatView) (o : Object)
      (fits : IsObjectOf l.shape o) (x : Inside) → get_elem? s.views id ≡ some v → v.inside ≡ Some x → x.object ≡ o
      → (x.history ≡ (r.objects o fits).history) × (x.number ≡ length (r.objects o fits).history)
  in_section s r id v o fits x at e here =
      let i : ℕ = home_of l.shape o in let k = r.objects o fits in
      let vf = inside_object_view stands l i v x e (ap (home_of l.shape) here) in
      subst (Knows k.history) vf (each_at (Knows k.history) (map (object_view l.shape i) s.views) id
      (object_view l.shape i v) k.knows
      (at_map (object_view l.shape i) s.views id v at))

  at_most : (b : Bool) → cond {A = ℕ} b 1 0 ≤ 1
  at_most true = omega arith
  at_most false = omega arith

  at_most_one : (p : ℕ) (d : Did) → did_home p d ≤ 1
  at_most_one p (Home q) = small (eqb q p)
    where
      small : (b : Bool) → cond {A = ℕ} b 1 0 ≤ 1
      small true = omega arith
      small false = omega arith
  at_most_one p d = omega arith

  one_carried : (p g : ℕ) (q : Parcel) → parcel_weight p g q ≤ 1
  one_carried p g q = carried q.view
    where
      small : (b : Bool) → cond {A = ℕ} b 1 0 ≤ 1
      small true = omega arith
      small false = omega arith

      carried : (x : Option ViewData) → parcel_weight p g (record { view = x }) ≤ 1
      carried (Some v) = small ((eqb v.root.place p) && (eqb v.root.generation g))
      carried None = omega arith

  pub one_parcel : (p g : ℕ) (d : Did) → did_post p g d ≤ 1
  one_parcel p g (Post q) = one_carried p g q
  one_parcel p g d = omega arith

  birth_or_home : (p : ℕ) (d : Did) → (did_birth p d + did_home p d ≡ 0)
      ⊎ (((did_birth p d ≡ 1) × (did_home p d ≡ 0)) ⊎ ((did_birth p d ≡ 0) × (did_home p d ≡ 1)))
  birth_or_home p (Home q) = small (eqb q p)
    where
      small : (b : Bool) → (0 + cond {A = ℕ} b 1 0 ≡ 0)
          ⊎ (((◌≡◌ {A = ℕ} 0 1) × (cond {A = ℕ} b 1 0 ≡ 0)) ⊎ ((◌≡◌ {A = ℕ} 0 0) × (cond {A = ℕ} b 1 0 ≡ 1)))
      small true = inr (inr (refl, refl))
      small false = inl refl
  birth_or_home p (Birth q x) = small (eqb q.place p)
    where
      small : (b : Bool) → (cond {A = ℕ} b 1 0 + 0 ≡ 0)
          ⊎ (((cond {A = ℕ} b 1 0 ≡ 1) × (◌≡◌ {A = ℕ} 0 0)) ⊎ ((cond {A = ℕ} b 1 0 ≡ 0) × (◌≡◌ {A = ℕ} 0 1)))
      small true = inr (inl (refl, refl))
      small false = inl refl
  birth_or_home p d = inl refl

  end_or_none : (p g : ℕ) (d : Did) → (did_end p g d ≡ 0) ⊎ (did_end p g d ≡ 1)
  end_or_none p g (End q) = small ((eqb q.place p) && (eqb q.generation g))
    where
      small : (b : Bool) → (cond {A = ℕ} b 1 0 ≡ 0) ⊎ (cond {A = ℕ} b 1 0 ≡ 1)
      small true = inr refl
      small false = inl refl
  end_or_none p g d = inl refl

  -- the object of a birth or an end is the root place
  births_noted : (s : State (Option H) SeatView) (r : IsSound stands l s) (id : ℕ) (v : SeatView) (o : Object)
      (fits : IsObjectOf l.shape o) (nd : Noted) → get_elem? s.views id ≡ some v → IsRooted o nd.did → PutsAt v nd.did
      → IsLawful l.shape o ((r.objects o fits).history ++ nd ∷ []) → (p : ℕ)
      → (did_birth p nd.did + did_home p nd.did ≡ 0)
      ⊎ ((did_birth p nd.did + did_home p nd.did ≡ 1) × InHand p v × NoneWaits p v)
  births_noted s r id v o fits nd at root hands accepted p = ⊎_elim
      (λ (z : did_birth p nd.did + did_home p nd.did ≡ 0). inl z)
      (λ (c : ((did_birth p nd.did ≡ 1) × (did_home p nd.did ≡ 0))
      ⊎ ((did_birth p nd.did ≡ 0) × (did_home p nd.did ≡ 1))). ⊎_elim
      (λ (b : (did_birth p nd.did ≡ 1) × (did_home p nd.did ≡ 0)). let b0 = b.0 in let b1 = b.1 in
      let some_birth : 0 < did_birth p nd.did = omega (arith, b0) in
      inr (
        (omega (arith, b0, b1)),
        hands.birth p some_birth,
        ⊎_elim
            (λ (z : (did_birth p nd.did ≡ 0) × ((g : ℕ) → did_end p g nd.did ≡ 0)). let z0 = z.0 in
            absurd (omega (arith, z0, b0)))
            (λ (e : o ≡ Root p). subst (λ (o : Object). (fits : IsObjectOf l.shape o)
            → IsLawful l.shape o ((r.objects o fits).history ++ nd ∷ []) → NoneWaits p v) (sym e)
            (λ lt acc. birth_alone stands l s r id p v lt nd at acc p some_birth) fits accepted)
            (root p),
      ))
      (λ (b : (did_birth p nd.did ≡ 0) × (did_home p nd.did ≡ 1)). let b0 = b.0 in let b1 = b.1 in let t =
      hands.home p (omega (arith, b1)) in inr ((omega (arith, b0, b1)), t.0, t.1))
      c)
      (birth_or_home p nd.did)

  ends_noted : (s : State (Option H) SeatView) (r : IsSound stands l s) (id : ℕ) (v : SeatView) (o : Object)
      (fits : IsObjectOf l.shape o) (nd : Noted) → get_elem? s.views id ≡ some v → IsRooted o nd.did → PutsAt v nd.did
      → IsLawful l.shape o ((r.objects o fits).history ++ nd ∷ []) → (p g : ℕ)
      → (did_end p g nd.did ≡ 0) ⊎ ((did_end p g nd.did ≡ 1) × (weigh (at_end p g) v < weigh (on_root ref_ended p g) v))
  ends_noted s r id v o fits nd at root hands accepted p g = ⊎_elim
      (λ (z : did_end p g nd.did ≡ 0). inl z)
      (λ (b : did_end p g nd.did ≡ 1). let some_end : 0 < did_end p g nd.did = omega (arith, b) in inr (
        b,
        ⊎_elim
            (λ (z : (did_birth p nd.did ≡ 0) × ((g : ℕ) → did_end p g nd.did ≡ 0)). let z1 = z.1 g in
            absurd (omega (arith, z1, b)))
            (λ (e : o ≡ Root p). subst (λ (o : Object). (fits : IsObjectOf l.shape o)
            → IsLawful l.shape o ((r.objects o fits).history ++ nd ∷ [])
            → weigh (at_end p g) v < weigh (on_root ref_ended p g) v) (sym e)
            (λ lt acc. end_first stands l s r id p v lt nd at acc g some_end (hands.token p g some_end)) fits
            accepted)
            (root p),
      ))
      (end_or_none p g nd.did)

  -- the note of a section
  notes_it : (id : ℕ) (v : SeatView) (o : Object) (fits : IsObjectOf l.shape o) (h : List Noted) (home : H) (nd : Noted)
      → v.inside ≡ Some (record { object = o; number = length h; history = h }) → 0 < v.turns
      → nd.lane ≡ v.own.number → Stands l.shape v.own.number (At o (length h + 1) nd) → PutsDown v nd.did
      → IsLawful l.shape o (h ++ nd ∷ []) → StandsFor stands (measures_of l.shape o) v (h ++ nd ∷ []) home
      → (s : State (Option H) SeatView) (r : IsSound stands l s) → length s.homes ≡ slots_of l.shape
      → get_elem? s.views id ≡ some v
      → ((slice_index s.words (word_of l.shape o) ≡ 2 * length h + 1)
      × IsSound stands l (record {
        words = set s.words (word_of l.shape o)
            ((slice_index s.words (word_of l.shape o) + 1) % 2 ^ 64);
        homes =
            set s.homes (slot_of l.shape o) (some (Some home));
        views =
            set s.views id (with_entry v (At o (length h + 1) nd) (v.turns - 1));
      }))
  notes_it id v o fits h home nd e turn lane may hands accepted stands_for s r wide at =
      let i : ℕ = home_of l.shape o in let d : ℕ = slot_of l.shape o in let k = r.objects o fits in let x : Inside =
      record { object = o; number = length h; history = h } in
      let known = in_section s r id v o fits x at e refl in let hk : h ≡ k.history = known.0 in let nk : length h
      ≡ length k.history = known.1 in
      let word : ℕ = slice_index s.words (word_of l.shape o) in let object_views : List ObjectView =
      map (object_view l.shape i) s.views in
      let t : ℕ = inside_total object_views in
      let vf = inside_object_view stands l i v x e refl in
      let there : get_elem? object_views id ≡ some
      (record { parts = map (object_part l.shape i) (parts_of v); inside = Some x }) =
      at_map (object_view l.shape i) s.views id v at ∙ ap some vf in
      let some_in : 1 ≤ t = sum_at is_in object_views id
      (record { parts = map (object_part l.shape i) (parts_of v); inside = Some x }) there in
      let wi : word ≡ 2 * length k.history + t = k.word_is in let al : t ≤ 1 = k.alone in
      let n : ℕ = length h in let m : ℕ = length k.history in let nm : n ≡ m = nk in let wi' : word ≡ 2 * m + t = wi in
      let w1 : word ≡ 2 * n + 1 = omega (arith, wi', nm, al, some_in) in
      let sh : m < 4611686018427387904 = short stands l s r o fits in let sh' : n < 4611686018427387904 =
      omega (arith, sh, nm) in
      let up : (word + 1) % 2 ^ 64 ≡ word + 1 = add_one word n sh' w1 in
      let ent : Entry = At o (length h + 1) nd in let w : SeatView = with_entry v ent (v.turns - 1) in
      let puts : PutsAt v nd.did = puts_at stands l s r id v at nd.did hands in
      let light : IsWeighedSame v w = same_entry v ent (v.turns - 1) (λ f p g. refl) (λ f p. refl) (λ f. refl) in
      let fine : IsView l.shape r.setting v = each_at (IsView l.shape r.setting) s.views id v r.views at in
      let wf = entry_here stands l v ent (v.turns - 1) i (eq-eqb i i refl) in
      let gs : stands (measures_of l.shape o) r.setting (h ++ nd ∷ []) home =
      subst (λ (g : Setting). stands (measures_of l.shape o) g (h ++ nd ∷ []) home)
      (same_setting v.setting stands_for.setting stands_for.known fine.setting_is) stands_for.stands_for in
      let kept = done_kept stands l.shape r.setting o object_views word (get_elem? s.homes d) id
      (object_part l.shape i v.own)
      (map (object_part l.shape i) v.others) x o nd home k there lane
      (λ q own. alone_in stands l s r id i q v at (sym lane ∙ own))
      (subst (λ (g : List Noted). IsLawful l.shape o (g ++ nd ∷ [])) hk accepted)
      (subst (λ (g : List Noted). stands (measures_of l.shape o) r.setting (g ++ nd ∷ []) home) hk gs) in
      let inside : d < length s.homes = subst (λ (z : ℕ). d < z) (sym wide) (slot_within l.shape o fits) in
      let kept' : IsKept stands l.shape r.setting o (set object_views id (object_view l.shape i w))
      ((word + 1) % 2 ^ 64)
      (get_elem? (set s.homes d (some (Some home))) d) =
      subst (λ (y : ObjectView × ℕ × maybe.Option (maybe.Option (Option H))). IsKept stands l.shape r.setting o
      (set object_views id y.0) y.1 y.2)
      (λ q. (
        (ap (λ (z : ℕ). record {
          parts = record
              { number = v.own.number; notes = (object_part l.shape i v.own).notes ++ At o (z + 1) nd ∷ [] } ∷ map
              (object_part l.shape i) v.others;
          inside = None;
        }) (sym nk) ∙ sym wf) q,
        sym up q,
        sym
            (set_here s.homes d (some (Some home)) inside) q,
      )) kept in (
        w1,
        changes stands l s r id v w o ((word + 1) % 2 ^ 64) (set s.homes d (some (Some home))) fits at
            (λ j ne. entry_elsewhere stands l v ent (v.turns - 1) j (ne_eqb i j (λ q. ne (sym q)))
            ∙ sym (away_object_view stands l j v x e (λ q. ne (sym q)))) (λ q. same_numbered stands l v ent
            (v.turns - 1) q) light
            (entry_view stands l r.setting v ent (v.turns - 1) light
            (counted_entry v ent (v.turns - 1) (λ f p g. refl) (λ p g. one_parcel p g nd.did) puts.posted
            fine.counted) (handy_entry v ent (v.turns - 1) (λ f p. refl) (λ p. at_most_one p nd.did)
            (λ p lt. (puts.home p lt).0) fine.handy)
            (orderly_entry v ent (v.turns - 1) (λ f p g c. refl) (λ f p g. refl) (λ f p. refl)
            (λ p. births_noted s r id v o fits nd at may.in_place.rooted puts
            (subst (λ (g : List Noted). IsLawful l.shape o (g ++ nd ∷ [])) hk accepted) p)
            (λ p g. ends_noted s r id v o fits nd at may.in_place.rooted puts
            (subst (λ (g : List Noted). IsLawful l.shape o (g ++ nd ∷ [])) hk accepted) p g)
            (λ q. note_handles q v o (length h + 1) nd hands) fine.roots) fine
            (not_idle stands l r.setting v fine turn) may)
            (let a = spent_entry stands l v ent (v.turns - 1) in let p : ℕ = spent w in let q : ℕ = spent v in
            let tv : ℕ =
            v.turns in let tv' : 0 < tv = turn in let c : ℕ = cond {A = ℕ} (took_turn ent) 1 0 in
            let c' : c ≤ 1 = at_most (took_turn ent) in let a' : p + tv
            ≡ q + c + (tv - 1) = a in let g : p ≤ q = omega (arith, a', tv', c') in g)
            (looks_entry s.views id v w ent at refl (λ r k is. absurd (cc is)) r.looks)
            (order_entry s.views id v w ent at refl
            (subst (λ (z : ℕ). IsNewest (At o (z + 1) nd) s.views) (sym nk) (newest_note stands l s r o fits nd))
            r.order)
            (one_more l.shape s.views id v w ent at refl (alone_among stands l s r id v at) r.one_order
            (note_fits l.shape r.one_order.made o fits (length h + 1) (passing nd.did)
            (ap (λ (z : ℕ). z + 1) (nk ∙ noted_so_far stands l s r r.one_order o fits))))
            (born_entry s.views id v w ent at refl
            (note_born stands l s r id v at o fits (length h + 1) nd may.in_place.mailed hands) r.born)
            (known_entry s.views id v w ent at refl
            (note_tells stands l s r (set s.views id w) o fits (length h + 1) v.own.number nd
            (entry_grows s.views id v w ent at refl) (entry_counts s.views id v w ent at refl) may
            (subst (λ (g : List Noted). IsLawful l.shape o (g ++ nd ∷ [])) hk accepted)) r.known)
            (lone_entry s.views id v w ent at refl
            (may_note stands l s r id v o fits x (length h + 1) nd at e refl may hands
            (subst (λ (g : List Noted). IsLawful l.shape o (g ++ nd ∷ [])) hk accepted)) r.lone)
            (mailed_entry s.views id v w ent at refl refl (none_in l.shape o fits (length h + 1) (passing nd.did))
            (none_out l.shape o fits (length h + 1) (passing nd.did)) r.mailed)
            (length-set s.homes d (some (Some home))) (λ j ne. set_else s.homes d j (some (Some home)) ne) kept',
      )
    where
      same_setting : (y : Option Setting) (g : Setting) → y ≡ Some g → {gs : Setting}
          → IfSome y (λ (g : Setting). g ≡ gs) → g ≡ gs
      same_setting y g e {gs} f = subst (λ (y : Option Setting). IfSome y (λ (g : Setting). g ≡ gs)) e f

  pub dones_allowed : (id : ℕ) (me : Me (Option H) SeatView) (o : Object) (slot : ℕ) (h : List Noted) (home : H)
      (note : Noted) → IsObjectOf l.shape o → slot ≡ slot_of l.shape o
      → me.0.inside ≡ Some (record { object = o; number = length h; history = h }) → me.1 ≡ (slot, Some home) ∷ []
      → 0 < me.0.turns
      → MayNote l.shape me.0.own.number o note.did → PutsDown me.0 note.did
      → IsLawful l.shape o (h ++ noted_by me.0.own.number note ∷ [])
      → StandsFor stands (measures_of l.shape o) me.0 (h ++ noted_by me.0.own.number note ∷ []) home
      → Allows (IsSound stands l) (slots_of l.shape) id me (word_of l.shape o) (λ n. (n + 1) % 2 ^ 64)
      (dones note (step (slots_of l.shape) (word_of l.shape o) 1 0 none) me)
  dones_allowed id me o slot h home note fits is e has turn may hands accepted stands_for =
      subst (λ (y : List (ℕ × Option H)). Allows (IsSound stands l) (slots_of l.shape) id (me.0, y) (word_of l.shape o)
      (λ n. (n + 1) % 2 ^ 64) (dones note (step (slots_of l.shape) (word_of l.shape o) 1 0 none) (me.0, y)))
      (ap (λ (z : ℕ). (z, Some home) ∷ []) (sym is) ∙ sym has)
      (λ s r wide at _. let got = notes_it id me.0 o fits h home (noted_by me.0.own.number note) e turn refl
      (record {
        object = known l.shape o fits;
        plain =
            plain_at l.shape o h (noted_by me.0.own.number note) fits accepted;
        lane_may = may;
        in_place =
            in_place l.shape o h (noted_by me.0.own.number note) accepted;
      }) hands accepted stands_for s r wide at in (
        with_entry me.0 (At o (length h + 1) (noted_by me.0.own.number note)) (me.0.turns - 1),
        gives,
        tt,
        got.1,
        subst (λ (y : Option Inside). IfSome y
            (λ (x : Inside). (slice_index s.words (word_of l.shape o) ≡ 2 * x.number + 1)
            × (with_entry me.0 (At o (length h + 1) (noted_by me.0.own.number note)) (me.0.turns - 1)
            ≡ with_entry me.0 (At x.object (x.number + 1) (noted_by me.0.own.number note)) (me.0.turns - 1))
            × (◌≡◌ {A = List (ℕ × Option H)} [] []))) (sym e) (got.0, refl, refl),
      ))
