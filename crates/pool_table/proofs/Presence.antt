-- Which root is at a place, by who claims it.
use Rattle.step_law.specs.Settings.{Setting}
use Rattle.std.proofs.Common.{◌≡◌, ◌≢◌, ℕ, ◌+◌, ◌*◌, ◌<◌, ◌≤◌, List, [], ◌∷◌, ◌++◌, Bool, true, false, cond, eqb, sym, refl, ap, ◌∙◌, subst, inl, inr, arith, lt_of_not-le}
use Rattle.std.specs.Prelude.{Option, Some, None, option_map, sum_by, count_by}
use Rattle.std.proofs.lemmas.List.Sums.{sum_by-le-sum_by}
use Rattle.std.proofs.lemmas.List.Elements.{All-weaker}
use mathlib.Core.Logic.{dite}
use native.Mathlib.Decide.{ℕ_discrete, dec_le}
use mathlib.Core.Option.{some}
use lib.ListN.{get_elem?}
use Rattle.atomic_table.specs.Table.{State}
use Rattle.step_law.proofs.Changes.{sum_at}
use Rattle.pool_law.specs.declared.run.Shape.{Shape}
use Rattle.pool_law.specs.declared.note.Noted.{Noted}
use Rattle.pool_law.specs.declared.id.RootId.{RootId}
use Rattle.pool_law.specs.declared.note.Did.{Did}
use Rattle.pool_law.specs.declared.note.Did.TheVariants.{Birth}
use Rattle.pool_law.specs.declared.note.Object.{Object}
use Rattle.pool_law.specs.declared.note.Object.TheVariants.{Root}
use Rattle.pool_law.specs.Homes.{IsObjectOf}
use Rattle.history_laws.specs.Histories.{IsLawful, IsPlaceAfter, root_after}
use Rattle.history_laws.specs.NoteCounts.{did_birth, did_birth_of, did_end}
use Rattle.pool_law.specs.Roots.{Present, RootPlace}
use Rattle.history_laws.proofs.PlaceSteps.{root_in}
use Rattle.history_laws.proofs.Told.{place_there, last_place, root_is}
use Rattle.history_laws.proofs.Roots.{place_born, of_birth, place_births, place_ends, birth_step, end_step}
use Rattle.pool_table.specs.declared.views.Entry.{Entry}
use Rattle.pool_table.specs.declared.views.Entry.TheVariants.{At, Ref, Busy}
use Rattle.pool_table.specs.declared.views.Part.{Part}
use Rattle.pool_law.specs.Kinds.{passing}
use Rattle.pool_table.specs.Views.{parts_of, is_turn, took_turn, spent}
use Rattle.pool_table.specs.declared.views.Layout.{Layout}
use Rattle.pool_table.specs.declared.views.SeatView.{SeatView}
use Rattle.pool_table.specs.Counts.{ref_born, ref_ended, ref_vacated, on_place, on_root, place_tally, tally, weigh}
use Rattle.pool_table.specs.Hands.{at_birth, at_birth_of, at_end, InHand, NoneWaits, ends}
use Rattle.pool_table.specs.Births.{IsBorn}
use Rattle.pool_table.specs.Sound.{IsSound, IsView}
use Rattle.pool_table.specs.Learned.{TellsRoot}
use Rattle.pool_table.proofs.AtPlace.{CountsAt, IsPresentIn, TokenAt}
use Rattle.pool_table.proofs.Capacities.{knows_no_more}
use Rattle.pool_table.proofs.Exact.{root_notes, one_born, present_born, count_at, count_born, token_at, token_born, ends_at}
use Rattle.pool_table.specs.Lone.{names, own_bytes}
use Rattle.pool_table.proofs.LoneBytes.{lone_bytes}
use Rattle.pool_table.proofs.Unborn.{unnamed}
use Rattle.pool_table.proofs.Weights.{strict_sum}
use Rattle.pool_table.proofs.WordChanges.{live_word}
use Rattle.pool_table.proofs.CountSteps.{token_word}
use Rattle.pool_table.proofs.Hands.{hand_word}
use Rattle.pool_table.proofs.PlaceSums.{births_in, ends_in, no_fewer, no_more, ends_le, ends_lt, no_other, vacated_le}

module _ {H : Type 0} (stands : List ℕ → Setting → List Noted → H → Type 0) (l : Layout) where
  abbrev St : Type 0
  St = State (Option H) SeatView

  -- where no end of the last root is noted, it is present
  last_present : (s : Shape) (p g : ℕ) (h : List Noted) (x : RootPlace) → IsLawful s (Root p) h → IsPlaceAfter p h x
      → x.generation ≡ g → 0 < g → sum_by (λ (e : Noted). did_end p g e.did) h ≡ 0 → IsPresentIn p g h
  last_present s p g h x t after same pos z = one (root_in x) refl
    where
      one : (o : Option RootId) → root_in x ≡ o → IsPresentIn p g h
      one None is =
          let n : ℕ = x.generation in let e = (place_ends s p h x t after).gone is (omega (arith, same, pos)) in
          let a = ap (λ (k : ℕ). sum_by (λ (e : Noted). did_end p k e.did) h) same in let u : ℕ =
          sum_by (λ (e : Noted). did_end p n e.did) h in let w : ℕ = sum_by (λ (e : Noted). did_end p g e.did) h in
          let e' : 1 ≤ u = e in let a' : u ≡ w = a in let z' : w ≡ 0 = z in absurd (omega (arith, e', a', z'))
      one (Some r) is = let f = (place_ends s p h x t after).fits r is in (r, root_is p h x after ∙ is, f.0, f.1 ∙ same)

  -- the births of a place's history
  pub history_births : (s : St) (r : IsSound stands l s) (p : ℕ) (lt : p < l.shape.lanes * l.shape.handles)
      (x : RootPlace) → IsPlaceAfter p (r.objects (Root p) lt).history x
      → sum_by (weigh (at_birth p)) s.views ≡ x.generation
  history_births s r p lt x after =
      births_in stands l s r p lt
      ∙ place_births l.shape p (r.objects (Root p) lt).history x (r.objects (Root p) lt).accepted
      after

  counted_root : (s : St) (r : IsSound stands l s) (id p g : ℕ) (v : SeatView)
      (lt : p < l.shape.lanes * l.shape.handles) → get_elem? s.views id ≡ some v → CountsAt p g v
      → IsPresentIn p g (r.objects (Root p) lt).history
  counted_root s r id p g v lt at has =
      let k = r.counts p lt in let live = live_word stands l s r id p g v lt at has in let h =
      (r.objects (Root p) lt).history in
      let pl = place_there l.shape p h (r.objects (Root p) lt).accepted in let n : ℕ = pl.0.generation in
      let nb = history_births s r p lt pl.0 pl.1 in let lo = no_fewer stands l s r p lt in
      let hi = no_more stands l s r p lt in let vz =
      k.live live.1 in
      let bi : ℕ = sum_by (weigh (at_birth p)) s.views in let nb' : bi ≡ n = nb in let ge : g ≡ k.generation = live.0 in
      let pos : 0 < k.generation = dite (ℕ_discrete k.generation 0)
      (λ z. let a = (k.unborn z).0 in let b = live.1 in absurd (omega (arith, a, b))) (λ ne. omega (arith, ne)) in
      let over : tally ref_ended p g s.views ≡ 0 = ap (λ (y : ℕ). tally ref_ended p y s.views) ge
      ∙ (k.ended pos).1 live.1 in
      let le = ends_le stands l s r p g in let en = ends_in stands l s r p g lt in
      last_present l.shape p g h pl.0 (r.objects (Root p) lt).accepted pl.1 (omega (arith, nb', lo, hi, vz, ge))
      (omega (arith, ge, pos)) (omega (arith, le, en, over))

  token_root : (s : St) (r : IsSound stands l s) (id p g : ℕ) (v : SeatView) (lt : p < l.shape.lanes * l.shape.handles)
      → get_elem? s.views id ≡ some v → TokenAt p g v → weigh (at_end p g) v ≡ 0
      → IsPresentIn p g (r.objects (Root p) lt).history
  token_root s r id p g v lt at has none_noted =
      let k = r.counts p lt in let tok = token_word stands l s r id p g v lt at has in let h =
      (r.objects (Root p) lt).history in
      let pl = place_there l.shape p h (r.objects (Root p) lt).accepted in let n : ℕ = pl.0.generation in
      let nb = history_births s r p lt pl.0 pl.1 in let lo = no_fewer stands l s r p lt in
      let hi = no_more stands l s r p lt in
      let bi : ℕ = sum_by (weigh (at_birth p)) s.views in let nb' : bi ≡ n = nb in let ge : g
      ≡ k.generation = tok.0 in let pos : 0 < k.generation = tok.1 in let vz : k.vacant ≡ 0 = tok.3 in
      let once : tally ref_ended p g s.views ≡ 1 = ap (λ (y : ℕ). tally ref_ended p y s.views) ge
      ∙ (k.ended pos).0 tok.2 in
      let less = ends_lt stands l s r id p g v at (omega (arith, has, none_noted)) in
      let en = ends_in stands l s r p g lt in
      last_present l.shape p g h pl.0 (r.objects (Root p) lt).accepted pl.1 (omega (arith, nb', lo, hi, vz, ge))
      (omega (arith, ge, pos)) (omega (arith, less, en, once))

  hand_root : (s : St) (r : IsSound stands l s) (id p : ℕ) (v : SeatView) (lt : p < l.shape.lanes * l.shape.handles)
      → get_elem? s.views id ≡ some v → InHand p v → NoneWaits p v → root_after p (r.objects (Root p) lt).history ≡ None
  hand_root s r id p v lt at has none_waits =
      let k = r.counts p lt in let h = (r.objects (Root p) lt).history in let pl =
      place_there l.shape p h (r.objects (Root p) lt).accepted in let n : ℕ = pl.0.generation in
      let nb = history_births s r p lt pl.0 pl.1 in let lo = no_fewer stands l s r p lt in let hi =
      no_other stands l s r id p v lt at has none_waits in
      let bi : ℕ = sum_by (weigh (at_birth p)) s.views in let nb' : bi ≡ n = nb in let same : n
      ≡ k.generation = omega (arith, nb', lo, hi) in
      root_is p h pl.0 pl.1 ∙ one (root_in pl.0) refl same
    where
      one : (o : Option RootId) → root_in
          (place_there l.shape p (r.objects (Root p) lt).history (r.objects (Root p) lt).accepted).0 ≡ o →
          (place_there l.shape p (r.objects (Root p) lt).history (r.objects (Root p) lt).accepted).0.generation
          ≡ (r.counts p lt).generation → o ≡ None
      one None is same = refl
      one (Some q) is same =
          let h = (r.objects (Root p) lt).history in let t = (r.objects (Root p) lt).accepted in let pl =
          place_there l.shape p h t in let n : ℕ = pl.0.generation in
          let k = r.counts p lt in let ends = place_ends l.shape p h pl.0 t pl.1 in let pos = ends.some q is in let z =
          ends.present q is in
          let vac = hand_word stands l s r id p v lt at has in
          let once : tally ref_vacated p n s.views ≡ k.vacant = ap (λ (y : ℕ). tally ref_vacated p y s.views) same
          ∙ k.vacated (omega (arith, pos, same)) in
          let le = vacated_le stands l s r p n in
          let en = ends_in stands l s r p n lt in absurd (omega (arith, once, le, en, z, vac))

  -- the root of that generation is this one
  exactly : (s : St) (r : IsSound stands l s) (p : ℕ) (lt : p < l.shape.lanes * l.shape.handles) (q : RootId)
      → q.place ≡ p → IsBorn s.views q → IsPresentIn p q.generation (r.objects (Root p) lt).history
      → root_after p (r.objects (Root p) lt).history ≡ Some q
  exactly s r p lt q here born is =
      let same : is.0 ≡ q = one_born stands l s r q is.0 born (present_born stands l s r p lt is.0 is.1 is.2)
      (is.2 ∙ sym here) is.3 in
      is.1 ∙ ap (λ (t : RootId). Some t) same

  -- no birth waits where a view has the end token of the last root
  token_alone : (s : St) (r : IsSound stands l s) (id p g : ℕ) (v : SeatView) (lt : p < l.shape.lanes * l.shape.handles)
      → get_elem? s.views id ≡ some v → TokenAt p g v → NoneWaits p v
  token_alone s r id p g v lt at has =
      let k = r.counts p lt in let tok = token_word stands l s r id p g v lt at has in
      let hi = no_more stands l s r p lt in
      let none : k.vacant ≡ 0 = tok.3 in
      dite (dec_le (weigh (at_birth p) v) (weigh (on_place ref_born p) v))
      (λ le. le)
      (λ gt. let more : weigh (on_place ref_born p) v < weigh (at_birth p) v = lt_of_not-le gt in
      let all = All-weaker (IsView l.shape r.setting)
      (λ (v : SeatView). weigh (on_place ref_born p) v + weigh (on_place ref_born p) v ≤ weigh (at_birth p) v
      + weigh (at_birth p) v) (λ v fine. let q = fine.roots.borne p in omega (arith, q)) s.views r.views in
      let a = strict_sum (weigh (on_place ref_born p)) (weigh (on_place ref_born p)) (weigh (at_birth p))
      (weigh (at_birth p)) s.views id v all at (omega (arith, more)) in let b = k.all_born in
      let bo : ℕ = place_tally ref_born p s.views in let bi : ℕ = sum_by (weigh (at_birth p)) s.views in
      let a' : bo + bo < bi + bi = a in let b' : bo
      ≡ k.generation = b in let hi' : bi ≤ k.generation + k.vacant = hi in
      absurd (omega (arith, a', b', hi', none)))

  -- each birth at a place is a note, and so spent a turn
  birth_spends : (p : ℕ) (e : Entry) → at_birth p e ≤ cond {A = ℕ} (took_turn e) 1 0
  birth_spends p (At o k n) = by n.did
    where
      once : (b : Bool) → cond {A = ℕ} b 1 0 ≤ 1
      once true = omega arith
      once false = omega arith

      by : (d : Did) → did_birth p d ≤ cond {A = ℕ} (is_turn o (passing d)) 1 0
      by (Birth q g) = once (eqb q.place p)
      by d = omega arith
  birth_spends p (Ref r d) = omega arith
  birth_spends p (Busy b) = omega arith

  few_births : (s : St) (r : IsSound stands l s) (p : ℕ) (lt : p < l.shape.lanes * l.shape.handles) (x : RootPlace)
      → IsPlaceAfter p (r.objects (Root p) lt).history x → x.generation ≤ l.shape.lanes * l.turns
  few_births s r p lt x after =
      let nb = history_births s r p lt x after in
      let le : sum_by (weigh (at_birth p)) s.views ≤ sum_by spent s.views =
      sum_by-le-sum_by (weigh (at_birth p)) spent s.views
      (λ v. let a : weigh (at_birth p) v ≤ sum_by (λ (q : Part). count_by took_turn q.notes) (parts_of v) =
      sum_by-le-sum_by (λ (q : Part). sum_by (at_birth p) q.notes) (λ (q : Part). count_by took_turn q.notes)
      (parts_of v) (λ q. sum_by-le-sum_by (at_birth p) (λ (e : Entry). cond {A = ℕ} (took_turn e) 1 0)
      q.notes (birth_spends p)) in omega (arith, a)) in
      let b = r.budget in
      let bi : ℕ = sum_by (weigh (at_birth p)) s.views in let n : ℕ = x.generation in let y : ℕ =
      sum_by spent s.views in let t : ℕ = l.shape.lanes * l.turns in
      let nb' : bi ≡ n = nb in let le' : bi ≤ y = le in let b' : y ≤ t = b in let g : n ≤ t =
      omega (arith, nb', le', b') in
      g

  -- the generation of a place in hand fits its word
  young_place : (s : St) (r : IsSound stands l s) (id : ℕ) (v : SeatView) (p : ℕ)
      (lt : p < l.shape.lanes * l.shape.handles) → get_elem? s.views id ≡ some v → InHand p v → NoneWaits p v
      → (x : RootPlace) → IsPlaceAfter p (r.objects (Root p) lt).history x → x.generation < 4294967296
  young_place s r id v p lt at has none_waits x after =
      let k = r.counts p lt in let nb = history_births s r p lt x after in let hi =
      no_other stands l s r id p v lt at has none_waits in let small = k.young in
      let bi : ℕ = sum_by (weigh (at_birth p)) s.views in let n : ℕ = x.generation in let nb' : bi
      ≡ n = nb in let hi' : bi ≤ k.generation = hi in let small' : k.generation < 4294967296 = small in
      omega (arith, nb', hi', small')

  -- the root of what is present
  only_root : (p : ℕ) (h : List Noted) (x : RootPlace) (w : Present) (q : RootId) → IsPlaceAfter p h x
      → x.present ≡ Some w → root_after p h ≡ Some q → w.root ≡ q
  only_root p h x w q after is there =
      let both : Some w.root ≡ Some q = sym (ap (λ (o : Option Present). option_map (λ (z : Present). z.root) o) is)
      ∙ sym (root_is p h x after) ∙ there in cc both

  -- what a view learns of a root place
  pub tells_root : (s : St) (r : IsSound stands l s) (id : ℕ) (v : SeatView) (o : Object) (fits : IsObjectOf l.shape o)
      → get_elem? s.views id ≡ some v → (p : ℕ) → o ≡ Root p → TellsRoot l p v (r.objects o fits).history
  tells_root s r id v o fits at p e =
      subst (λ (o : Object). (fits : IsObjectOf l.shape o) → TellsRoot l p v (r.objects o fits).history) (sym e)
      (λ lt. record {
        counted = λ q here has.
            let c = subst (λ (n : ℕ). CountsAt n q.generation v) here (count_at stands l s r id v at q has) in
            exactly s r p lt q here (count_born stands l s r id v at q has)
            (counted_root s r id p q.generation v lt at c);
        ended = λ q here has z.
            let t = subst (λ (n : ℕ). TokenAt n q.generation v) here (token_at stands l s r id v at q has) in
            let e = subst (λ (n : ℕ). weigh (ends q) v ≡ weigh (at_end n q.generation) v) here
            (ends_at stands l s r id v at q has) in
            exactly s r p lt q here (token_born stands l s r id v at q has)
            (token_root s r id p q.generation v lt at t (omega (arith, e, z)));
        in_hand = λ has z. hand_root s r id p v lt at has z;
        none_waits =
            λ q here has. token_alone s r id p q.generation v lt at
            (subst (λ (n : ℕ). TokenAt n q.generation v) here (token_at stands l s r id v at q has));
        few = λ x after. few_births s r p lt x after;
        young = λ has z x after. young_place s r id v p lt at has z x after;
        capacity =
            λ q here has x w after is. knows_no_more stands l s r id v at q has p lt x w after is
            (only_root p (r.objects (Root p) lt).history x w q after is
            (let c = subst (λ (n : ℕ). CountsAt n q.generation v) here (count_at stands l s r id v at q has) in
            exactly s r p lt q here (count_born stands l s r id v at q has)
            (counted_root s r id p q.generation v lt at c)));
        lone =
            λ q lane here number lone.
            subst (λ (p : ℕ). (lt : IsObjectOf l.shape (Root p)) (x : RootPlace) (w : Present)
            → IsPlaceAfter p (r.objects (Root p) lt).history x → x.present ≡ Some w → w.root ≡ q
            → w.bytes ≡ own_bytes q v) here
            (λ lt. lone_bytes stands l s r id v at q lt lane number lone) lt;
        unnamed =
            λ q here. subst (λ (p : ℕ). (lt : IsObjectOf l.shape (Root p)) (x : RootPlace)
            → IsPlaceAfter p (r.objects (Root p) lt).history x → x.generation < q.generation
            → sum_by (names q) v.own.notes ≡ 0) here
            (λ lt. unnamed stands l s r id v at q lt) lt;
      }) fits

  -- a view that may note a birth has none that waits
  pub birth_alone : (s : St) (r : IsSound stands l s) (id p : ℕ) (v : SeatView)
      (lt : p < l.shape.lanes * l.shape.handles) (e : Noted) → get_elem? s.views id ≡ some v
      → IsLawful l.shape (Root p) ((r.objects (Root p) lt).history ++ e ∷ []) → (q : ℕ) → 0 < did_birth q e.did
      → NoneWaits p v
  birth_alone s r id p v lt e at accepted q here =
      let k = r.counts p lt in let h = (r.objects (Root p) lt).history in let last =
      last_place l.shape p h e accepted in let x : RootPlace = last.0 in let n : ℕ = x.generation in let t =
      (r.objects (Root p) lt).accepted in
      let free = birth_step p q x e.did e.region last.1 last.3 here in
      let nb = history_births s r p lt x last.2 in let lo = no_fewer stands l s r p lt in
      dite (dec_le (weigh (at_birth p) v) (weigh (on_place ref_born p) v))
      (λ le. le)
      (λ gt. let more : weigh (on_place ref_born p) v < weigh (at_birth p) v = lt_of_not-le gt in
      let all = All-weaker (IsView l.shape r.setting)
      (λ (v : SeatView). weigh (on_place ref_born p) v + weigh (on_place ref_born p) v ≤ weigh (at_birth p) v
      + weigh (at_birth p) v) (λ v fine. let q = fine.roots.borne p in omega (arith, q)) s.views r.views in
      let a = strict_sum (weigh (on_place ref_born p)) (weigh (on_place ref_born p)) (weigh (at_birth p))
      (weigh (at_birth p)) s.views id v all at (omega (arith, more)) in let b = k.all_born in
      let bo : ℕ = place_tally ref_born p s.views in let bi : ℕ = sum_by (weigh (at_birth p)) s.views in
      let a' : bo + bo < bi + bi = a in let b' : bo ≡ k.generation = b in let nb' : bi ≡ n = nb in
      let past : k.generation < n = omega (arith, a', b', nb') in
      let gone = (place_ends l.shape p h x t last.2).gone free (omega (arith, past)) in
      let none_yet : tally ref_ended p n s.views ≡ 0 = k.later ref_ended n (inr past) in
      let le = ends_le stands l s r p n in
      let en = ends_in stands l s r p n lt in
      absurd (omega (arith, gone, none_yet, le, en)))

  -- a view that may note an end hasn't noted it
  pub end_first : (s : St) (r : IsSound stands l s) (id p : ℕ) (v : SeatView) (lt : p < l.shape.lanes * l.shape.handles)
      (e : Noted) → get_elem? s.views id ≡ some v → IsLawful l.shape (Root p)
      ((r.objects (Root p) lt).history ++ e ∷ []) → (g : ℕ) → 0 < did_end p g e.did → TokenAt p g v
      → weigh (at_end p g) v < weigh (on_root ref_ended p g) v
  end_first s r id p v lt e at accepted g here has =
      let h = (r.objects (Root p) lt).history in let last = last_place l.shape p h e accepted in let x : RootPlace =
      last.0 in let n : ℕ = x.generation in let t = (r.objects (Root p) lt).accepted in
      let found = end_step p p g x e.did e.region last.1 last.3 here in
      let ends = place_ends l.shape p h x t last.2 in let z = ends.present found.0 found.1 in let f =
      (ends.fits found.0 found.1).1 in let same : n ≡ g = sym f ∙ found.3 in
      let en = ends_in stands l s r p g lt in let le = sum_at (weigh (at_end p g)) s.views id v at in
      let sg = ap (λ (k : ℕ). sum_by (λ (e : Noted). did_end p k e.did) h) same in
      let u : ℕ = sum_by (λ (e : Noted). did_end p n e.did) h in let w : ℕ =
      sum_by (λ (e : Noted). did_end p g e.did) h in let z' : u ≡ 0 = z in let sg' : u ≡ w = sg in
      let t : ℕ = sum_by (weigh (at_end p g)) s.views in let en' : t
      ≡ w = en in let le' : weigh (at_end p g) v ≤ t = le in
      omega (arith, z', sg', en', le', has)

  births_of_in : (s : St) (r : IsSound stands l s) (p g : ℕ) (lt : p < l.shape.lanes * l.shape.handles)
      → sum_by (weigh (at_birth_of p g)) s.views ≡ sum_by (λ (n : Noted). did_birth_of p g n.did)
      (r.objects (Root p) lt).history
  births_of_in s r p g lt = root_notes stands l s r p lt (did_birth_of p g) (λ d z y. of_birth p g d z)

  -- the birth that a view has noted and not made is of the next generation
  pub next_birth : (s : St) (r : IsSound stands l s) (id p g : ℕ) (v : SeatView)
      (lt : p < l.shape.lanes * l.shape.handles) → get_elem? s.views id ≡ some v
      → weigh (on_root ref_born p g) v < weigh (at_birth_of p g) v → g ≡ (r.counts p lt).generation + 1
  next_birth s r id p g v lt at less =
      let k = r.counts p lt in let h = (r.objects (Root p) lt).history in let pl =
      place_there l.shape p h (r.objects (Root p) lt).accepted in let n : ℕ = pl.0.generation in
      let all = All-weaker (IsView l.shape r.setting)
      (λ (v : SeatView). weigh (on_root ref_born p g) v + weigh (on_root ref_born p g) v ≤ weigh (at_birth_of p g) v
      + weigh (at_birth_of p g) v) (λ v fine. let q =
      fine.roots.borne_of p g in omega (arith, q)) s.views r.views in
      let a = strict_sum (weigh (on_root ref_born p g)) (weigh (on_root ref_born p g)) (weigh (at_birth_of p g))
      (weigh (at_birth_of p g)) s.views id v all at (omega (arith, less)) in
      let bo : ℕ = tally ref_born p g s.views in let bi : ℕ = sum_by (weigh (at_birth_of p g)) s.views in
      let a' : bo + bo < bi + bi = a in
      let hb : ℕ = sum_by (λ (e : Noted). did_birth_of p g e.did) h in let same : bi ≡ hb = births_of_in s r p g lt in
      let law = place_born l.shape p h pl.0 (r.objects (Root p) lt).accepted pl.1 g in let most : hb ≤ 1 = law.0 in
      let unborn : bo ≡ 0 = omega (arith, a', same, most) in let some_birth : 0 < hb = omega (arith, a', same) in
      let pos : g ≢ 0 = (λ z. let e : hb ≡ 0 = law.1 (inl z) in omega (arith, e, some_birth)) in
      let low : g ≤ n = dite (dec_le g n) (λ le. le)
      (λ gt. let e : hb ≡ 0 = law.1 (inr (lt_of_not-le gt)) in absurd (omega (arith, e, some_birth))) in
      let past : k.generation < g = dite (dec_le g k.generation)
      (λ le. let e : bo ≡ 1 = k.born g (omega (arith, pos)) le in absurd (omega (arith, e, unborn)))
      (λ gt. lt_of_not-le gt) in
      let nb = history_births s r p lt pl.0 pl.1 in let hi = no_more stands l s r p lt in let f = k.free in
      let x : ℕ = sum_by (weigh (at_birth p)) s.views in let nb' : x ≡ n = nb in omega (arith, low, past, nb', hi, f)
