-- Who may note something of a root: who names it already.
use Rattle.step_law.specs.Settings.{Setting}
use Rattle.std.proofs.Common.{◌≡◌, ◌≢◌, ◌⊎◌, ℕ, ◌+◌, ◌<◌, ◌≤◌, Bool, true, false, List, [], ◌∷◌, ◌++◌, sym, refl, ap, ◌∙◌, subst, inl, inr, ⊎_elim, arith, lt_of_not-le, Some, None}
use Rattle.std.specs.Prelude.{Option, option_map, sum_by}
use Rattle.std.proofs.lemmas.List.Elements.{All-weaker}
use Rattle.std.proofs.lemmas.List.Sums.{sum_by_push, sum_by-le-sum_by}
use mathlib.Core.Logic.{dite}
use native.Mathlib.Decide.{ℕ_discrete, dec_le}
use mathlib.Core.Option.{some, some-injective}
use lib.ListN.{get_elem?}
use Rattle.atomic_table.specs.Table.{State}
use Rattle.step_law.proofs.Changes.{each_at, each_from, sum_at, sum_none}
use Rattle.pool_law.specs.declared.id.RootId.{RootId}
use Rattle.pool_law.specs.declared.note.Did.{Did}
use Rattle.pool_law.specs.declared.note.Did.TheVariants.{Post, Fetch, End}
use Rattle.pool_law.specs.declared.note.Noted.{Noted}
use Rattle.pool_law.specs.declared.note.Object.{Object}
use Rattle.pool_law.specs.declared.note.Object.TheVariants.{Root}
use Rattle.pool_law.specs.Homes.{IsObjectOf}
use Rattle.pool_law.specs.Histories.{place_after}
use Rattle.pool_law.specs.NotedHistories.{noted_dids, MayNote}
use Rattle.pool_law.specs.Logs.{present_in}
use Rattle.pool_law.specs.Counts.{root_is}
use Rattle.pool_law.specs.Kinds.{beside}
use Rattle.pool_law.specs.Roots.{RootPlace, Present}
use Rattle.history_laws.specs.Histories.{IsLawful, IsPlaceAfter, root_after}
use Rattle.history_laws.specs.NoteCounts.{one_if_so, did_birth, did_birth_of, did_birth_as, did_end, did_end_of, did_post_of, did_fetch_of}
use Rattle.history_laws.proofs.Roots.{place_born, place_ends, of_birth}
use Rattle.history_laws.proofs.Runs.{right_last}
use Rattle.history_laws.proofs.Told.{place_there, root_is as root_there}
use Rattle.pool_table.specs.declared.views.Entry.TheVariants.{At}
use Rattle.pool_table.specs.declared.views.Inside.{Inside}
use Rattle.pool_table.specs.declared.views.Layout.{Layout}
use Rattle.pool_table.specs.declared.views.SeatView.{SeatView}
use Rattle.pool_table.specs.Counts.{weigh, on_root, on_place, place_tally, tally, ref_born, posts, HasToken}
use Rattle.pool_table.specs.Hands.{at_birth, at_birth_of, InHand, MayEnter, PutsDown}
use Rattle.pool_table.specs.Learned.{TellsRoot}
use Rattle.pool_table.specs.Lone.{births, names}
use Rattle.pool_table.specs.Sound.{IsSound, IsView, NoteStands}
use Rattle.pool_table.proofs.AtPlace.{TokenAt}
use Rattle.pool_table.proofs.Bearing.{bearing_at}
use Rattle.pool_table.proofs.Capacities.{no_mail, at_root, told_root}
use Rattle.pool_table.proofs.CountSteps.{token_word}
use Rattle.pool_table.proofs.Exact.{root_notes, one_born, present_born, token_at, token_born}
use Rattle.pool_table.proofs.Known.{root_beside-is}
use Rattle.pool_table.proofs.LoneBytes.{access}
use Rattle.pool_table.proofs.Lone.{weigh_le, count_names, token_names, bearer_names, MayName}
use Rattle.pool_table.proofs.Places.{never_both}
use Rattle.pool_table.proofs.PlaceSums.{no_fewer, no_more}
use Rattle.pool_table.proofs.Presence.{history_births, tells_root}
use Rattle.pool_table.proofs.RootEntries.{as_birth, named_this}
use Rattle.pool_table.proofs.Weights.{strict_sum}
use Rattle.pool_table.proofs.Unborn.{as_of, as_of_entry, unborn}

some_so : (b : Bool) → 0 < one_if_so b → b ≡ true
some_so true lt = refl
some_so false lt = absurd (omega (arith, lt))

module _ {H : Type 0} (stands : List ℕ → Setting → List Noted → H → Type 0) (l : Layout) where
  abbrev St : Type 0
  St = State (Option H) SeatView

  module _ (s : St) (r : IsSound stands l s) where
    -- a birth that may come next is the first one of its root
    first_birth : (q : RootId) (nd : Noted) (fits : IsObjectOf l.shape (Root q.place))
        → IsLawful l.shape (Root q.place) ((r.objects (Root q.place) fits).history ++ nd ∷ [])
        → 0 < did_birth_as q.place q.generation q.capacity nd.did → sum_by (weigh (births q)) s.views ≡ 0
    first_birth q nd fits accepted lt =
        let p : ℕ = q.place in let g : ℕ = q.generation in
        let h : List Noted = (r.objects (Root p) fits).history in
        let x = place_there l.shape p (h ++ nd ∷ []) accepted in
        let once = (place_born l.shape p (h ++ nd ∷ []) x.0 accepted x.1 g).0 in
        let push = sum_by_push (λ (n : Noted). did_birth_of p g n.did) h nd in
        let one = as_of p g q.capacity nd.did in
        let noted = root_notes stands l s r p fits (did_birth_of p g) (λ d z y. of_birth p g d z) in
        let le = sum_by-le-sum_by (weigh (births q)) (weigh (at_birth_of p g)) s.views
        (weigh_le (births q) (at_birth_of p g) (as_of_entry p g q.capacity)) in
        let y : ℕ = sum_by (weigh (births q)) s.views in let b : ℕ = sum_by (weigh (at_birth_of p g)) s.views in
        let hb : ℕ = sum_by (λ (n : Noted). did_birth_of p g n.did) h in
        let all : ℕ = sum_by (λ (n : Noted). did_birth_of p g n.did) (h ++ nd ∷ []) in
        let once' : all ≤ 1 = once in let push' : all ≡ hb + did_birth_of p g nd.did = push in
        let noted' : b ≡ hb = noted in let le' : y ≤ b = le in
        let goal : y ≡ 0 = omega (arith, once', push', one, lt, noted', le') in goal

    module _ (id : ℕ) (v : SeatView) (at : get_elem? s.views id ≡ some v) (q : RootId)
        (lt : IsObjectOf l.shape (Root q.place))
        (there : root_after q.place (r.objects (Root q.place) lt).history ≡ Some q) where
      tells : TellsRoot l q.place v (r.objects (Root q.place) lt).history
      tells = tells_root stands l s r id v (Root q.place) lt at q.place refl

      place : (x : RootPlace) × IsPlaceAfter q.place (r.objects (Root q.place) lt).history x
      place = place_there l.shape q.place (r.objects (Root q.place) lt).history (r.objects (Root q.place) lt).accepted

      last : q.generation ≡ (place.0).generation
      last =
          ((place_ends l.shape q.place (r.objects (Root q.place) lt).history place.0
          (r.objects (Root q.place) lt).accepted place.1).fits q
          (sym (root_there q.place (r.objects (Root q.place) lt).history place.0 place.1) ∙ there)).1

      all_births : sum_by (weigh (at_birth q.place)) s.views ≡ q.generation
      all_births = history_births stands l s r q.place lt place.0 place.1 ∙ sym last

      -- where one has the place in hand, no other noted the birth of the root that is present
      bearer_else : InHand q.place v → (j : ℕ) (u : SeatView) → j ≢ id → get_elem? s.views j ≡ some u
          → 0 < weigh (births q) u → ⊥
      bearer_else hand j u ne bt has =
          let p : ℕ = q.place in let g : ℕ = q.generation in let k = r.counts p lt in
          let up = weigh_le (births q) (at_birth_of p g) (as_of_entry p g q.capacity) u in
          dite (ℕ_discrete (weigh (on_root ref_born p g) u) 0)
          (λ z. let bearing = bearing_at stands l s r p lt j g u bt (omega (arith, up, has, z)) in
          let bears = (each_at (IsView l.shape r.setting) s.views j u r.views bt).roots.bears p in
          let mine : InHand p u = omega (arith, bearing, bears) in
          never_both stands l s r j id p u v lt ne bt at (inl mine) (inr hand))
          (λ some_born. let made = sum_at (weigh (on_root ref_born p g)) s.views j u bt in
          let t : ℕ = tally ref_born p g s.views in let made' : weigh (on_root ref_born p g) u ≤ t = made in
          let young : g ≤ k.generation = dite (dec_le g k.generation) (λ le. le)
          (λ gt. let z : t ≡ 0 = k.later ref_born g (inr (lt_of_not-le gt)) in
          absurd (omega (arith, z, made', some_born))) in
          dite (dec_le (weigh (at_birth p) v) (weigh (on_place ref_born p) v))
          (λ le. let both : Some q ≡ None = sym there ∙ tells.in_hand hand le in absurd (cc both))
          (λ gt. let more : weigh (on_place ref_born p) v < weigh (at_birth p) v = lt_of_not-le gt in
          let all = All-weaker (IsView l.shape r.setting)
          (λ (v : SeatView). weigh (on_place ref_born p) v + weigh (on_place ref_born p) v ≤ weigh (at_birth p) v
          + weigh (at_birth p) v) (λ v fine. let q = fine.roots.borne p in omega (arith, q)) s.views r.views in
          let a = strict_sum (weigh (on_place ref_born p)) (weigh (on_place ref_born p)) (weigh (at_birth p))
          (weigh (at_birth p)) s.views id v all at (omega (arith, more)) in let b = k.all_born in
          let bo : ℕ = place_tally ref_born p s.views in let bi : ℕ = sum_by (weigh (at_birth p)) s.views in
          let a' : bo + bo < bi + bi = a in let b' : bo ≡ k.generation = b in let n' : bi ≡ g = all_births in
          omega (arith, a', b', n', young)))

      -- who may be in the section of a place names the root that is present
      present_named : MayEnter q.place v → 0 < weigh (names q) v
      present_named (inl (t, here, inl has)) =
          let both : Some t ≡ Some q = sym (tells.counted t here has) ∙ there in
          let same : t ≡ q = cc both in subst (λ (x : RootId). 0 < weigh (names x) v) same (count_names t v has)
      present_named (inl (t, here, inr has)) =
          let p : ℕ = q.place in
          let tok = token_word stands l s r id p t.generation v lt at
          (subst (λ (n : ℕ). TokenAt n t.generation v) here (token_at stands l s r id v at t has)) in
          let lo = no_fewer stands l s r p lt in let hi = no_more stands l s r p lt in
          let bi : ℕ = sum_by (weigh (at_birth p)) s.views in let k = r.counts p lt in
          let lo' : k.generation ≤ bi = lo in let hi' : bi ≤ k.generation + k.vacant = hi in
          let n' : bi ≡ q.generation = all_births in let g : t.generation ≡ k.generation = tok.0 in
          let free : k.vacant ≡ 0 = tok.3 in
          let same : t ≡ q = one_born stands l s r q t (present_born stands l s r p lt q there refl)
          (token_born stands l s r id v at t has) here (omega (arith, lo', hi', n', g, free)) in
          subst (λ (x : RootId). 0 < weigh (names x) v) same (token_names t v has)
      present_named (inr hand) = dite (ℕ_discrete (weigh (births q) v) 0)
          (λ z. let none : sum_by (weigh (births q)) s.views ≡ 0 =
          sum_none (weigh (births q)) s.views (each_from (λ (u : SeatView). weigh (births q) u ≡ 0) s.views
          (λ j u bt. dite (ℕ_discrete j id)
          (λ e. subst (λ (x : SeatView). weigh (births q) x ≡ 0)
          (some-injective v u (sym at ∙ ap (λ (i : ℕ). get_elem? s.views i) (sym e) ∙ bt)) z)
          (λ ne. dite (ℕ_discrete (weigh (births q) u) 0) (λ z. z)
          (λ some_born. absurd (bearer_else hand j u ne bt (omega (arith, some_born))))))) in
          let born : 0 < sum_by (weigh (births q)) s.views = present_born stands l s r q.place lt q there refl in
          absurd (omega (arith, born, none)))
          (λ ne. bearer_names q v (omega (arith, ne)))

    -- the note of a section
    pub may_note : (id : ℕ) (v : SeatView) (o : Object) (fits : IsObjectOf l.shape o) (x : Inside) (k : ℕ) (nd : Noted)
        → get_elem? s.views id ≡ some v → v.inside ≡ Some x → x.object ≡ o → NoteStands l.shape v.own.number o nd
        → PutsDown v nd.did → IsLawful l.shape o ((r.objects o fits).history ++ nd ∷ [])
        → MayName s.views v (At o k nd)
    may_note id v o fits x k nd at inside on st hands accepted = record { fresh = fresh; known = known }
      where
        fresh : (q : RootId) → 0 < births q (At o k nd) → sum_by (weigh (names q)) s.views ≡ 0
        fresh q lt =
            let place : o ≡ Root q.place = ⊎_elim
            (λ (z : (did_birth q.place nd.did ≡ 0) × ((g : ℕ) → did_end q.place g nd.did ≡ 0)).
            let none = as_birth q.place q.generation q.capacity nd.did z.0 in absurd (omega (arith, none, lt)))
            (λ (e : o ≡ Root q.place). e)
            (st.in_place.rooted q.place) in
            subst (λ (o : Object). (fits : IsObjectOf l.shape o)
            → IsLawful l.shape o ((r.objects o fits).history ++ nd ∷ []) → sum_by (weigh (names q)) s.views ≡ 0)
            (sym place) (λ fits accepted. unborn stands l s r q fits (first_birth q nd fits accepted lt)) fits accepted

        on_root_there : (q : RootId) → root_is q nd.root ≡ true → 0 < weigh (names q) v
        on_root_there q is =
            let place : o ≡ Root q.place = at_root stands l q o nd st.plain is in
            let may : MayEnter q.place v =
            (each_at (IsView l.shape r.setting) s.views id v r.views at).enters x q.place inside (on ∙ place) in
            subst (λ (o : Object). (fits : IsObjectOf l.shape o)
            → IsLawful l.shape o ((r.objects o fits).history ++ nd ∷ []) → 0 < weigh (names q) v)
            (sym place)
            (λ fits accepted. let h : List Noted = (r.objects (Root q.place) fits).history in
            let told = sym (right_last (Root q.place) h nd accepted.right).0 ∙ told_root q nd.root is in
            let w = root_beside-is (beside nd.did) (present_in (place_after q.place (noted_dids h))) q told in
            let there : root_after q.place h ≡ Some q =
            ap (λ (o : Option Present). option_map (λ (z : Present). z.root) o) w.1
            ∙ ap (λ (z : RootId). Some z) w.2 in
            present_named id v at q fits there may) fits accepted

        known : (q : RootId) → births q (At o k nd) ≡ 0 → 0 < names q (At o k nd)
            → (0 < weigh (names q) v) ⊎ (0 < sum_by (weigh (posts q)) s.views)
        known q none lt = inl (dite (ℕ_discrete (access q nd) 0)
            (λ z. by nd.did refl (omega (arith, none, lt, z)))
            (λ ne. on_root_there q (some_so (root_is q nd.root) (omega (arith, ne)))))
          where
            by : (d : Did) → nd.did ≡ d → 0 < did_end_of q d + (did_post_of q d + did_fetch_of q d)
                → 0 < weigh (names q) v
            by (End t) is lt =
                let e : t ≡ q = named_this t q 1 (omega (arith, lt)) in
                token_names q v (subst (λ (x : RootId). HasToken x v) e (subst (λ (d : Did). PutsDown v d) is hands))
            by (Post parcel) is lt =
                absurd ((no_mail l.shape o v.own.number parcel fits).0
                (subst (λ (d : Did). MayNote l.shape v.own.number o d) is st.lane_may))
            by (Fetch parcel) is lt =
                absurd ((no_mail l.shape o v.own.number parcel fits).1
                (subst (λ (d : Did). MayNote l.shape v.own.number o d) is st.lane_may))
            by d is lt = absurd (omega (arith, lt))
