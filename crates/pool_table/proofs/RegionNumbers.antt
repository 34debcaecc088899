-- Takings have numbers of their own, and few uses.
use Rattle.step_law.specs.Settings.{Setting}
use Rattle.std.proofs.Common.{◌≡◌, ◌⊎◌, ℕ, suc, ◌+◌, ◌*◌, ◌<◌, ◌≤◌, List, [], ◌∷◌, ◌++◌, Bool, true, cond, eqb, sym, refl, ap, ◌∙◌, subst, inl, inr, ⊎_elim, arith, ne_eqb}
use Rattle.std.specs.Prelude.{Option, sum_by, count_by, ◌&&◌}
use Rattle.std.proofs.lemmas.List.Sums.{sum_by-le-sum_by}
use mathlib.Core.Logic.{dite}
use native.Mathlib.Decide.{ℕ_discrete, dec_le}
use mathlib.Core.Option.{some}
use lib.ListN.{get_elem?}
use Rattle.atomic_table.specs.Table.{State}
use Rattle.pool_law.specs.declared.id.RegionId.{RegionId}
use Rattle.pool_law.specs.declared.note.Did.{Did}
use Rattle.pool_law.specs.declared.note.Did.TheVariants.{Take, Birth, Grow}
use Rattle.pool_law.specs.declared.note.Noted.{Noted}
use Rattle.pool_law.specs.declared.note.Object.{Object}
use Rattle.pool_law.specs.declared.note.Object.TheVariants.{Arena, Cache, Root}
use Rattle.pool_law.specs.Homes.{home_of, IsObjectOf}
use Rattle.pool_law.specs.Same.{same_taking}
use Rattle.pool_law.specs.Arenas.{Arena as ArenaState, is_out_of}
use Rattle.pool_law.specs.Caches.{Cache as CacheState}
use Rattle.pool_law.specs.Roots.{RootPlace}
use Rattle.history_laws.specs.Histories.{IsLawful, IsArenaAfter}
use Rattle.history_laws.specs.Standing.{IsRegioned}
use Rattle.history_laws.specs.NoteCounts.{is_taking, has_number, weight_or, arena_out, arena_in, cache_out, cache_in, place_out, place_in}
use Rattle.history_laws.proofs.ArenaTakings.{arena_laws, at_most}
use Rattle.history_laws.proofs.Regions.{arena_next, cache_next, place_next}
use Rattle.history_laws.proofs.TakingMoves.{regioned}
use Rattle.history_laws.proofs.Told.{arena_there, cache_there, place_there}
use Rattle.pool_table.specs.declared.views.Entry.{Entry}
use Rattle.pool_table.specs.declared.views.Entry.TheVariants.{At, Ref, Busy}
use Rattle.pool_table.specs.declared.views.Layout.{Layout}
use Rattle.pool_table.specs.declared.views.Part.{Part}
use Rattle.pool_table.specs.declared.views.SeatView.{SeatView}
use Rattle.pool_law.specs.Kinds.{passing}
use Rattle.pool_law.proofs.PatternLemmas.{same_taking-refl}
use Rattle.pool_table.specs.Views.{parts_of, is_turn, took_turn, spent}
use Rattle.pool_table.specs.Counts.{weigh}
use Rattle.pool_table.specs.Hands.{from_arena, to_place, HasTaking, HasRegion, IsPutDown}
use Rattle.pool_table.specs.Holders.{region_at}
use Rattle.pool_table.specs.Learned.{did_take_up}
use Rattle.pool_table.specs.Sound.{IsKnown, IsSound, Stands}
use Rattle.pool_table.proofs.Partition.{sum_to_at, in_views, IsAmong}
use Rattle.pool_table.proofs.RegionNotes.{all_among, object_notes, is_in_list, cache_has, place_has, Spread, cached, placed}
use Rattle.pool_table.proofs.Regions.{arena_side, in_hand, some_side, some_spread, sums, in_no_hand}

module _ {H : Type 0} (stands : List ℕ → Setting → List Noted → H → Type 0) (l : Layout) where
  abbrev St : Type 0
  St = State (Option H) SeatView

  -- no number is taken twice, in all views together
  numbered_at : (a t : ℕ) (o : Object) (n : Noted) → ((q : RegionId) → IsRegioned o n q)
      → (arena_out (has_number a t) n.did ≡ 0) ⊎ (o ≡ Arena a)
  numbered_at a t o n of = by n.did (λ q. (of q).arena)
    where
      by : (d : Did) → ((q : RegionId) → (arena_out (is_taking q) d + arena_in (is_taking q) d ≡ 0)
          ⊎ (o ≡ Arena q.place.arena)) → (arena_out (has_number a t) d ≡ 0) ⊎ (o ≡ Arena a)
      by (Take c q) of = dite (ℕ_discrete q.place.arena a)
          (λ same. ⊎_elim
          (λ (z : is_taking q q + 0 ≡ 0). let one : is_taking q q
          ≡ 1 = ap (λ (b : Bool). cond {A = ℕ} b 1 0) (same_taking-refl q) in absurd (omega (arith, one, z)))
          (λ (e : o ≡ Arena q.place.arena). inr (e ∙ ap Arena same))
          (of q))
          (λ ne. inl (ap (λ (c : Bool). cond {A = ℕ} (c && eqb q.taking t) 1 0) (ne_eqb q.place.arena a ne)))
      by d of = inl refl

  pub number_once : (s : St) (r : IsSound stands l s) (a t : ℕ)
      → sum_by (weigh (from_arena (has_number a t))) s.views ≤ 1
  number_once s r a t = dite (dec_le (suc a) l.shape.arenas)
      (λ le. let fits : a < l.shape.arenas = omega (arith, le) in let h = (r.objects (Arena a) fits).history in
      let x = arena_there l.shape a h (r.objects (Arena a) fits).accepted in
      let law = (arena_laws l.shape a h x.0 (r.objects (Arena a) fits).accepted x.1).taken_once t in
      let n = object_notes stands l s r (Arena a) fits (λ (n : Noted). arena_out (has_number a t) n.did)
      (λ lane e st. among a t e lane st) in
      omega (arith, law, n))
      (λ gt. let n : 0 ≡ sum_by (weigh (from_arena (has_number a t))) s.views =
      in_views l.shape 0 0 (λ (n : Noted). arena_out (has_number a t) n.did) s.views
      (all_among stands l s r 0 0 (λ (n : Noted). arena_out (has_number a t) n.did)
      (λ lane e st. away a t (λ lt. gt (omega (arith, lt))) e lane st)) in omega (arith, n))
    where
      among : (a t : ℕ) (e : Entry) (lane : Option ℕ) → Stands l.shape lane e
          → IsAmong l.shape (home_of l.shape (Arena a)) 1 (λ (n : Noted). arena_out (has_number a t) n.did) e
      among a t (At o k n) lane st = ⊎_elim
          (λ (z : arena_out (has_number a t) n.did ≡ 0). inl z)
          (λ (e : o ≡ Arena a). inr (
            0,
            (let g : 0 < 1 = omega arith in g),
            (λ i. let b : ℕ = home_of l.shape (Arena a) in let z : b
                ≡ b + 0 =
                omega arith in ap (λ (x : Object). eqb (home_of l.shape x) i) e ∙ ap (λ (x : ℕ). eqb x i) z),
          ))
          (numbered_at a t o n st.in_place.regioned)
      among a t (Ref p d) lane st = inl refl
      among a t (Busy b) lane st = inl refl

      away : (a t : ℕ) → (a < l.shape.arenas → ⊥) → (e : Entry) (lane : Option ℕ) → Stands l.shape lane e
          → IsAmong l.shape 0 0 (λ (n : Noted). arena_out (has_number a t) n.did) e
      away a t none (At o k n) lane st = ⊎_elim
          (λ (z : arena_out (has_number a t) n.did ≡ 0). inl z)
          (λ (e : o ≡ Arena a). let fits : a < l.shape.arenas = subst (IsKnown l.shape) e st.object in
          absurd (none fits))
          (numbered_at a t o n st.in_place.regioned)
      away a t none (Ref p d) lane st = inl refl
      away a t none (Busy b) lane st = inl refl

  -- a claim of an arena tells that each region of it in hand is out
  pub arena_tells : (s : St) (r : IsSound stands l s) (id : ℕ) (v : SeatView) (o : Object) (fits : IsObjectOf l.shape o)
      → get_elem? s.views id ≡ some v → (a : ℕ) (x : ArenaState) → o ≡ Arena a
      → IsArenaAfter l.shape a (r.objects o fits).history x → (q : RegionId) → q.place.arena ≡ a → HasTaking q v
      → is_out_of x q ≡ true
  arena_tells s r id v o fits at a x e after q is has =
      subst (λ (o : Object). (fits : IsObjectOf l.shape o) → IsArenaAfter l.shape a (r.objects o fits).history x
      → is_out_of x q ≡ true) (sym e)
      (subst (λ (a : ℕ). (fits : a < l.shape.arenas) → IsArenaAfter l.shape a (r.objects (Arena a) fits).history x
      → is_out_of x q ≡ true) is
      (λ fits after. let one = (in_hand stands l s r id v q (sum_by (is_taking q) x.out) at
      (arena_side stands l s r q fits x after)
      has).out_once in is_in_list q x.out (omega (arith, one)))) fits after

  -- no region in hand has more uses than there are notes
  born_at : (q : RegionId) (e : Entry) → to_place (is_taking q) e ≤ cond {A = ℕ} (took_turn e) 1 0
  born_at q (At o k n) = by n.did
    where
      by : (d : Did) → place_in (is_taking q) d ≤ cond {A = ℕ} (is_turn o (passing d)) 1 0
      by (Birth root x) = at_most (same_taking q x)
      by (Grow c x) = at_most (same_taking q x)
      by d = omega arith
  born_at q (Ref p d) = omega arith
  born_at q (Busy b) = omega arith

  pub few_uses : (s : St) (r : IsSound stands l s) (id : ℕ) (v : SeatView) → get_elem? s.views id ≡ some v
      → (q : RegionId) → HasRegion q v → q.uses < 4611686018427387904
  few_uses s r id v at q has =
      let side = some_side stands l s r q in let f = (in_hand stands l s r id v q side.0 at side.1 has.taking).uses in
      let u = has.uses in
      let le : sum_by (weigh (to_place (is_taking q))) s.views ≤ sum_by spent s.views =
      sum_by-le-sum_by (weigh (to_place (is_taking q))) spent s.views (λ v.
      let a = sum_by-le-sum_by (λ (p : Part). sum_by (to_place (is_taking q)) p.notes)
      (λ (p : Part). count_by took_turn p.notes) (parts_of v)
      (λ p. sum_by-le-sum_by (to_place (is_taking q)) (λ (e : Entry). cond {A = ℕ} (took_turn e) 1 0) p.notes
      (born_at q)) in
      omega (arith, a)) in
      let b = r.budget in let m = r.room in let t : ℕ = l.shape.lanes * l.turns in let n : ℕ = sum_by spent s.views in
      let b' : n ≤ t = b in let m' : t < 4611686018427387904 = m in
      omega (arith, f, u, le, b', m')

  -- what a note that may come next takes up isn't in hand
  module _ (s : St) (r : IsSound stands l s) (id : ℕ) (v : SeatView) (at : get_elem? s.views id ≡ some v) (q : RegionId)
      (n : Noted) where
    from_arenas : (a : ℕ) (fits : IsObjectOf l.shape (Arena a))
        → IsLawful l.shape (Arena a) ((r.objects (Arena a) fits).history ++ n ∷ []) → 0 < arena_out (is_taking q) n.did
        → IsPutDown q v
    from_arenas a fits more lt = ⊎_elim
        (λ (z : arena_out (is_taking q) n.did + arena_in (is_taking q) n.did ≡ 0). absurd (omega (arith, z, lt)))
        (λ (e : Arena a ≡ Arena q.place.arena). let is : a ≡ q.place.arena = cc e in
        subst (λ (b : ℕ). (fits : IsObjectOf l.shape (Arena b))
        → IsLawful l.shape (Arena b) ((r.objects (Arena b) fits).history ++ n ∷ []) → IsPutDown q v) (sym is)
        (λ fits more. let h = (r.objects (Arena q.place.arena) fits).history in let k =
        (r.objects (Arena q.place.arena) fits).accepted in
        let x = arena_there l.shape q.place.arena h k in let out =
        arena_next l.shape q.place.arena h n x.0 k more x.1 q refl lt in
        let sp = some_spread stands l s r in
        in_no_hand stands l s r id v q (sum_by (is_taking q) x.0.out) sp.0 sp.1 at
        (arena_side stands l s r q fits x.0 x.1) sp.2
        (omega (arith, out))) fits more)
        ((regioned l.shape (Arena a) (r.objects (Arena a) fits).history n more q).arena)

    -- a cache or a root place that has it
    from_holder : (sp : (caches : ℕ → CacheState) × (places : ℕ → RootPlace) × Spread stands l s caches places)
        → 0 < cached stands l (is_taking q) sp.0 + placed stands l (is_taking q) sp.1 → IsPutDown q v
    from_holder sp lt =
        let side = some_side stands l s r q in let f = sums stands l s r q side.0 sp.0 sp.1 side.1 sp.2 in
        let most = f.most in
        in_no_hand stands l s r id v q side.0 sp.0 sp.1 at side.1 sp.2 (omega (arith, most, lt))

    from_caches : (d c : ℕ) (fits : IsObjectOf l.shape (Cache d c))
        → IsLawful l.shape (Cache d c) ((r.objects (Cache d c) fits).history ++ n ∷ [])
        → 0 < cache_out (is_taking q) n.did → IsPutDown q v
    from_caches d c fits more lt =
        let h = (r.objects (Cache d c) fits).history in let x =
        cache_there l.shape d c h (r.objects (Cache d c) fits).accepted in
        let low = cache_next l.shape (is_taking q) d c h n x.0 more x.1 in
        let sp = some_spread stands l s r in let i : ℕ = d * 40 + c in let f0 = fits.0 in let f1 = fits.1 in
        let inside : i < l.shape.lanes * 40 = omega (arith, f0, f1) in
        let a = cache_has stands l s r d c fits x.0 x.1 (is_taking q) in let b = sp.2.cached i inside (is_taking q) in
        let le = sum_to_at (l.shape.lanes * 40) (λ i. sum_by (is_taking q) (sp.0 i).regions) i inside in
        from_holder sp (omega (arith, low, a, b, le, lt))

    from_places : (p : ℕ) (fits : IsObjectOf l.shape (Root p))
        → IsLawful l.shape (Root p) ((r.objects (Root p) fits).history ++ n ∷ []) → 0 < place_out (is_taking q) n
        → IsPutDown q v
    from_places p fits more lt =
        let h = (r.objects (Root p) fits).history in let x =
        place_there l.shape p h (r.objects (Root p) fits).accepted in
        let low = place_next l.shape (is_taking q) p h n x.0 more x.1 in
        let sp = some_spread stands l s r in
        let a = place_has stands l s r p fits x.0 x.1 (is_taking q) in let b = sp.2.placed p fits (is_taking q) in
        let le = sum_to_at (l.shape.lanes * l.shape.handles) (λ p. weight_or (is_taking q) (region_at (sp.1 p))) p
        fits in
        from_holder sp (omega (arith, low, a, b, le, lt))

    pub next_free : (o : Object) (fits : IsObjectOf l.shape o)
        → IsLawful l.shape o ((r.objects o fits).history ++ n ∷ []) → 0 < did_take_up q n → IsPutDown q v
    next_free o fits more lt =
        let st = regioned l.shape o (r.objects o fits).history n more q in
        dite (ℕ_discrete (arena_out (is_taking q) n.did) 0)
        (λ za. dite (ℕ_discrete (cache_out (is_taking q) n.did) 0)
        (λ zc. let lp : 0 < place_out (is_taking q) n = omega (arith, lt, za, zc) in ⊎_elim
        (λ (z : place_out (is_taking q) n + place_in (is_taking q) n.did ≡ 0). absurd (omega (arith, z, lp)))
        (λ (e : (p : ℕ) × (o ≡ Root p)). subst
        (λ (o : Object). (fits : IsObjectOf l.shape o) → IsLawful l.shape o ((r.objects o fits).history ++ n ∷ [])
        → IsPutDown q v) (sym e.1) (λ fits more. from_places e.0 fits more lp) fits more)
        st.place)
        (λ nc. let lc : 0 < cache_out (is_taking q) n.did = omega (arith, nc) in ⊎_elim
        (λ (z : cache_out (is_taking q) n.did + cache_in (is_taking q) n.did ≡ 0). absurd (omega (arith, z, lc)))
        (λ (e : (d : ℕ) × (c : ℕ) × (o ≡ Cache d c)). subst
        (λ (o : Object). (fits : IsObjectOf l.shape o) → IsLawful l.shape o ((r.objects o fits).history ++ n ∷ [])
        → IsPutDown q v) (sym e.2) (λ fits more. from_caches e.0 e.1 fits more lc) fits more)
        st.cache))
        (λ na. let la : 0 < arena_out (is_taking q) n.did = omega (arith, na) in ⊎_elim
        (λ (z : arena_out (is_taking q) n.did + arena_in (is_taking q) n.did ≡ 0). absurd (omega (arith, z, la)))
        (λ (e : o ≡ Arena q.place.arena). subst
        (λ (o : Object). (fits : IsObjectOf l.shape o) → IsLawful l.shape o ((r.objects o fits).history ++ n ∷ [])
        → IsPutDown q v) (sym e) (λ fits more. from_arenas q.place.arena fits more la) fits more)
        st.arena)
