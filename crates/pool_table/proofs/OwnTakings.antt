-- What a seat took of its own lane's cache, and what it gave there.
use Rattle.step_law.specs.Settings.{Setting}
use Rattle.std.proofs.Common.{◌≡◌, ◌⊎◌, ℕ, ◌+◌, ◌*◌, ◌%◌, ◌<◌, ◌≤◌, List, [], ◌∷◌, ◌++◌, length, Bool, true, false, cond, eqb, eqb-true, sym, refl, ap, ◌∙◌, subst, inl, inr, arith, length-append, eq-eqb, Some, None, lt_of_not-le}
use Rattle.std.specs.Prelude.{Option, All, sum_by, count_by, ◌&&◌}
use Rattle.std.proofs.lemmas.List.Elements.{All-head, All-tail, All-weaker}
use Rattle.std.proofs.lemmas.List.Sums.{sum_by-cons, sum_by-append, sum_by-le-sum_by}
use mathlib.Core.Logic.{dite}
use native.Mathlib.Decide.{dec_le}
use mathlib.Core.Option.{some}
use lib.ListN.{get_elem?}
use Rattle.atomic_table.specs.Table.{State}
use Rattle.step_law.proofs.Changes.{each_at, sum_at, sum_none}
use Rattle.pool_law.specs.declared.run.Shape.{Shape}
use Rattle.pool_law.specs.declared.id.RegionId.{RegionId}
use Rattle.pool_law.specs.declared.note.Did.{Did}
use Rattle.pool_law.specs.declared.note.Did.TheVariants.{Take, Give}
use Rattle.pool_law.specs.declared.note.Noted.{Noted}
use Rattle.pool_law.specs.declared.note.Object.{Object}
use Rattle.pool_law.specs.declared.note.Object.TheVariants.{Arena, Cache}
use Rattle.pool_law.specs.Homes.{IsObjectOf}
use Rattle.pool_law.specs.Same.{same_taking}
use Rattle.pool_law.specs.Caches.{Cache as CacheState}
use Rattle.pool_law.specs.NotedHistories.{MayNote}
use Rattle.pool_law.proofs.SameLemmas.{and-first, and-second}
use Rattle.history_laws.specs.Histories.{IsCacheAfter}
use Rattle.history_laws.specs.Standing.{IsOfClass}
use Rattle.history_laws.specs.NoteCounts.{is_taking, uses_in, has_number, arena_out, arena_in}
use Rattle.history_laws.proofs.Names.{same_taking-is}
use Rattle.history_laws.proofs.ArenaTakings.{of_taking}
use Rattle.history_laws.proofs.Regions.{OfCache, cache_own}
use Rattle.pool_table.specs.declared.views.Entry.{Entry}
use Rattle.pool_table.specs.declared.views.Entry.TheVariants.{At, Ref, Busy}
use Rattle.pool_table.specs.declared.views.Layout.{Layout}
use Rattle.pool_table.specs.declared.views.Part.{Part}
use Rattle.pool_table.specs.declared.views.SeatView.{SeatView}
use Rattle.pool_table.specs.Views.{parts_of, is_lane, numbered}
use Rattle.pool_table.specs.Counts.{weigh}
use Rattle.pool_table.specs.Hands.{from_arena, to_arena, weight_taken, weight_put_down, uses_come, uses_gone}
use Rattle.pool_table.specs.Learned.{in_own, takes_of, gives_of, TellsCache}
use Rattle.pool_table.specs.Sound.{IsSound, IsView, Stands, OnceBelow}
use Rattle.pool_table.proofs.Partition.{sum_to_at}
use Rattle.pool_table.proofs.Ledgers.{all_pay, only_here}
use Rattle.pool_table.proofs.Tables.{none_counted}
use Rattle.pool_table.proofs.Regions.{some_side, some_spread, sums, all_held}
use Rattle.pool_table.proofs.RegionNotes.{cache_has}
use Rattle.pool_table.proofs.RegionNumbers.{number_once}
use Rattle.pool_table.proofs.OwnCaches.{true_of, load, no_longer, of_both, named, listed, many_listed, load_listed, one_of, given, taken}

module _ (lane class : ℕ) where
  many_given : (e : Entry) → length (named (given lane class) e) ≡ gives_of lane class e
  many_given (At o k n) = by n.did
    where
      one : (r : RegionId) (b : Bool) → length (cond b (r ∷ []) []) ≡ cond {A = ℕ} b 1 0
      one r true = refl
      one r false = refl

      by : (d : Did) → length (given lane class d) ≡ gives_of lane class (At o k (record n { did = d }))
      by (Give r) = one r (eqb r.owner lane && eqb r.class class)
      by d = refl
  many_given (Ref r d) = refl
  many_given (Busy b) = refl

  load_given : (q : RegionId) (e : Entry) → load q (named (given lane class) e) ≤ to_arena (is_taking q) e
  load_given q (At o k n) = by n.did
    where
      one : (r : RegionId) (b : Bool) → load q (cond b (r ∷ []) []) ≤ is_taking q r
      one r true = let c = one_of q r in omega (arith, c)
      one r false = omega arith

      by : (d : Did) → load q (given lane class d) ≤ arena_in (is_taking q) d
      by (Give r) = one r (eqb r.owner lane && eqb r.class class)
      by d = omega arith
  load_given q (Ref r d) = omega arith
  load_given q (Busy b) = omega arith

  of_given : (es : List Entry) → OfCache lane class (listed (given lane class) es)
  unfolding listed
  of_given [] = tt
  of_given (e ∷ es) =
      of_both lane class (named (given lane class) e) (listed (given lane class) es) (one e) (of_given es)
    where
      sure : (r : RegionId) (b : Bool) → (eqb r.owner lane && eqb r.class class) ≡ b
          → OfCache lane class (cond b (r ∷ []) [])
      sure r true is = (
        (
          eqb-true r.owner lane (and-first (eqb r.owner lane) (eqb r.class class) is),
          eqb-true r.class class
              (and-second (eqb r.owner lane) (eqb r.class class) is),
        ),
        tt,
      )
      sure r false is = tt

      by : (d : Did) → OfCache lane class (given lane class d)
      by (Give r) = sure r (eqb r.owner lane && eqb r.class class) refl
      by d = tt

      one : (e : Entry) → OfCache lane class (named (given lane class) e)
      one (At o k n) = by n.did
      one (Ref r d) = tt
      one (Busy b) = tt

  many_taken : (e : Entry) → length (named (taken class) e) ≡ takes_of class e
  many_taken (At o k n) = by n.did
    where
      one : (r : RegionId) (b : Bool) → length (cond b (r ∷ []) []) ≡ cond {A = ℕ} b 1 0
      one r true = refl
      one r false = refl

      by : (d : Did) → length (taken class d) ≡ takes_of class (At o k (record n { did = d }))
      by (Take c r) = one r (eqb c class)
      by d = refl
  many_taken (Ref r d) = refl
  many_taken (Busy b) = refl

  load_taken : (s : Shape) (number : Option ℕ) (q : RegionId) → q.class ≡ class → (e : Entry) → Stands s number e
      → from_arena (is_taking q) e ≤ load q (named (taken class) e)
  load_taken s number q is (At o k n) st = by n.did st.in_place.of_class
    where
      one : (c : ℕ) (r : RegionId) → r.class ≡ c
          → ((is_taking q r ≡ 1) × (uses_in q r ≡ r.uses) × (same_taking q r ≡ true))
          ⊎ ((is_taking q r ≡ 0) × (uses_in q r ≡ 0)) → is_taking q r ≤ load q (cond (eqb c class) (r ∷ []) [])
      one c r rc (inl w) =
          let same : c ≡ class = sym rc ∙ (sym (same_taking-is q r w.2).class ∙ is) in
          subst (λ (b : Bool). is_taking q r ≤ load q (cond b (r ∷ []) [])) (sym (eq-eqb c class same))
          (let z = one_of q r in omega (arith, z))
      one c r rc (inr w) = let z = w.0 in omega (arith, z)

      by : (d : Did) → IsOfClass d → arena_out (is_taking q) d ≤ load q (taken class d)
      by (Take c r) of = one c r of (of_taking q r)
      by d of = omega arith
  load_taken s number q is (Ref r d) st = omega arith
  load_taken s number q is (Busy b) st = omega arith

module _ {H : Type 0} (stands : List ℕ → Setting → List Noted → H → Type 0) (l : Layout) where
  abbrev St : Type 0
  St = State (Option H) SeatView

  -- a taking of the lane stands in no other part
  elsewhere : (m : ℕ) (q : RegionId) → q.owner ≡ m → (number : Option ℕ) → is_lane m number ≡ false → (e : Entry)
      → Stands l.shape number e → from_arena (is_taking q) e ≡ 0
  elsewhere m q is number off (At o k n) st = by n.did st.lane_may (st.in_place.regioned q).arena
    where
      held : (c : ℕ) (r : RegionId) (number : Option ℕ) → is_lane m number ≡ false
          → MayNote l.shape number (Arena q.place.arena) (Take c r)
          → ((is_taking q r ≡ 1) × (uses_in q r ≡ r.uses) × (same_taking q r ≡ true))
          ⊎ ((is_taking q r ≡ 0) × (uses_in q r ≡ 0)) → is_taking q r ≡ 0
      held c r number off may (inr w) = w.0
      held c r None off may (inl w) = absurd (cc may)
      held c r (Some j) off may (inl w) =
          let own : eqb r.owner j ≡ true = and-second (eqb (j % l.shape.arenas) q.place.arena) (eqb r.owner j)
          (let t = true_of (eqb (j % l.shape.arenas) q.place.arena && eqb r.owner j) may in t) in
          let e : j ≡ m = sym (eqb-true r.owner j own) ∙ (sym (same_taking-is q r w.2).owner ∙ is) in
          absurd (cc (eq-eqb j m e, off))

      by : (d : Did) → MayNote l.shape number o d → (arena_out (is_taking q) d + arena_in (is_taking q) d ≡ 0)
          ⊎ (o ≡ Arena q.place.arena) → arena_out (is_taking q) d ≡ 0
      by (Take c r) may (inl z) = omega (arith, z)
      by (Take c r) may (inr e) =
          held c r number off (subst (λ (o : Object). MayNote l.shape number o (Take c r)) e may) (of_taking q r)
      by d may w = refl
  elsewhere m q is number off (Ref r d) st = refl
  elsewhere m q is number off (Busy b) st = refl

  abbrev Noting : SeatView → Type 0
  Noting v = All (λ (p : Part). All (Stands l.shape p.number) p.notes) (parts_of v)

  no_part : (m : ℕ) (q : RegionId) → q.owner ≡ m → (ps : List Part)
      → All (λ (p : Part). All (Stands l.shape p.number) p.notes) ps
      → count_by (λ (p : Part). is_lane m p.number) ps ≡ 0
      → sum_by (λ (p : Part). sum_by (from_arena (is_taking q)) p.notes) ps ≡ 0
  no_part m q is [] all z = refl
  no_part m q is (p ∷ ps) all z =
      let P : Part → Type 0 = λ (p : Part). All (Stands l.shape p.number) p.notes in
      let off = none_counted stands l (λ (p : Part). is_lane m p.number) (p ∷ ps) z in let here =
      All-head (λ (p : Part). is_lane m p.number ≡ false) p ps off in
      let a = sum_by-cons (λ (p : Part). sum_by (from_arena (is_taking q)) p.notes) p ps in
      let b = sum_none (from_arena (is_taking q)) p.notes
      (All-weaker (Stands l.shape p.number) (λ (e : Entry). from_arena (is_taking q) e ≡ 0)
      (elsewhere m q is p.number here) p.notes (All-head P p ps all)) in
      let k = sum_by-cons (λ (p : Part). cond {A = ℕ} (is_lane m p.number) 1 0) p ps in
      let c = no_part m q is ps (All-tail P p ps all) (omega (arith, k, z)) in omega (arith, a, b, c)

  -- so all takings of the lane stand in its own part
  own_takes : (s : St) (r : IsSound stands l s) (id m : ℕ) (v : SeatView) → get_elem? s.views id ≡ some v
      → v.own.number ≡ Some m → (q : RegionId) → q.owner ≡ m
      → sum_by (weigh (from_arena (is_taking q))) s.views ≡ in_own (from_arena (is_taking q)) v
  own_takes s r id m v at own q is =
      let f : Entry → ℕ = from_arena (is_taking q) in
      let t : ℕ = sum_by (numbered m) s.views in let most : t ≤ 1 = at_most_one l.shape.lanes m t (r.lanes m) in
      let one : cond {A = ℕ} (is_lane m v.own.number) 1 0
      ≡ 1 =
      subst (λ (x : Option ℕ). cond {A = ℕ} (is_lane m x) 1 0 ≡ 1) (sym own)
      (ap (λ (b : Bool). cond {A = ℕ} b 1 0) (eq-eqb m m refl)) in
      let mine = sum_by-cons (λ (p : Part). cond {A = ℕ} (is_lane m p.number) 1 0) v.own v.others in
      let le = sum_at (numbered m) s.views id v at in
      let n : ℕ = numbered m v in let rest : ℕ = count_by (λ (p : Part). is_lane m p.number) v.others in
      let mine' : n ≡ cond {A = ℕ} (is_lane m v.own.number) 1 0 + rest = mine in let le' : n ≤ t = le in
      let alone : rest ≡ 0 = omega (arith, mine', one, le', most) in
      let notes = each_view s.views id v r.views at in
      let others = no_part m q is v.others
      (All-tail (λ (p : Part). All (Stands l.shape p.number) p.notes) v.own v.others notes) alone in
      let w : weigh f v ≡ sum_by f v.own.notes + sum_by (λ (p : Part). sum_by f p.notes) v.others =
      sum_by-cons (λ (p : Part). sum_by f p.notes) v.own v.others in
      let here = only_here (weigh f) (numbered m) s.views id v
      (All-weaker (IsView l.shape r.setting) (λ (u : SeatView). numbered m u ≡ 0 → weigh f u ≡ 0)
      (λ u fine z. no_part m q is (parts_of u) fine.notes z) s.views r.views) at (omega (arith, mine', one))
      most in
      omega (arith, here, w, others)
    where
      at_most_one : (n m t : ℕ) → OnceBelow n m t → t ≤ 1
      at_most_one n m t o =
          dite (dec_le n m) (λ le. let e = o.1 le in omega (arith, e))
          (λ gt. let e = o.0 (lt_of_not-le gt) in omega (arith, e))

      each_view : (vs : List SeatView) (id : ℕ) (v : SeatView) → All (IsView l.shape r.setting) vs
          → get_elem? vs id ≡ some v → Noting v
      each_view vs id v all at = (each_at (IsView l.shape r.setting) vs id v all at).notes

  own_at_most : (f : Entry → ℕ) (s : St) (id : ℕ) (v : SeatView) → get_elem? s.views id ≡ some v
      → in_own f v ≤ sum_by (weigh f) s.views
  own_at_most f s id v at =
      let a = sum_at (weigh f) s.views id v at in let w = sum_by-cons (λ (p : Part). sum_by f p.notes) v.own v.others in
      let x : ℕ = weigh f v in let w' : x ≡ sum_by f v.own.notes + sum_by (λ (p : Part). sum_by f p.notes) v.others =
      w in
      omega (arith, a, w')

  cache_each : (s : St) (r : IsSound stands l s) (id m class : ℕ) (v : SeatView)
      (fits : IsObjectOf l.shape (Cache m class)) (x : CacheState) → get_elem? s.views id ≡ some v
      → v.own.number ≡ Some m → IsCacheAfter m class (r.objects (Cache m class) fits).history x → (q : RegionId)
      → q.owner ≡ m → load q x.regions + in_own (to_arena (is_taking q)) v ≤ in_own (from_arena (is_taking q)) v
  cache_each s r id m class v fits x at own after q is =
      let side = some_side stands l s r q in let sp = some_spread stands l s r in let f =
      (sums stands l s r q side.0 sp.0 sp.1 side.1 sp.2).held in
      let pay = all_pay (weight_put_down (is_taking q)) (weight_taken (is_taking q)) (uses_gone q) (uses_come q) s.views
      (all_held stands l s r q) in
      let f0 = fits.0 in let f1 = fits.1 in let i : ℕ = m * 40 + class in let inside : i < l.shape.lanes * 40 =
      omega (arith, f0, f1) in
      let a = cache_has stands l s r m class fits x after (is_taking q) in let b = sp.2.cached i inside (is_taking q) in
      let le = sum_to_at (l.shape.lanes * 40) (λ i. sum_by (is_taking q) (sp.0 i).regions) i inside in
      let e = side.1.balance in let g = own_at_most (to_arena (is_taking q)) s id v at in let t =
      own_takes s r id m v at own q is in
      omega (arith, f, pay, a, b, le, e, g, t)

  cache_bound : (s : St) (r : IsSound stands l s) (id m class : ℕ) (v : SeatView)
      (fits : IsObjectOf l.shape (Cache m class)) (x : CacheState) → get_elem? s.views id ≡ some v
      → IsCacheAfter m class (r.objects (Cache m class) fits).history x
      → ((q : RegionId) → q.owner ≡ m → load q x.regions + in_own (to_arena (is_taking q)) v ≤ in_own
      (from_arena (is_taking q)) v) → length x.regions + in_own (gives_of m class) v ≤ in_own (takes_of class) v
  cache_bound s r id m class v fits x at after each =
      let es : List Entry = v.own.notes in let gs : List RegionId = listed (given m class) es in
      let ts : List RegionId = listed (taken class) es in
      let own = All-head (λ (p : Part). All (Stands l.shape p.number) p.notes) v.own v.others
      (each_at (IsView l.shape r.setting) s.views id v r.views at).notes in
      let n = no_longer m class (x.regions ++ gs) ts
      (of_both m class x.regions gs (cache_own l.shape m class (r.objects (Cache m class) fits).history x
      (r.objects (Cache m class) fits).accepted after) (of_given m class es)) (λ q is.
      let a = sum_by-append (is_taking q) x.regions gs in let b = load_listed (given m class) q es in let c =
      load_listed (taken class) q es in let d = each q is.0 in
      let e = sum_by-le-sum_by (λ (e : Entry). load q (named (given m class) e)) (to_arena (is_taking q)) es
      (load_given m class q) in
      let f = sum_le (from_arena (is_taking q)) (λ (e : Entry). load q (named (taken class) e)) es
      (All-weaker (Stands l.shape v.own.number)
      (λ (e : Entry). from_arena (is_taking q) e ≤ load q (named (taken class) e))
      (load_taken m class l.shape v.own.number q is.1) es own) in
      omega (arith, a, b, c, d, e, f)) in
      let a = length-append x.regions gs in let b = many_listed (given m class) es in let c =
      many_listed (taken class) es in
      let d = sum_same (λ (e : Entry). length (named (given m class) e)) (gives_of m class) es (many_given m class) in
      let e = sum_same (λ (e : Entry). length (named (taken class) e)) (takes_of class) es (many_taken m class) in
      omega (arith, n, a, b, c, d, e)
    where
      sum_le : (f g : Entry → ℕ) (es : List Entry) → All (λ (e : Entry). f e ≤ g e) es → sum_by f es ≤ sum_by g es
      sum_le f g [] all = omega arith
      sum_le f g (e ∷ es) all =
          let a = sum_by-cons f e es in let b = sum_by-cons g e es in let c =
          All-head (λ (e : Entry). f e ≤ g e) e es all in let d =
          sum_le f g es (All-tail (λ (e : Entry). f e ≤ g e) e es all) in
          omega (arith, a, b, c, d)

      sum_same : (f g : Entry → ℕ) (es : List Entry) → ((e : Entry) → f e ≡ g e) → sum_by f es ≡ sum_by g es
      sum_same f g [] same = refl
      sum_same f g (e ∷ es) same =
          let a = sum_by-cons f e es in let b = sum_by-cons g e es in let c = same e in let d = sum_same f g es same in
          omega (arith, a, b, c, d)

  -- the claim of a cache of the seat's own lane
  pub cache_tells : (s : St) (r : IsSound stands l s) (id : ℕ) (v : SeatView) (o : Object) (fits : IsObjectOf l.shape o)
      → get_elem? s.views id ≡ some v → (m class : ℕ) (x : CacheState) → o ≡ Cache m class → v.own.number ≡ Some m
      → IsCacheAfter m class (r.objects o fits).history x → TellsCache m class v x
  cache_tells s r id v o fits at m class x e own after =
      subst (λ (o : Object). (fits : IsObjectOf l.shape o) → IsCacheAfter m class (r.objects o fits).history x
      → TellsCache m class v x) (sym e)
      (λ fits after.
      let each = cache_each s r id m class v fits x at own after in record {
        each = each;
        once =
            λ a t. let f =
            own_at_most (from_arena (has_number a t)) s id v at in let g =
            number_once stands l s r a t in omega (arith, f, g);
        bound = cache_bound s r id m class v fits x at after each;
      }) fits after
