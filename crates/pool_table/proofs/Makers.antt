-- Each note of an object's history is one that its lane may make there.
use Rattle.step_law.specs.Settings.{Setting}
use Rattle.std.proofs.Common.{◌≡◌, ℕ, zero, suc, ◌+◌, ◌-◌, List, [], ◌∷◌, map, length, Bool, true, false, cond, sym, refl, ap, ◌∙◌, subst, arith}
use Rattle.std.specs.Prelude.{Option, Some, None, All, sum_by, filter, IsTrue}
use Rattle.std.proofs.lemmas.Bool.{eqb-true}
use Rattle.std.proofs.lemmas.List.Elements.{All-head, All-tail}
use Rattle.std.proofs.lemmas.List.Sums.{sum_by-cons}
use Rattle.atomic_table.specs.Table.{State}
use Rattle.pool_law.specs.declared.run.Shape.{Shape}
use Rattle.pool_law.specs.declared.note.Did.{Did}
use Rattle.pool_law.specs.declared.note.Noted.{Noted}
use Rattle.pool_law.specs.declared.note.Object.{Object}
use Rattle.pool_law.specs.Homes.{home_of, IsObjectOf}
use Rattle.pool_law.specs.Logs.{may_stand}
use Rattle.pool_law.specs.NotedHistories.{MayNote, needs_lane}
use Rattle.pool_table.proofs.Known.{one_known}
use Rattle.pool_table.specs.declared.views.Entry.{Entry}
use Rattle.pool_table.specs.declared.views.Entry.TheVariants.{At, Ref, Busy}
use Rattle.pool_table.specs.declared.views.Layout.{Layout}
use Rattle.pool_table.specs.declared.views.Part.{Part}
use Rattle.pool_table.specs.declared.views.SeatView.{SeatView}
use Rattle.pool_table.specs.Views.{ObjectView, parts_of, is_about, object_view, object_part, is_in, inside_total, noted_weight, noted_in, noted_total}
use Rattle.pool_table.specs.Sound.{IsSound, IsView, IsTold, Stands, Tells}

-- 1 for a note that its lane may not make at the object, 0 for another
fault_by : Shape → Object → Option ℕ → Did → ℕ
fault_by s o (Some lane) d = cond (may_stand s lane o d) 0 1
fault_by s o None d = cond (needs_lane d) 1 0

abbrev fault : Shape → Object → Noted → ℕ
fault s o n = fault_by s o n.lane n.did

no_fault : (s : Shape) (o : Object) (lane : Option ℕ) (d : Did) → MayNote s lane o d → fault_by s o lane d ≡ 0
unfolding fault_by
no_fault s o (Some lane) d may = ap (λ (b : Bool). cond {A = ℕ} b 0 1) may
no_fault s o None d may = ap (λ (b : Bool). cond {A = ℕ} b 1 0) may

may_so : (s : Shape) (o : Object) (lane : Option ℕ) (d : Did) → fault_by s o lane d ≡ 0 → MayNote s lane o d
unfolding fault_by
may_so s o (Some lane) d none = sure (may_stand s lane o d) none
  where
    sure : (b : Bool) → cond {A = ℕ} b 0 1 ≡ 0 → IsTrue b
    sure true e = refl
    sure false e = absurd (omega (arith, e))
may_so s o None d none = sure (needs_lane d) none
  where
    sure : (b : Bool) → cond {A = ℕ} b 1 0 ≡ 0 → b ≡ false
    sure true e = absurd (omega (arith, e))
    sure false e = refl

-- where no element weighs anything in all, each weighs nothing
none_each : (f : Noted → ℕ) (P : Noted → Type 0) → ((n : Noted) → f n ≡ 0 → P n) → (h : List Noted) → sum_by f h ≡ 0
    → All P h
none_each f P so [] z k d lt = absurd (omega (arith, lt))
none_each f P so (n ∷ ns) z zero d lt = let a = sum_by-cons f n ns in so n (omega (arith, a, z))
none_each f P so (n ∷ ns) z (suc k) d lt =
    let a = sum_by-cons f n ns in none_each f P so ns (omega (arith, a, z)) k d (omega (arith, lt))

module _ (s : Shape) (o : Object) (fits : IsObjectOf s o) (h : List Noted) where
  abbrev w : Entry → ℕ
  w = noted_weight (fault s o)

  right : (limit : ℕ) (lane : Option ℕ) (e : Entry) → is_about s (home_of s o) e ≡ true → Stands s lane e
      → Tells o h limit lane e → w e ≡ 0
  right limit lane (At p k n) on st t =
      let same : p ≡ o = one_known s p o st.object fits (eqb-true (home_of s p) (home_of s o) on) in
      no_fault s o n.lane n.did (subst (λ (x : Option ℕ × Object). MayNote s x.0 x.1 n.did) (λ i. (sym t.2 i, same i))
      st.lane_may)
  right limit lane (Ref r d) on st t = refl
  right limit lane (Busy b) on st t = refl

  in_object_part : (limit : ℕ) (lane : Option ℕ) (es : List Entry) → All (Stands s lane) es
      → All (Tells o h limit lane) (filter (is_about s (home_of s o)) es)
      → sum_by w (filter (is_about s (home_of s o)) es) ≡ 0
  in_object_part limit lane [] st t = refl
  in_object_part limit lane (e ∷ es) st t =
      one (is_about s (home_of s o) e) refl t (in_object_part limit lane es (All-tail (Stands s lane) e es st))
    where
      one : (b : Bool) → is_about s (home_of s o) e ≡ b
          → All (Tells o h limit lane) (cond b (e ∷ filter (is_about s (home_of s o)) es)
          (filter (is_about s (home_of s o)) es))
          → (All (Tells o h limit lane) (filter (is_about s (home_of s o)) es)
          → sum_by w (filter (is_about s (home_of s o)) es) ≡ 0)
          → sum_by w (cond b (e ∷ filter (is_about s (home_of s o)) es) (filter (is_about s (home_of s o)) es)) ≡ 0
      one true on t rest =
          let es' : List Entry = filter (is_about s (home_of s o)) es in
          let a = sum_by-cons w e es' in let here =
          right limit lane e on (All-head (Stands s lane) e es st) (All-head (Tells o h limit lane) e es' t) in
          let more = rest (All-tail (Tells o h limit lane) e es' t) in omega (arith, a, here, more)
      one false off t rest = rest t

  abbrev weighs : Part → ℕ
  weighs p = sum_by w p.notes

  in_parts : (limit : ℕ) (ps : List Part) → All (λ (p : Part). All (Stands s p.number) p.notes) ps
      → All (IsTold o h limit) (map (object_part s (home_of s o)) ps)
      → sum_by weighs (map (object_part s (home_of s o)) ps) ≡ 0
  in_parts limit [] st t = refl
  in_parts limit (p ∷ ps) st t =
      let P : Part → Type 0 = λ (p : Part). All (Stands s p.number) p.notes in
      let q : Part = object_part s (home_of s o) p in let qs : List Part = map (object_part s (home_of s o)) ps in
      let a = sum_by-cons weighs q qs in let here =
      in_object_part limit p.number p.notes (All-head P p ps st) (All-head (IsTold o h limit) q qs t).told in
      let more = in_parts limit ps (All-tail P p ps st) (All-tail (IsTold o h limit) q qs t) in
      omega (arith, a, here, more)

  in_object_views : (limit : ObjectView → ℕ) (setting : Setting) (vs : List SeatView) → All (IsView s setting) vs
      → All (λ (f : ObjectView). All (IsTold o h (limit f)) f.parts) (map (object_view s (home_of s o)) vs)
      → noted_total (fault s o) (map (object_view s (home_of s o)) vs) ≡ 0
  in_object_views limit setting [] fine t = refl
  in_object_views limit setting (v ∷ vs) fine t =
      let Q : ObjectView → Type 0 = λ (f : ObjectView). All (IsTold o h (limit f)) f.parts in
      let f : ObjectView = object_view s (home_of s o) v in let fs : List ObjectView =
      map (object_view s (home_of s o)) vs in
      let a = sum_by-cons (noted_in (fault s o)) f fs in let here =
      in_parts (limit f) (parts_of v) (All-head (IsView s setting) v vs fine).notes (All-head Q f fs t) in
      let more = in_object_views limit setting vs (All-tail (IsView s setting) v vs fine) (All-tail Q f fs t) in
      omega (arith, a, here, more)

module _ {H : Type 0} (stands : List ℕ → Setting → List Noted → H → Type 0) (l : Layout) where
  pub each_may : (s : State (Option H) SeatView) (r : IsSound stands l s) (o : Object) (fits : IsObjectOf l.shape o)
      → All (λ (n : Noted). MayNote l.shape n.lane o n.did) (r.objects o fits).history
  each_may s r o fits =
      let k = r.objects o fits in
      let object_views : List ObjectView = map (object_view l.shape (home_of l.shape o)) s.views in
      let none = in_object_views l.shape o fits k.history
      (λ (f : ObjectView). length k.history + (inside_total object_views - is_in f))
      r.setting s.views r.views k.told in
      let total = k.weights (fault l.shape o) in
      none_each (fault l.shape o) (λ (n : Noted). MayNote l.shape n.lane o n.did) (λ n. may_so l.shape o n.lane n.did)
      k.history (sym total ∙ none)
