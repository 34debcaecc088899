-- A root place is in its bin, in one view's hands, or has a root; and a view with a place in hand or with an
-- end token is alone there.
use Rattle.step_law.specs.Settings.{Setting}
use Rattle.std.proofs.Common.{◌≡◌, ◌≢◌, ◌⊎◌, ℕ, zero, suc, ◌+◌, ◌*◌, ◌<◌, ◌≤◌, List, [], ◌∷◌, eqb, sym, refl, ap, ◌∙◌, subst, inl, inr, arith}
use Rattle.std.specs.Prelude.{Option, All, sum_by, count_by}
use Rattle.std.proofs.lemmas.List.Elements.{All-head, All-tail, All-weaker}
use Rattle.std.proofs.lemmas.List.Sums.{sum_by-cons}
use mathlib.Core.Logic.{dite}
use native.Mathlib.Decide.{ℕ_discrete}
use mathlib.Core.Option.{some, some-injective, some-ne-none}
use lib.ListN.{get_elem?}
use Rattle.atomic_table.specs.Table.{State}
use Rattle.step_law.proofs.Changes.{each_at}
use Rattle.pool_law.specs.declared.note.Noted.{Noted}
use Rattle.pool_law.specs.declared.note.Object.{Object}
use Rattle.pool_law.specs.declared.note.Object.TheVariants.{Bin, Root}
use Rattle.pool_law.specs.Homes.{IsObjectOf}
use Rattle.history_laws.specs.Histories.{IsBinAfter}
use Rattle.history_laws.specs.NoteCounts.{place_lane, did_handle, did_home}
use Rattle.history_laws.proofs.Bins.{in_bin, foreign}
use Rattle.pool_table.specs.declared.views.Layout.{Layout}
use Rattle.pool_table.specs.declared.views.Part.{Part}
use Rattle.pool_table.specs.declared.views.SeatView.{SeatView}
use Rattle.pool_table.specs.Views.{parts_of}
use Rattle.pool_table.specs.Counts.{ref_born, ref_ended, ref_vacated, on_place, on_root, place_tally, tally, weigh}
use Rattle.pool_table.specs.Hands.{at_in, at_out, taken, put_down, InHand, MayEnter}
use Rattle.pool_table.specs.Sound.{IsSound, IsView, Stands, WasHeld}
use Rattle.pool_table.specs.Holders.{HoldsPlace}
use Rattle.pool_table.proofs.AtPlace.{CountsAt, TokenAt}
use Rattle.pool_table.proofs.Exact.{count_at, token_at}
use Rattle.pool_table.proofs.Ledgers.{sum_add}
use Rattle.pool_table.proofs.Weights.{strict_sum}
use Rattle.pool_table.proofs.WordChanges.{live_word}
use Rattle.pool_table.proofs.CountSteps.{token_word}
use Rattle.pool_table.proofs.Hands.{in_object_views, hand_word, taken_once}

-- where two elements lose less than they gain
pub strict_two : {A : Type 0} (a b c d : A → ℕ) (l : List A) (i j : ℕ) (v w : A) → i ≢ j
    → All (λ (x : A). a x + b x ≤ c x + d x) l → get_elem? l i ≡ some v → get_elem? l j ≡ some w → a v + b v < c v + d v
    → a w + b w < c w + d w
    → sum_by a l + sum_by b l + 2 ≤ sum_by c l + sum_by d l
strict_two a b c d [] i j v w ne all e f x y = absurd (some-ne-none v (sym e))
strict_two a b c d (h ∷ t) zero zero v w ne all e f x y = absurd (ne refl)
strict_two {A} a b c d (h ∷ t) zero (suc j) v w ne all e f x y =
    let P : A → Type 0 = λ (x : A). a x + b x ≤ c x + d x in
    let k : a h + b h < c h + d h = subst (λ (y : A). a y + b y < c y + d y) (sym (some-injective h v e)) x in let m =
    strict_sum a b c d t j w (All-tail P h t all) f y in
    let p = sum_by-cons a h t in let q = sum_by-cons b h t in let r = sum_by-cons c h t in let s = sum_by-cons d h t in
    omega (arith, k, m, p, q, r, s)
strict_two {A} a b c d (h ∷ t) (suc i) zero v w ne all e f x y =
    let P : A → Type 0 = λ (x : A). a x + b x ≤ c x + d x in
    let k : a h + b h < c h + d h = subst (λ (y : A). a y + b y < c y + d y) (sym (some-injective h w f)) y in let m =
    strict_sum a b c d t i v (All-tail P h t all) e x in
    let p = sum_by-cons a h t in let q = sum_by-cons b h t in let r = sum_by-cons c h t in let s = sum_by-cons d h t in
    omega (arith, k, m, p, q, r, s)
strict_two {A} a b c d (h ∷ t) (suc i) (suc j) v w ne all e f x y =
    let P : A → Type 0 = λ (x : A). a x + b x ≤ c x + d x in
    let k = All-head P h t all in let m = strict_two a b c d t i j v w (λ q. ne (ap suc q)) (All-tail P h t all) e f x
    y in
    let p = sum_by-cons a h t in let q = sum_by-cons b h t in let r = sum_by-cons c h t in let s = sum_by-cons d h t in
    omega (arith, k, m, p, q, r, s)

module _ {H : Type 0} (stands : List ℕ → Setting → List Noted → H → Type 0) (l : Layout) where
  abbrev St : Type 0
  St = State (Option H) SeatView

  some_handle : (p : ℕ) → p < l.shape.lanes * l.shape.handles → 0 < l.shape.handles
  some_handle p lt =
      let h : ℕ = l.shape.handles in
      dite (ℕ_discrete h 0) (λ z. let e : l.shape.lanes * h
      ≡ l.shape.lanes * 0 =
      ap (λ (n : ℕ). l.shape.lanes * n) z in let a : ℕ = l.shape.lanes * h in let lt' : p < a = lt in let e' : a
      ≡ 0 = e ∙ (omega arith) in absurd (omega (arith, lt', e'))) (λ ne. omega (arith, ne))

  -- the place is in its bin or in hand, once, exactly where it is vacant
  pub in_one_place : (s : St) (r : IsSound stands l s) (p : ℕ) (lt : p < l.shape.lanes * l.shape.handles)
      (fits : place_lane l.shape p < l.shape.lanes) (m : List ℕ)
      → IsBinAfter l.shape (place_lane l.shape p) (r.objects (Bin (place_lane l.shape p)) fits).history m
      → count_by (λ (x : ℕ). eqb x p) m + sum_by (taken p) s.views
      ≡ sum_by (put_down p) s.views + (r.counts p lt).vacant
  in_one_place s r p lt fits m after =
      let o = r.objects (Bin (place_lane l.shape p)) fits in let k = r.counts p lt in
      let notes = All-weaker (IsView l.shape r.setting)
      (λ (v : SeatView). All (λ (q : Part). All (Stands l.shape q.number) q.notes) (parts_of v))
      (λ v fine. fine.notes) s.views r.views in
      let a = in_object_views l.shape p (did_handle p) (λ d. omega arith) s.views notes in let b =
      in_object_views l.shape p (did_home p) (λ d. omega arith) s.views notes in
      let c = o.weights (λ (n : Noted). did_handle p n.did) in let d = o.weights (λ (n : Noted). did_home p n.did) in
      let e = in_bin l.shape (place_lane l.shape p) p o.history m o.accepted after (some_handle p lt) refl in
      let f = k.all_born in let g = k.all_vacated in
      let t = sum_add (weigh (at_in p)) (weigh (on_place ref_vacated p)) s.views in let u =
      sum_add (weigh (at_out p)) (weigh (on_place ref_born p)) s.views in
      let x : ℕ = count_by (λ (x : ℕ). eqb x p) m in let ti : ℕ = sum_by (taken p) s.views in let pu : ℕ =
      sum_by (put_down p) s.views in
      let hi : ℕ = sum_by (weigh (at_in p)) s.views in let ou : ℕ = sum_by (weigh (at_out p)) s.views in let bo : ℕ =
      place_tally ref_born p s.views in let va : ℕ = place_tally ref_vacated p s.views in
      let hh : ℕ = sum_by (λ (n : Noted). did_handle p n.did) o.history in let ho : ℕ =
      sum_by (λ (n : Noted). did_home p n.did) o.history in
      let hi' : hi ≡ hh = sym a ∙ c in let ou' : ou ≡ ho = sym b
      ∙ d in let e' : x + hh ≡ 1 + ho = e in let f' : bo ≡ k.generation = f in let g' : va + 1
      ≡ k.generation + k.vacant = g in
      let t' : ti ≡ hi + va = t in let u' : pu ≡ ou + bo = u in omega (arith, hi', ou', e', f', g', t', u')

  own_bin : (s : St) (r : IsSound stands l s) (id p : ℕ) (v : SeatView) (lt : p < l.shape.lanes * l.shape.handles)
      → get_elem? s.views id ≡ some v → InHand p v → (b : ℕ) → place_lane l.shape p ≡ b
      → (fits : b < l.shape.lanes) (m : List ℕ) → IsBinAfter l.shape b (r.objects (Bin b) fits).history m
      → count_by (λ (x : ℕ). eqb x p) m ≡ 0
  own_bin s r id p v lt at has b e =
      subst (λ (b : ℕ). (fits : b < l.shape.lanes) (m : List ℕ)
      → IsBinAfter l.shape b (r.objects (Bin b) fits).history m → count_by (λ (x : ℕ). eqb x p) m ≡ 0) e
      (λ fits m after.
      let one = in_one_place s r p lt fits m after in let free = (r.counts p lt).free in
      let all = All-weaker (IsView l.shape r.setting) (λ (x : SeatView). put_down p x + 0 ≤ taken p x + 0)
      (λ x fine. let q = fine.handy p in omega (arith, q)) s.views r.views in
      let less = strict_sum (put_down p) (λ (x : SeatView). 0) (taken p) (λ (x : SeatView). 0) s.views id v all at
      (let h : put_down p v < taken p v = has in omega (arith, h)) in
      omega (arith, one, free, less))

  -- no place in hand is in a bin
  pub hand_bin : (s : St) (r : IsSound stands l s) (id : ℕ) (v : SeatView) (o : Object) (fits : IsObjectOf l.shape o)
      → get_elem? s.views id ≡ some v → (b p : ℕ) (m : List ℕ) → o ≡ Bin b
      → IsBinAfter l.shape b (r.objects o fits).history m → p < l.shape.lanes * l.shape.handles → InHand p v
      → count_by (λ (x : ℕ). eqb x p) m ≡ 0
  hand_bin s r id v o fits at b p m e after lt has =
      subst (λ (o : Object). (fits : IsObjectOf l.shape o) → IsBinAfter l.shape b (r.objects o fits).history m
      → count_by (λ (x : ℕ). eqb x p) m ≡ 0) (sym e)
      (λ fits after. dite (ℕ_discrete (place_lane l.shape p) b)
      (λ same. own_bin s r id p v lt at has b same fits m after)
      (λ ne. foreign l.shape b p (r.objects (Bin b) fits).history m (r.objects (Bin b) fits).accepted after
      (some_handle p lt) ne)) fits after

  -- two views have hands or tokens of one place, or a count: not both with a hand or a token
  never_two : (s : St) (r : IsSound stands l s) (i j p : ℕ) (v u : SeatView) (lt : p < l.shape.lanes * l.shape.handles)
      → i ≢ j → get_elem? s.views i ≡ some v → get_elem? s.views j ≡ some u → InHand p v ⊎ ((g : ℕ) × TokenAt p g v)
      → ((g : ℕ) × (CountsAt p g u ⊎ TokenAt p g u)) ⊎ InHand p u → ⊥
  never_two s r i j p v u lt ne at bt (inl hand) (inl (g, inl has)) =
      let a = hand_word stands l s r i p v lt at hand in let b = live_word stands l s r j p g u lt bt has in let c =
      (r.counts p lt).live b.1 in
      omega (arith, a, c)
  never_two s r i j p v u lt ne at bt (inl hand) (inl (g, inr tok)) =
      let a = hand_word stands l s r i p v lt at hand in let b = token_word stands l s r j p g u lt bt tok in let c =
      b.3 in
      omega (arith, a, c)
  never_two s r i j p v u lt ne at bt (inl hand) (inr other) =
      let all = All-weaker (IsView l.shape r.setting) (λ (x : SeatView). put_down p x ≤ taken p x)
      (λ x fine. fine.handy p) s.views r.views in
      let two = strict_two (weigh (at_out p)) (weigh (on_place ref_born p)) (weigh (at_in p))
      (weigh (on_place ref_vacated p)) s.views i j v u ne all at bt hand other in
      let k = r.counts p lt in let st = taken_once stands l s r p lt in let b = k.all_born in let c = k.all_vacated in
      let f = k.free in
      let mo : ℕ = sum_by (weigh (at_out p)) s.views in let bo : ℕ = place_tally ref_born p s.views in let hi : ℕ =
      sum_by (weigh (at_in p)) s.views in let va : ℕ = place_tally ref_vacated p s.views in
      let two' : mo + bo + 2 ≤ hi + va = two in let st' : hi ≤ 1 + mo = st in let b' : bo
      ≡ k.generation = b in let c' : va + 1 ≡ k.generation + k.vacant = c in
      omega (arith, two', st', b', c', f)
  never_two s r i j p v u lt ne at bt (inr (g, tok)) (inl (g', inl has)) =
      let a = (token_word stands l s r i p g v lt at tok).2 in let b = (live_word stands l s r j p g' u lt bt has).1 in
      omega (arith, a, b)
  never_two s r i j p v u lt ne at bt (inr (g, tok)) (inl (g', inr tok')) =
      let a = token_word stands l s r i p g v lt at tok in let b = token_word stands l s r j p g' u lt bt tok' in
      let same : g' ≡ g = b.0 ∙ sym a.0 in
      let tok2 : TokenAt p g u = subst (λ (y : ℕ). TokenAt p y u) same tok' in
      let all = All-weaker (IsView l.shape r.setting)
      (λ (x : SeatView). weigh (on_root ref_vacated p g) x + 0 ≤ weigh (on_root ref_ended p g) x + 0)
      (λ x fine. let q = fine.settled p g in omega (arith, q)) s.views r.views in
      let two = strict_two (weigh (on_root ref_vacated p g)) (λ (x : SeatView). 0) (weigh (on_root ref_ended p g))
      (λ (x : SeatView). 0) s.views i j v u ne all at bt (omega (arith, tok)) (omega (arith, tok2)) in
      let k = r.counts p lt in let once : tally ref_ended p g s.views
      ≡ 1 = ap (λ (y : ℕ). tally ref_ended p y s.views) a.0 ∙ (k.ended a.1).0 a.2 in
      let x : ℕ = tally ref_ended p g s.views in let y : ℕ = tally ref_vacated p g s.views in let z : ℕ =
      sum_by (λ (x : SeatView). 0) s.views in let two' : y + z + 2 ≤ x + z = two in let once' : x ≡ 1 = once in
      omega (arith, two', once')
  never_two s r i j p v u lt ne at bt (inr (g, tok)) (inr hand) =
      let a = (token_word stands l s r i p g v lt at tok).3 in let b = hand_word stands l s r j p u lt bt hand in
      omega (arith, a, b)

  pub never_both : (s : St) (r : IsSound stands l s) (i j p : ℕ) (v u : SeatView)
      (lt : p < l.shape.lanes * l.shape.handles) → i ≢ j → get_elem? s.views i ≡ some v → get_elem? s.views j ≡ some u
      → HoldsPlace p v → MayEnter p u → ⊥
  never_both s r i j p v u lt ne at bt mine other = never_two s r i j p v u lt ne at bt (holds mine) (enters other)
    where
      holds : HoldsPlace p v → InHand p v ⊎ ((g : ℕ) × TokenAt p g v)
      holds (inl hand) = inl hand
      holds (inr (q, here, tok)) =
          inr (q.generation, subst (λ (n : ℕ). TokenAt n q.generation v) here (token_at stands l s r i v at q tok))

      enters : MayEnter p u → ((g : ℕ) × (CountsAt p g u ⊎ TokenAt p g u)) ⊎ InHand p u
      enters (inl (q, here, inl has)) =
          inl (
            q.generation,
            inl (subst (λ (n : ℕ). CountsAt n q.generation u) here
                (count_at stands l s r j u bt q has)),
          )
      enters (inl (q, here, inr tok)) =
          inl (
            q.generation,
            inr (subst (λ (n : ℕ). TokenAt n q.generation u) here
                (token_at stands l s r j u bt q tok)),
          )
      enters (inr hand) = inr hand

  -- a claim of a root place is never Held for a seat with the place in hand or with an end token of it
  pub never_held : (p n : ℕ) (v : SeatView) → p < l.shape.lanes * l.shape.handles → WasHeld stands l (Root p) n v
      → HoldsPlace p v → ⊥
  never_held p n v lt w mine =
      never_both w.moment w.sound w.seat w.other p v w.holder lt (λ e. w.apart (sym e)) w.view w.holds mine
      ((each_at (IsView l.shape w.sound.setting) w.moment.views w.other w.holder w.sound.views w.holds).enters w.section
      p w.inside w.object)
