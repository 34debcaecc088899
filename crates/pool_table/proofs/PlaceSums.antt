-- Births and ends at a place, over all views.
use Rattle.step_law.specs.Settings.{Setting}
use Rattle.std.proofs.Common.{◌≡◌, ℕ, ◌+◌, ◌*◌, ◌<◌, ◌≤◌, List, arith}
use Rattle.std.specs.Prelude.{Option, All, sum_by}
use Rattle.std.proofs.lemmas.List.Elements.{All-weaker}
use mathlib.Core.Option.{some}
use lib.ListN.{get_elem?}
use Rattle.atomic_table.specs.Table.{State}
use Rattle.pool_law.specs.declared.note.Noted.{Noted}
use Rattle.pool_law.specs.declared.note.Object.TheVariants.{Root}
use Rattle.history_laws.specs.NoteCounts.{did_birth, did_end}
use Rattle.pool_table.specs.declared.views.Layout.{Layout}
use Rattle.pool_table.specs.declared.views.SeatView.{SeatView}
use Rattle.pool_table.specs.Counts.{ref_born, ref_ended, ref_vacated, on_place, on_root, place_tally, tally, weigh}
use Rattle.pool_table.specs.Hands.{at_in, at_out, at_birth, at_end, InHand, NoneWaits}
use Rattle.pool_table.specs.Sound.{IsSound, IsView}
use Rattle.pool_table.proofs.Exact.{root_notes}
use Rattle.pool_table.proofs.Weights.{weak_sum, strict_sum, weak_six, strict_six}
use Rattle.pool_table.proofs.Hands.{taken_once}

module _ {H : Type 0} (stands : List ℕ → Setting → List Noted → H → Type 0) (l : Layout) where
  abbrev St : Type 0
  St = State (Option H) SeatView

  pub births_in : (s : St) (r : IsSound stands l s) (p : ℕ) (lt : p < l.shape.lanes * l.shape.handles)
      → sum_by (weigh (at_birth p)) s.views ≡ sum_by (λ (n : Noted). did_birth p n.did) (r.objects (Root p) lt).history
  births_in s r p lt = root_notes stands l s r p lt (did_birth p) (λ d z y. z)

  pub ends_in : (s : St) (r : IsSound stands l s) (p g : ℕ) (lt : p < l.shape.lanes * l.shape.handles)
      → sum_by (weigh (at_end p g)) s.views ≡ sum_by (λ (n : Noted). did_end p g n.did) (r.objects (Root p) lt).history
  ends_in s r p g lt = root_notes stands l s r p lt (did_end p g) (λ d z y. y g)

  -- births noted are those made, and at most one more, at a vacant place
  pub no_fewer : (s : St) (r : IsSound stands l s) (p : ℕ) (lt : p < l.shape.lanes * l.shape.handles)
      → (r.counts p lt).generation ≤ sum_by (weigh (at_birth p)) s.views
  no_fewer s r p lt =
      let all = All-weaker (IsView l.shape r.setting)
      (λ (v : SeatView). weigh (on_place ref_born p) v + weigh (on_place ref_born p) v ≤ weigh (at_birth p) v
      + weigh (at_birth p) v) (λ v fine. let q = fine.roots.borne p in omega (arith, q)) s.views r.views in
      let a = weak_sum (weigh (on_place ref_born p)) (weigh (on_place ref_born p)) (weigh (at_birth p))
      (weigh (at_birth p)) s.views all in let b = (r.counts p lt).all_born in
      let x : ℕ = place_tally ref_born p s.views in let y : ℕ = sum_by (weigh (at_birth p)) s.views in
      let a' : x + x ≤ y + y = a in let b' : x ≡ (r.counts p lt).generation = b in
      omega (arith, a', b')

  all_bear : (s : St) (r : IsSound stands l s) (p : ℕ)
      → All (λ (v : SeatView). weigh (at_birth p) v + (weigh (at_out p) v + weigh (on_place ref_born p) v) ≤ weigh
      (on_place ref_born p) v + (weigh (at_in p) v + weigh (on_place ref_vacated p) v)) s.views
  all_bear s r p =
      All-weaker (IsView l.shape r.setting)
      (λ (v : SeatView). weigh (at_birth p) v + (weigh (at_out p) v + weigh (on_place ref_born p) v) ≤ weigh
      (on_place ref_born p) v + (weigh (at_in p) v + weigh (on_place ref_vacated p) v))
      (λ v fine. let q = fine.roots.bears p in omega (arith, q)) s.views r.views

  pub no_more : (s : St) (r : IsSound stands l s) (p : ℕ) (lt : p < l.shape.lanes * l.shape.handles)
      → sum_by (weigh (at_birth p)) s.views ≤ (r.counts p lt).generation + (r.counts p lt).vacant
  no_more s r p lt =
      let k = r.counts p lt in
      let a = weak_six (weigh (at_birth p)) (weigh (at_out p)) (weigh (on_place ref_born p))
      (weigh (on_place ref_born p)) (weigh (at_in p)) (weigh (on_place ref_vacated p)) s.views (all_bear s r p) in
      let b = k.all_born in let c = k.all_vacated in let d = taken_once stands l s r p lt in
      let bi : ℕ = sum_by (weigh (at_birth p)) s.views in let ou : ℕ = sum_by (weigh (at_out p)) s.views in let bo : ℕ =
      place_tally ref_born p s.views in let hi : ℕ = sum_by (weigh (at_in p)) s.views in let va : ℕ =
      place_tally ref_vacated p s.views in
      let a' : bi + (ou + bo) ≤ bo + (hi + va) = a in let b' : bo ≡ k.generation = b in let c' : va + 1
      ≡ k.generation + k.vacant = c in let d' : hi ≤ 1 + ou = d in
      omega (arith, a', b', c', d')

  -- no birth waits where a view has the place in hand and none of its own waits
  pub no_other : (s : St) (r : IsSound stands l s) (id p : ℕ) (v : SeatView) (lt : p < l.shape.lanes * l.shape.handles)
      → get_elem? s.views id ≡ some v → InHand p v → NoneWaits p v
      → sum_by (weigh (at_birth p)) s.views ≤ (r.counts p lt).generation
  no_other s r id p v lt at has none_waits =
      let k = r.counts p lt in
      let here : weigh (at_birth p) v + (weigh (at_out p) v + weigh (on_place ref_born p) v) < weigh
      (on_place ref_born p) v + (weigh (at_in p) v + weigh (on_place ref_vacated p) v) =
      omega (arith, has, none_waits) in
      let a = strict_six (weigh (at_birth p)) (weigh (at_out p)) (weigh (on_place ref_born p))
      (weigh (on_place ref_born p)) (weigh (at_in p)) (weigh (on_place ref_vacated p)) s.views id v (all_bear s r p)
      at here in
      let b = k.all_born in let c = k.all_vacated in let d = taken_once stands l s r p lt in let f = k.free in
      let bi : ℕ = sum_by (weigh (at_birth p)) s.views in let ou : ℕ = sum_by (weigh (at_out p)) s.views in let bo : ℕ =
      place_tally ref_born p s.views in let hi : ℕ = sum_by (weigh (at_in p)) s.views in let va : ℕ =
      place_tally ref_vacated p s.views in
      let a' : bi + (ou + bo) < bo + (hi + va) = a in let b' : bo ≡ k.generation = b in let c' : va + 1
      ≡ k.generation + k.vacant = c in let d' : hi ≤ 1 + ou = d in
      omega (arith, a', b', c', d', f)

  -- a root's end is noted at most as often as its step, and vacated at most as often as its end is noted
  pub ends_le : (s : St) (r : IsSound stands l s) (p g : ℕ)
      → sum_by (weigh (at_end p g)) s.views ≤ tally ref_ended p g s.views
  ends_le s r p g =
      let all = All-weaker (IsView l.shape r.setting)
      (λ (v : SeatView). weigh (at_end p g) v + weigh (at_end p g) v ≤ weigh (on_root ref_ended p g) v + weigh
      (on_root ref_ended p g) v) (λ v fine. let q = fine.roots.ending p g in omega (arith, q)) s.views
      r.views in
      let a = weak_sum (weigh (at_end p g)) (weigh (at_end p g)) (weigh (on_root ref_ended p g))
      (weigh (on_root ref_ended p g)) s.views all in
      let x : ℕ = sum_by (weigh (at_end p g)) s.views in let y : ℕ = tally ref_ended p g s.views in
      let a' : x + x ≤ y + y = a in
      omega (arith, a')

  pub ends_lt : (s : St) (r : IsSound stands l s) (id p g : ℕ) (v : SeatView) → get_elem? s.views id ≡ some v
      → weigh (at_end p g) v < weigh (on_root ref_ended p g) v
      → sum_by (weigh (at_end p g)) s.views < tally ref_ended p g s.views
  ends_lt s r id p g v at less =
      let all = All-weaker (IsView l.shape r.setting)
      (λ (v : SeatView). weigh (at_end p g) v + weigh (at_end p g) v ≤ weigh (on_root ref_ended p g) v + weigh
      (on_root ref_ended p g) v) (λ v fine. let q = fine.roots.ending p g in omega (arith, q)) s.views
      r.views in
      let a = strict_sum (weigh (at_end p g)) (weigh (at_end p g)) (weigh (on_root ref_ended p g))
      (weigh (on_root ref_ended p g)) s.views id v all at (omega (arith, less)) in
      let x : ℕ = sum_by (weigh (at_end p g)) s.views in let y : ℕ = tally ref_ended p g s.views in
      let a' : x + x < y + y = a in
      omega (arith, a')

  pub vacated_le : (s : St) (r : IsSound stands l s) (p g : ℕ)
      → tally ref_vacated p g s.views ≤ sum_by (weigh (at_end p g)) s.views
  vacated_le s r p g =
      let all = All-weaker (IsView l.shape r.setting)
      (λ (v : SeatView). weigh (on_root ref_vacated p g) v + weigh (on_root ref_vacated p g) v ≤ weigh (at_end p g)
      v + weigh (at_end p g) v) (λ v fine. let q = fine.roots.over p g in omega (arith, q)) s.views r.views in
      let a = weak_sum (weigh (on_root ref_vacated p g)) (weigh (on_root ref_vacated p g)) (weigh (at_end p g))
      (weigh (at_end p g)) s.views all in
      let x : ℕ = tally ref_vacated p g s.views in let y : ℕ = sum_by (weigh (at_end p g)) s.views in
      let a' : x + x ≤ y + y = a in
      omega (arith, a')
