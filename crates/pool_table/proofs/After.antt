-- What a seat has after a note that it made: the counts, hands and rights that the next call asks.
use Rattle.std.proofs.Common.{◌≡◌, ◌⊎◌, ℕ, ◌+◌, ◌<◌, ◌≤◌, Bool, true, false, cond, refl, ap, ◌∙◌, arith, Some}
use Rattle.std.specs.Prelude.{◌&&◌}
use Rattle.pool_law.specs.declared.id.RootId.{RootId}
use Rattle.pool_law.specs.declared.id.RegionId.{RegionId}
use Rattle.pool_law.specs.declared.id.Parcel.{Parcel}
use Rattle.pool_law.specs.declared.id.ViewData.{ViewData}
use Rattle.pool_law.specs.declared.note.Did.{Did}
use Rattle.pool_law.specs.declared.note.Did.TheVariants.{Fetch, Grow}
use Rattle.pool_law.specs.declared.note.Noted.{Noted}
use Rattle.pool_law.specs.declared.note.Object.{Object}
use Rattle.pool_law.specs.Same.{same_taking}
use Rattle.pool_law.proofs.PatternLemmas.{same_taking-refl, same_root-refl}
use Rattle.history_laws.specs.NoteCounts.{is_taking, uses_in, view_of_root, did_fetch_of, did_post_of, arena_out, arena_in, cache_out, cache_in, weight_or, ended_region, place_in}
use Rattle.pool_table.specs.declared.views.Entry.{Entry}
use Rattle.pool_table.specs.declared.views.Entry.TheVariants.{At}
use Rattle.pool_table.specs.declared.views.SeatView.{SeatView}
use Rattle.pool_table.specs.Views.{with_entry}
use Rattle.pool_table.specs.Counts.{on_this, ref_gain, ref_loss, fetches, posts, gained_of, lost_of, HasCount}
use Rattle.pool_table.specs.Hands.{from_arena, to_arena, from_cache, to_cache, from_place, to_place, HasRegion, IsPutDown}
use Rattle.pool_table.proofs.Weights.{weigh_entry}
use Rattle.pool_table.proofs.Holdings.{takes_up, lays, taking_key}

-- or nothing
pub record LeavesAlone (r : RegionId) (e : Entry) : Type 0 where
  pub none_up : takes_up (is_taking r) e ≡ 0
  pub unused_up : takes_up (uses_in r) e ≡ 0
  pub none : lays (is_taking r) e ≡ 0
  pub unused : lays (uses_in r) e ≡ 0

its_own : (r : RegionId) → (is_taking r r ≡ 1) × (uses_in r r ≡ r.uses)
its_own r = (
  ap (λ (b : Bool). cond {A = ℕ} b 1 0) (same_taking-refl r),
  ap (λ (b : Bool). cond {A = ℕ} b r.uses 0)
      (same_taking-refl r),
)

module _ (v : SeatView) (o : Object) (k : ℕ) (n : Noted) (t : ℕ) where
  abbrev e : Entry
  e = At o k n

  abbrev w : SeatView
  w = with_entry v e t

  -- a root that was fetched is counted
  pub after_fetch : (q : Parcel) (x : ViewData) → n.did ≡ Fetch q → q.view ≡ Some x
      → lost_of x.root v ≤ gained_of x.root v → HasCount x.root w
  after_fetch q x is has counted =
      let r : RootId = x.root in
      let a = weigh_entry (on_this ref_gain r) v e t in let b = weigh_entry (on_this ref_loss r) v e t in
      let c = weigh_entry (fetches r) v e t in let d = weigh_entry (posts r) v e t in
      let one : did_fetch_of r n.did ≡ 1 = ap (did_fetch_of r) is
      ∙ (ap (view_of_root r) has ∙ ap (λ (b : Bool). cond {A = ℕ} b 1 0) (same_root-refl r)) in
      let none : did_post_of r n.did ≡ 0 = ap (did_post_of r) is in omega (arith, a, b, c, d, one, none, counted)

  -- and stays there while notes leave it alone
  pub after_other : (r : RegionId) → LeavesAlone r e → HasRegion r v → HasRegion r w
  after_other r h has =
      let a = weigh_entry (to_arena (is_taking r)) v e t in let b = weigh_entry (to_cache (is_taking r)) v e t in
      let c = weigh_entry (to_place (is_taking r)) v e t in
      let d = weigh_entry (from_arena (is_taking r)) v e t in let f = weigh_entry (from_cache (is_taking r)) v e t in
      let g = weigh_entry (from_place (is_taking r)) v e t in
      let a' = weigh_entry (to_arena (uses_in r)) v e t in let b' = weigh_entry (to_cache (uses_in r)) v e t in let c' =
      weigh_entry (to_place (uses_in r)) v e t in
      let d' = weigh_entry (from_arena (uses_in r)) v e t in let f' = weigh_entry (from_cache (uses_in r)) v e t in
      let g' = weigh_entry (from_place (uses_in r)) v e t in
      let h1 = h.none_up in let h2 = h.unused_up in let h3 = h.none in let h4 = h.unused in let k1 = has.taking in
      let k2 = has.uses in
      record {
        taking = omega (arith, a, b, c, d, f, g, h1, h3, k1);
        uses =
            omega (arith, c, a', b', c', d', f', g', h2, h3, h4, k2);
      }

  -- a region that isn't in hand is of another taking than one that is
  apart : (r z : RegionId) → IsPutDown r v → HasRegion z v → same_taking r z ≡ false
  apart r z down has = by (same_taking r z) refl
    where
      by : (b : Bool) → same_taking r z ≡ b → b ≡ false
      by false same = refl
      by true same =
          let key = taking_key v r z same has.taking in let none = down.taking in absurd (omega (arith, key, none))

  -- the region that a root leaves that grows is in hand then
  pub after_growing : (c : ℕ) (r z : RegionId) → n.did ≡ Grow c (record z { uses = z.uses + 1 }) → n.region ≡ Some r
      → HasRegion z v → IsPutDown r v → HasRegion r w
  after_growing c r z is out has down =
      let x : RegionId = record z { uses = z.uses + 1 } in let other = apart r z down has in
      let own = its_own r in let o0 = own.0 in let o1 = own.1 in
      let none : is_taking r x ≡ 0 = ap (λ (b : Bool). cond {A = ℕ} b 1 0) other in let unused : uses_in r x
      ≡ 0 = ap (λ (b : Bool). cond {A = ℕ} b (z.uses + 1) 0) other in
      let up : (u : RegionId → ℕ) → takes_up u e ≡ 0 + (0 + u r) =
      (λ u i. arena_out u (is i) + (cache_out u (is i) + weight_or u (ended_region (is i) (out i)))) in
      let down_by : (u : RegionId → ℕ) → lays u e ≡ 0 + (0 + u x) =
      (λ u. ap (λ (d : Did). arena_in u d + (cache_in u d + place_in u d)) is) in
      let into : to_place (is_taking r) e ≡ is_taking r x = ap (place_in (is_taking r)) is in
      let a = weigh_entry (to_arena (is_taking r)) v e t in let b = weigh_entry (to_cache (is_taking r)) v e t in
      let d = weigh_entry (to_place (is_taking r)) v e t in
      let f = weigh_entry (from_arena (is_taking r)) v e t in let g = weigh_entry (from_cache (is_taking r)) v e t in
      let h = weigh_entry (from_place (is_taking r)) v e t in
      let a' = weigh_entry (to_arena (uses_in r)) v e t in let b' = weigh_entry (to_cache (uses_in r)) v e t in let d' =
      weigh_entry (to_place (uses_in r)) v e t in
      let f' = weigh_entry (from_arena (uses_in r)) v e t in let g' = weigh_entry (from_cache (uses_in r)) v e t in
      let h' = weigh_entry (from_place (uses_in r)) v e t in
      let u1 = up (is_taking r) in let u2 = up (uses_in r) in let l1 = down_by (is_taking r) in let l2 =
      down_by (uses_in r) in
      let k1 = down.taking in let k2 = down.uses in
      record {
        taking = omega (arith, a, b, d, f, g, h, u1, l1, none, o0, k1);
        uses =
            omega (arith, d, a', b', d', f', g', h', u2, l2, into, none, unused, o1, k2);
      }
