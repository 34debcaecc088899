-- What the calls of the pool ask of a seat that has just this in hand.
use Rattle.std.proofs.Common.{◌≡◌, ℕ, ◌+◌, ◌<◌, Bool, false, cond, sym, ap, ◌∙◌, subst, arith}
use Rattle.std.specs.Prelude.{Option, Some, IfSome, ◌==◌, if◌then◌else◌}
use Rattle.std.proofs.lemmas.Bool.Decides.{nat_tests}
use Rattle.step_law.specs.Settings.{Setting}
use Rattle.pool_law.specs.declared.id.Region.{Region}
use Rattle.pool_law.specs.Places.{IsInPlace}
use Rattle.pool_law.proofs.PatternLemmas.{same_number, same_taking-refl}
use Rattle.history_laws.specs.NoteCounts.{is_taking, uses_in}
use Rattle.handle_bin.specs.Bins.{HandleValue}
use Rattle.pool_table.specs.declared.views.SeatView.{SeatView}
use Rattle.shared_pool.specs.declared.seat.PoolSeat.{PoolSeat}
use Rattle.shared_pool.specs.SeatViews.{view_of}
use Rattle.shared_pool.specs.declared.pool.SharedPool.{SharedPool}
use Rattle.shared_pool.specs.Holding.{HoldsHandle, HoldsRegion}
use Rattle.shared_pool.specs.Quotas.{quota_left, has_closed}
use Rattle.seat_work.specs.Hands.{lane_in, Hand, IsHeld, IsHandle, IsRegion, is_place}
use Rattle.seat_work.proofs.HandNotes.{same_quota}

module _ (pool : SharedPool) (s : PoolSeat) (hand : Hand) where
  pub holds_handle : (h : HandleValue) → IsHeld (record hand { place = Some h.place }) (view_of s) → IsHandle pool h
      → HoldsHandle pool s h
  holds_handle h held is = record {
    hand =
        (let a = held.places h.place in let one : is_place h.place (Some h.place)
        ≡ 1 = ap (λ (b : Bool). cond {A = ℕ} b 1 0) (same_number h.place) in omega (arith, a, one));
    waits = (let a = held.births h.place in omega (arith, a));
    lane = is.lane;
    place = is.place;
  }

  pub holds_region : (r : Region) → IsHeld (record hand { region = Some r.id }) (view_of s) → IsRegion pool s r
      → HoldsRegion pool s r
  holds_region r held is = record {
    hand = record {
      taking =
          (let a = held.regions r.id in let one : is_taking r.id r.id
          ≡ 1 = ap (λ (b : Bool). cond {A = ℕ} b 1 0) (same_taking-refl r.id) in omega (arith, a, one));
      uses =
          (let a = held.uses r.id in let same : uses_in r.id r.id
          ≡ r.id.uses =
          ap (λ (b : Bool). cond {A = ℕ} b r.id.uses 0) (same_taking-refl r.id) in omega (arith, a, same));
    };
    here = is.here;
    owner = is.owner;
    class = is.class;
    len = is.len;
  }

module _ (pool : SharedPool) where
  pub is_handle : (s : PoolSeat) (h : HandleValue) → HoldsHandle pool s h → IsHandle pool h
  is_handle s h holds = record { lane = holds.lane; place = holds.place }

  pub is_region : (s : PoolSeat) (r : Region) → HoldsRegion pool s r → IsRegion pool s r
  is_region s r holds = record { here = holds.here; owner = holds.owner; class = holds.class; len = holds.len }

  -- a region stays one of the pool
  pub region_stays : (old new : PoolSeat) (r : Region) → (view_of new).setting ≡ (view_of old).setting
      → IsRegion pool old r → IsRegion pool new r
  region_stays old new r same is = record {
    here = subst (λ (x : Option Setting). IfSome x (λ t. IsInPlace t.grounds r.id.place r.piece)) (sym same) is.here;
    owner = is.owner;
    class = is.class;
    len = is.len;
  }

module _ (v : SeatView) (hand : Hand) (class : ℕ) where
  -- no region of the class is to be shed, or so many are
  pub none_left : IsHeld (record hand { quota = 0 }) v → quota_left (lane_in v) class v.own.notes ≡ 0
  none_left held = held.quotas class ∙ same_quota (class + 1 == hand.drained) 0

  pub some_left : (left : ℕ) → 0 < left → IsHeld (record hand { drained = class + 1; quota = left }) v
      → 0 < quota_left (lane_in v) class v.own.notes
  some_left left more held =
      let a : quota_left (lane_in v) class v.own.notes ≡ left = held.quotas class
      ∙ ap (λ (b : Bool). if b then left else 0) (same_number (class + 1)) in
      omega (arith, a, more)

  -- the cache of the class isn't closed yet
  pub not_closed_yet : IsHeld (record hand { closed = class }) v → has_closed (lane_in v) class v.own.notes ≡ false
  not_closed_yet held = held.closes class ∙ grind (arith, nat_tests)
