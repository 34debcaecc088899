-- A region that a seat takes is in its hands.
use Rattle.std.proofs.Common.{◌≡◌, ℕ, ◌+◌, ◌-◌, ◌<◌, sym, ap, ◌∙◌, subst, arith, Bool, cond}
use Rattle.std.specs.Prelude.{Option, Some, IfSome}
use Rattle.step_law.specs.Settings.{Setting}
use Rattle.size_classes.specs.Sizes.{class_count, size_at}
use Rattle.pool_law.specs.declared.id.Region.{Region}
use Rattle.pool_law.specs.declared.id.RegionId.{RegionId}
use Rattle.pool_law.specs.declared.note.Did.TheVariants.{Take}
use Rattle.pool_law.specs.declared.note.Object.{Object}
use Rattle.pool_law.specs.Limits.{geometry_of}
use Rattle.pool_law.specs.Naming.{noted_by}
use Rattle.pool_law.specs.Places.{IsInPlace}
use Rattle.pool_law.proofs.PatternLemmas.{same_taking-refl}
use Rattle.history_laws.specs.NoteCounts.{one_if_so, is_taking, uses_in}
use Rattle.pool_table.specs.declared.views.Entry.{Entry}
use Rattle.pool_table.specs.declared.views.Entry.TheVariants.{At}
use Rattle.pool_table.specs.declared.views.SeatView.{SeatView}
use Rattle.shared_pool.specs.declared.seat.PoolSeat.{PoolSeat}
use Rattle.pool_table.specs.Counts.{weigh}
use Rattle.pool_table.specs.Hands.{HasRegion, IsPutDown, from_arena, from_cache, from_place, to_arena, to_cache, to_place}
use Rattle.shared_pool.specs.SeatViews.{view_of}
use Rattle.pool_table.specs.Views.{with_entry}
use Rattle.pool_table.proofs.Weights.{weigh_entry}
use Rattle.shared_pool.specs.declared.pool.SharedPool.{SharedPool}
use Rattle.shared_pool.specs.Holding.{HoldsRegion}
use Rattle.shared_pool.specs.Notes.{plain}
use Rattle.shared_pool.specs.Seats.{IsNoted}

-- a taking that isn't in hand comes into it
pub has_taken : (v : SeatView) (o : Object) (number turns : ℕ) (lane : Option ℕ) (class : ℕ) (r : RegionId)
    → IsPutDown r v → r.uses ≡ 0 → HasRegion r
    (with_entry v (At o number (noted_by lane (plain (Take class r)))) turns)
has_taken v o number turns lane class r before unused =
    record {
      taking =
          (let a = more (from_arena (is_taking r)) in let b = more (from_cache (is_taking r)) in let c =
          more (from_place (is_taking r)) in
          let d = more (to_arena (is_taking r)) in let f = more (to_cache (is_taking r)) in let k =
          more (to_place (is_taking r)) in let t = before.taking in
          omega (arith, a, b, c, d, f, k, t, one));
      uses =
          (let a = more (from_arena (uses_in r)) in let b = more (from_cache (uses_in r)) in let c =
          more (from_place (uses_in r)) in
          let d = more (to_arena (uses_in r)) in let f = more (to_cache (uses_in r)) in let k =
          more (to_place (uses_in r)) in let p = more (to_place (is_taking r)) in let t = before.uses in
          omega (arith, a, b, c, d, f, k, p, t, none, unused));
    }
  where
    e : Entry
    e = At o number (noted_by lane (plain (Take class r)))

    more : (f : Entry → ℕ) → weigh f (with_entry v e turns) ≡ weigh f v + f e
    more f = weigh_entry f v e turns

    one : is_taking r r ≡ 1
    one = ap one_if_so (same_taking-refl r)

    none : uses_in r r ≡ 0
    none = ap (λ (b : Bool). cond b r.uses 0) (same_taking-refl r) ∙ unused

-- a call that noted a taking leaves the seat with the region
pub took_region : (pool : SharedPool) (old new : PoolSeat) (o : Object)
    (number class : ℕ) (r : Region) (setting : Setting) → (view_of old).setting ≡ Some setting
    → IsNoted pool old new o number (plain (Take class r.id)) →
    IsPutDown r.id (view_of old) → r.id.uses ≡ 0 → IsInPlace setting.grounds r.id.place r.piece
    → r.id.owner < pool.table.layout.shape.lanes → r.id.class < class_count (geometry_of pool.table.layout.shape)
    → r.id.place.len ≡ size_at r.id.class → HoldsRegion pool new r
took_region pool old new o number class r setting known noted before unused place owner below len =
    record {
      hand =
          subst (λ (w : SeatView). HasRegion r.id w) (sym view)
          (has_taken (view_of old) o number ((view_of old).turns - 1) (view_of old).own.number class r.id before
          unused);
      here =
          subst (λ (x : Option Setting). IfSome x (λ t. IsInPlace t.grounds r.id.place r.piece))
          (sym (ap (λ (w : SeatView). w.setting) view ∙ known)) place;
      owner = owner;
      class = below;
      len = len;
    }
  where
    after : SeatView
    after =
        with_entry (view_of old) (At o number (noted_by (view_of old).own.number (plain (Take class r.id))))
        ((view_of old).turns - 1)

    view : view_of new ≡ after
    view = ap (λ m. m.0) noted.seat
