-- What a seat has in hand is in the hands of any seat with the same view.
use Rattle.std.proofs.Common.{◌≡◌, sym, subst}
use Rattle.std.specs.Prelude.{IfSome}
use Rattle.handle_bin.specs.Bins.{HandleValue}
use Rattle.pool_law.specs.declared.id.Region.{Region}
use Rattle.pool_law.specs.Places.{IsInPlace}
use Rattle.shared_pool.specs.declared.seat.PoolSeat.{PoolSeat}
use Rattle.pool_table.specs.declared.views.SeatView.{SeatView}
use Rattle.pool_table.specs.Hands.{InHand, NoneWaits, HasRegion}
use Rattle.shared_pool.specs.SeatViews.{view_of}
use Rattle.shared_pool.specs.declared.pool.SharedPool.{SharedPool}
use Rattle.shared_pool.specs.Holding.{HoldsRegion, HoldsHandle}

module _ (pool : SharedPool) (old new : PoolSeat)
    (same : view_of new ≡ view_of old) where
  pub region_same : (r : Region) → HoldsRegion pool old r → HoldsRegion pool new r
  region_same r holds = record {
    hand = subst (λ (v : SeatView). HasRegion r.id v) (sym same) holds.hand;
    here = subst (λ (v : SeatView). IfSome v.setting (λ t. IsInPlace t.grounds r.id.place r.piece)) (sym same)
        holds.here;
    owner = holds.owner;
    class = holds.class;
    len = holds.len;
  }

  pub handle_same : (h : HandleValue) → HoldsHandle pool old h → HoldsHandle pool new h
  handle_same h holds = record {
    hand = subst (λ (v : SeatView). InHand h.place v) (sym same) holds.hand;
    waits = subst (λ (v : SeatView). NoneWaits h.place v) (sym same) holds.waits;
    lane = holds.lane;
    place = holds.place;
  }
