use Rattle.std.proofs.Common.{◌≡◌, length, arith}
use Rattle.shared_pool.specs.Seats.{IsPoolSeat}
use Rattle.lane_core.specs.declared.lane.Lane.{Lane}
use Rattle.lane_core.proofs.PlayedRoom.{All-moved}
use Rattle.lane_core.proofs.played.abandon_all.Goals as goal

pub abandon-requires : goal.abandon-requires
abandon-requires c =
    let none : length c.loop.lanes.items ≡ 0 = omega (arith, c.loop.invariant.many) in
    record {
      seats =
          All-moved (λ s. IsPoolSeat c.args.pool s) (λ (l : Lane). l.context.seat) c.args.lanes.items c.loop.lanes.items
          c.loop.seats.items
          none c.loop.invariant.seats c.requires.seats;
    }
