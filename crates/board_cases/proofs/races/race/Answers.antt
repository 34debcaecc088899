use base.Fraction.{full_share}
use denote.Param.Send.{param_send, part_keyless}
use Rattle.shared_pool.proofs.pool.SharedPool.TheSendSync.{the_sync as pool_sync}
use Rattle.shared_composite.proofs.board.BoardSeat.TheSendSync.{the_send as seat_send}
use Rattle.shared_composite.proofs.Crossings.{board_sync}
use Rattle.shared_composite.specs.contracts.board.BoardSeat as Seat
use Rattle.board_cases.proofs.races.race.Lts as Lts
use Rattle.board_cases.proofs.races.race.Goals as goal

-- what the closure captures may go to another thread: each thing behind a `&` may be shared
pub join_mut-a-requires-send-F : goal.join_mut-a-requires-send-F
join_mut-a-requires-send-F g c κs within =
    param_send 1 (Lts.arg-0-1 g.row.R g.R.laws g.R.Threads-dict g.R.Abort-dict g.R.Wait-dict κs)
    (record {
      owned = λ x vs vss. (
        tt,
        (
          (tt, c.type_bounds.sync-R.shared x.0.now x.0.ref_ptr.0 x.0.ref_ptr.1 _),
          (
            (tt, board_sync.shared x.1.now x.1.ref_ptr.0 x.1.ref_ptr.1 _),
            (
              (tt, pool_sync.shared x.2.now x.2.ref_ptr.0 x.2.ref_ptr.1 _),
              (
                (tt, (tt, λ y. (part_keyless Seat.the_row seat_send full_share y x.3.ref_ptr.0 x.3.ref_ptr.1, tt))),
                tt,
              ),
            ),
          ),
        ),
      );
      leaving = λ k x w. (tt, (tt, (tt, (tt, tt))));
    })
