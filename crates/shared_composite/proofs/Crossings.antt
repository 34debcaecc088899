-- What of this crate threads may share: a board, since its cores lie behind a `&` with it.
use denote.RattleType.{RattleType}
use denote.Hole.{as_row}
use denote.Param.Send.{IsSend, IsSync, part_keyless, sendable}
use denote.Param.SendFields.{declared_sync, as_row_sync}
use Rattle.std.proofs.Crossing as std
use Rattle.std.specs.contracts.option.Option as Option
use Rattle.std.specs.contracts.vec.Vec as Vec
use Rattle.std.specs.contracts.alloc.Global as Heap
use Rattle.std.specs.contracts.impls.GlobalAllocator.TheImpl.{ghosts}
use Rattle.atomic_table.specs.contracts.shared.Seat as Given
use Rattle.atomic_table.proofs.shared.Seat.TheSendSync.{the_send as given_send}
use Rattle.crossbeam_queue.specs.contracts.array_queue.Doing as Doing
use Rattle.board_table.proofs.table.BoardTable.TheSendSync as table
use Rattle.composite_buf.specs.contracts.composite.Composite as Composite
use Rattle.composite_buf.proofs.composite.Composite.TheSendSync.{the_sync as composite_sync}
use Rattle.pool_table.specs.contracts.bare_slot.BareSlot as BareSlot
use Rattle.pool_table.specs.contracts.table.PoolSeat as TableSeat
use Rattle.pool_table.proofs.bare_slot.BareSlot.TheSendSync.{the_send as bare_slot_send}
use Rattle.pool_table.proofs.views.Letter.TheSendSync.{the_sync as letter_sync}
use Rattle.shared_pool.specs.contracts.home.Home as Object
use Rattle.shared_pool.specs.contracts.told.HomeTold.TheImpl as told
use Rattle.shared_pool.specs.contracts.posted.Posted as Posted
use Rattle.shared_pool.specs.contracts.mail_ends.MailEnds as MailEnds
use Rattle.shared_pool.specs.contracts.seat.PoolSeat as PoolSeat
use Rattle.shared_pool.proofs.home.Home.TheSendSync.{the_send as object_send}
use Rattle.shared_pool.proofs.posted.Posted.TheSendSync.{the_send as posted_send}
use Rattle.lane_stages.proofs.retirement.Ending.TheSendSync.{the_sync as ending_sync}
use Rattle.shared_composite.specs.contracts.cores.Core as Core
use Rattle.shared_composite.specs.contracts.home.Home as Home
use Rattle.shared_composite.specs.contracts.board.Board as Board
use Rattle.shared_composite.proofs.home.Home.TheSendSync.{the_send as home_send}

-- a `&` to a seat of a table holds a share of what the seat owns, which may go to any thread
given_sync : (S V : RattleType) → IsSend S → IsSync (Given.the_row S V)
given_sync S V s = record { shared = λ x b o κ q. part_keyless (Given.the_row S V) (given_send S V s) q x b o }

list_sync : (E : RattleType) → IsSync E → IsSync (as_row (Vec.the_field E Heap.the_row ghosts))
list_sync E s = as_row_sync (Vec.the_field E Heap.the_row ghosts) (std.Vec-sync E s)

-- ---- The seats of a pool.
object_slot_send : IsSend (BareSlot.the_row Object.the_row)
object_slot_send = bare_slot_send Object.the_row object_send

posted_slot_send : IsSend (Option.the_row Posted.the_row)
posted_slot_send = search (posted_send, sendable) depth 30

table_seat_sync : IsSync (TableSeat.the_row Object.the_row told.ghosts)
table_seat_sync =
    declared_sync (TableSeat.the_type Object.the_row told.ghosts) (
      search (given_sync, object_slot_send, sendable) depth 30,
      (search sendable depth 30, (search (letter_sync, sendable) depth 30, (list_sync _ (search sendable), tt))),
    )

pass_sync : IsSync (Given.the_row (Option.the_row Posted.the_row) (Doing.the_row Posted.the_row MailEnds.the_row))
pass_sync = given_sync _ _ posted_slot_send

pool_seat_sync : IsSync PoolSeat.the_row
pool_seat_sync = declared_sync PoolSeat.the_type (table_seat_sync, (list_sync _ pass_sync, (list_sync _ pass_sync, tt)))

-- ---- Cores, and what stands for them at home.
core_sync : IsSync Core.the_row
core_sync =
    declared_sync Core.the_type (
      pool_seat_sync,
      (
        as_row_sync Composite.the_field composite_sync,
        (search sendable, (search (ending_sync, sendable) depth 30, tt)),
      ),
    )

home_sync : IsSync Home.the_row
home_sync = search (core_sync, std.Box-sync, sendable) depth 20

slot_sync : IsSync (Option.the_row Home.the_row)
slot_sync = search (home_sync, sendable) depth 20

pub board_sync : IsSync Board.the_row
board_sync =
    declared_sync Board.the_type
    (search (table.the_field_sync, home_send, sendable), (list_sync _ slot_sync, (list_sync _ core_sync, tt)))
