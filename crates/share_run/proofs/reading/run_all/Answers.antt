use Rattle.std.proofs.Common.{subst}
use denote.Param.Send.{sendable}
use Rattle.share_run.specs.declared.readers.Reader.{Reader}
use Rattle.share_run.specs.Reading.{HasRun}
use Rattle.shared_pool.proofs.pool.SharedPool.TheSendSync.{the_sync as pool_sync}
use Rattle.shared_composite.proofs.Crossings.{board_sync}
use Rattle.share_run.proofs.Crossings.{each_bytes}
use Rattle.share_run.proofs.MeetLaws.{runs_all}
use Rattle.share_run.proofs.reading.run_all.Goals as goal

pub returns : goal.returns
returns g c =
    let board = c.args.board.now in let wholes = c.args.wholes.now in
    runs_all board wholes c.args.readers.now c.for_each_mut.new.s c.for_each_mut.auto.s
    (λ i d lt.
    (let h = (c.for_each_mut.ensures i d lt).1 in
    subst (λ (x : Reader × Reader). HasRun board wholes x.0 x.1)
    (λ j. (h.argument_is j, h.left j)) h.call))

pub for_each_mut-requires-sync-F : goal.for_each_mut-requires-sync-F
for_each_mut-requires-sync-F g c κs within =
    search (c.type_bounds.sync-R.shared, board_sync.shared, pool_sync.shared, each_bytes, sendable) depth 20
