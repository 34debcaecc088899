use Rattle.std.proofs.Common.{◌*◌, []}
use Rattle.std.specs.Global.{Vec}
use Rattle.crossbeam_queue.specs.Passes.{Pass}
use Rattle.shared_pool.specs.MailEnds.{KnownEnds}
use Rattle.shared_pool.specs.Posting.{PostedLetter}
use Rattle.shared_pool.specs.Dealing.{AreColumns, AreFirstPasses}
use Rattle.shared_pool.specs.Mails.{ArePosts}
use Rattle.shared_pool.proofs.Dealings.{SoFar}
use Rattle.shared_pool.proofs.dealing.SeatRoom.deal.Given as goal

abbrev pub invariant-loop-lane : goal.invariant-loop-lane
invariant-loop-lane l =
    let lanes = l.pool.table.layout.shape.lanes in
    record {
      rows : SoFar (λ lane (row : Vec (Pass PostedLetter KnownEnds)). ArePosts l.pool lane [] row.items)
          (λ lane row. AreFirstPasses l.pool.mails.items (lane * lanes) lanes row.items) lanes l.lane l.posts.items;
      columns : AreColumns l.pool l.lane l.fetches.items;
    }
