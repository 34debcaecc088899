use Rattle.std.proofs.Common.{◌+◌, ◌*◌, []}
use Rattle.shared_pool.specs.Dealing.{IsColumn, IsFirstPass}
use Rattle.shared_pool.specs.Mails.{IsPostsEnd}
use Rattle.shared_pool.proofs.Dealings.{SoFar}
use Rattle.shared_pool.proofs.dealing.name_row.Given as goal

abbrev pub invariant-loop-to : goal.invariant-loop-to
invariant-loop-to l =
    let lanes = l.pool.table.layout.shape.lanes in
    record {
      row : SoFar (λ to. IsPostsEnd l.pool l.from to []) (λ to. IsFirstPass l.pool.mails.items (l.from * lanes + to))
          lanes
          l.to l.row.items;
      columns : SoFar (IsColumn l.pool (l.from + 1)) (IsColumn l.pool l.from) lanes l.to l.fetches.items;
    }
