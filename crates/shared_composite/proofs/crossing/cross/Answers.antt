use Rattle.shared_composite.proofs.Crossings.{board_sync}
use Rattle.shared_composite.proofs.crossing.cross.Goals as goal

pub shared-requires-sync-T : goal.shared-requires-sync-T
shared-requires-sync-T c κs = record { shared = board_sync.shared }
