use Rattle.run_map.proofs.EmptyStore.{no-memory}
use Rattle.run_map.proofs.store.Store.close.Goals as goal

pub loop-piece-init : goal.loop-piece-init
loop-piece-init c = no-memory c.args.layout.now c.args.self c.requires.0 c.requires.1
