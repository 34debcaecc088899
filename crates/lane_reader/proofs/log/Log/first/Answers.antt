use Rattle.lane_reader.proofs.PieceLemmas.{entries-first}
use Rattle.lane_reader.proofs.log.Log.first.Goals as goal

pub returns-clause-entries : goal.returns-clause-entries
returns-clause-entries c = entries-first c.args.self.now.notes.now c.args.self.now.told.now c.args.count
