use Rattle.std.proofs.Common.{rules}
use Rattle.lane_reader.proofs.PieceLemmas.{entries-rest}
use Rattle.lane_reader.proofs.log.Log.behind.Goals as goal

pub returns-clause-entries : goal.returns-clause-entries
returns-clause-entries c =
    entries-rest c.args.self.now.notes.now c.args.self.now.told.now c.args.count c.min.result (search rules)
