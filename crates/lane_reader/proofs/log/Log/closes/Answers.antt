use Rattle.std.proofs.Common.{[], sym, ◌∙◌}
use Rattle.pool_law.specs.LaneStates.{new_lane, log_at}
use Rattle.pool_law.specs.Patterns.{closing}
use Rattle.pool_law.specs.Readers.{read_all}
use Rattle.lane_reader.specs.Reading.{entries}
use Rattle.lane_reader.proofs.PieceLemmas.{still-there}
use Rattle.lane_reader.proofs.log.Log.closes.Goals as goal

pub returns : goal.returns
returns c =
    c.is_all_read.ensures (closing c.args.lane) (c.closing.ensures [])
    ∙ sym (still-there (λ got. tt {0}) (read_all (closing c.args.lane) (log_at new_lane (entries c.args.self.now))))
