use Rattle.std.proofs.Common.{◌≡◌, Some, refl, rules}
use Rattle.pool_law.specs.LaneStates.{named}
use Rattle.pool_law.specs.Names.{Plain}
use Rattle.lane_reader.specs.Viewing.{data_of}
use Rattle.lane_reader.proofs.log.Log.retain_row.Goals as goal

pub returns-in_err-retain-in-Plain-clause-row : goal.returns-in_err-retain-in-Plain-clause-row
returns-in_err-retain-in-Plain-clause-row c s is accepted =
    let there : named s c.args.name ≡ Some (Plain (data_of c.in-Plain.view)) = search rules in
    rw (there, c.from_residual-in_err-retain-in-Plain.ensures, c.in_err-retain-in-Plain.ensures s.seen) refl
