use Rattle.std.proofs.Common.{◌∷◌, ◌++◌, map}
use Rattle.std.proofs.lemmas.Result.{IfOk-weaker}
use Rattle.pool_law.specs.LaneStates.{composite_from}
use Rattle.pool_law.specs.Refusals.{unbound, taken, composite, illegal, too_long}
use Rattle.lane_reader.proofs.NoneRefused.{none-last}
use Rattle.lane_reader.proofs.log.Log.compose_row.Goals as goal

pub returns-clause-row : goal.returns-clause-row
returns-clause-row c =
    let names = c.args._names.now in
    IfOk-weaker c.candidate_row.result _ _
    (λ got row s is found accepted.
    row s is (composite_from s names) found
    (none-last
    (map (unbound s) names ++ taken s c.args.fresh ∷ map (composite s) names ++ map (illegal s) names)
    (too_long c.args.setting.now.shape.now (composite_from s names)) accepted))
    c.candidate_row.ensures.row
