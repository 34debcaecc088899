use Rattle.std.proofs.Common.{[], ◌∷◌}
use Rattle.std.proofs.lemmas.Result.{IfOk-weaker}
use Rattle.pool_law.specs.LaneStates.{composite_with}
use Rattle.pool_law.specs.Refusals.{unbound, plain, composite, illegal, too_long}
use Rattle.lane_reader.proofs.NoneRefused.{none-last}
use Rattle.lane_reader.proofs.log.Log.add_row.Goals as goal

pub returns-clause-row : goal.returns-clause-row
returns-clause-row c =
    let whole = c.args.whole in
    let name = c.args._name in
    IfOk-weaker c.candidate_row.result _ _
    (λ got row s is found accepted.
    row s is (composite_with s whole name) found
    (none-last
    (unbound s whole ∷ unbound s name ∷ plain s whole ∷ composite s name ∷ illegal s whole ∷ illegal s name ∷ [])
    (too_long c.args.setting.now.shape.now (composite_with s whole name)) accepted))
    c.candidate_row.ensures.row
