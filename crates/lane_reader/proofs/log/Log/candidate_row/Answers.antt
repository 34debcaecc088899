use Rattle.std.proofs.Common.{rules}
use Rattle.std.proofs.lemmas.Result.{IfOk-weaker}
use Rattle.lane_reader.specs.Candidates.{IsMade}
use Rattle.lane_reader.proofs.log.Log.candidate_row.Goals as goal

pub returns-else-not-is_small-clause-row : goal.returns-else-not-is_small-clause-row
returns-else-not-is_small-clause-row c =
    IfOk-weaker c.compose.result _ _
    (λ got row s is o found fits. let made : IsMade o c.in-Made.composite = search rules in rw made.same (row s is))
    c.compose.ensures.row
