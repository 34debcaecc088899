use Rattle.std.proofs.Common.{[], sym, ◌∙◌, arith}
use Rattle.std.proofs.lemmas.List.{length-map}
use Rattle.serde_json.specs.View.{view}
use Rattle.nest_run.proofs.RowSteps.{calls_long, number_small}
use Rattle.nest_run.proofs.reading.input_from.Goals as goal

pub returns-clause-within : goal.returns-clause-within
returns-clause-within c = record {
  capacity = number_small _ _ (sym c.capacity_in.ensures ∙ c.in_ok-capacity.ensures.ok_part);
  calls =
      (let long = calls_long _ [] _ c.in_ok-calls.ensures in
      let rows = length-map c.in_ok-rows.rows.now view in omega (arith, long, rows));
}
