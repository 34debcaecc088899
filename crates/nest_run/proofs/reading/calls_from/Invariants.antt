use Rattle.std.proofs.Common.{◌≡◌, map, drop, []}
use Rattle.serde_json.specs.View.{view}
use Rattle.nest_run.specs.Inputs.{calls_after}
use Rattle.nest_run.proofs.reading.calls_from.Given as goal

abbrev pub invariant-loop-row : goal.invariant-loop-row
invariant-loop-row l = calls_after [] (map view l.rows) ≡ calls_after l.calls.items (drop l.row-index (map view l.rows))
