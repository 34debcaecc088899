use Rattle.std.proofs.Common.{◌≡◌, map, drop}
use Rattle.serde_json.specs.View.{view}
use Rattle.share_text.specs.Inputs.{each_of, part_in}
use Rattle.share_text.proofs.EachSteps.{behind}
use Rattle.share_text.proofs.reading.each_part.Given as goal

abbrev pub invariant-loop-row : goal.invariant-loop-row
invariant-loop-row l =
    each_of part_in (map view l.rows)
    ≡ behind l.parts.items (each_of part_in (drop l.row-index (map view l.rows)))
