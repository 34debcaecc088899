-- The run is legal, stands in the order of its turns, and is typed.
use Rattle.std.proofs.Common.{arith}
use Rattle.std.proofs.lemmas.List.Elements.{All-get_or}
use Rattle.definition_rows.specs.RootRuns.{smallest}
use Rattle.definition_rows.specs.OrderedRuns.{IsOrdered, alone, one_lane}
use Rattle.text_laws.specs.Typed.{IsTyped}
use Rattle.text_rows.proofs.Typing.{typed}
use Rattle.text_rows.proofs.smallest_is_derived.Goals as goal

pub returns : goal.returns
returns c =
    let row : IsOrdered (alone smallest) =
    All-get_or IsOrdered one_lane 1 (alone smallest) (omega arith) c.one_lane_in_order.ensures.stand in
    let numbers : IsTyped smallest =
    typed smallest (search (arith)) (search (arith)) (search (arith)) (search (arith)) (search (arith)) in
    record {
      typed = numbers;
      derived =
          c.legal_runs_are_determined.ensures.derived smallest c.smallest_run.ensures.legal row.0
          numbers;
    }
