-- The run is legal, stands in the order of its turns, and is typed.
use Rattle.std.proofs.Common.{arith}
use Rattle.std.proofs.lemmas.List.Elements.{All-get_or}
use Rattle.definition_rows.specs.LaneRuns.{hand_over}
use Rattle.definition_rows.specs.OrderedRuns.{IsOrdered, handed_over, two_lanes}
use Rattle.text_laws.specs.Typed.{IsTyped}
use Rattle.text_rows.proofs.Typing.{typed}
use Rattle.text_rows.proofs.hand_over_is_derived.Goals as goal

pub returns : goal.returns
returns c =
    let row : IsOrdered handed_over =
    All-get_or IsOrdered two_lanes 0 handed_over (omega arith) c.two_lanes_in_order.ensures.stand in
    let numbers : IsTyped hand_over =
    typed hand_over (search (arith)) (search (arith)) (search (arith)) (search (arith)) (search (arith)) in
    record {
      typed = numbers;
      derived =
          c.legal_runs_are_determined.ensures.derived hand_over c.hand_over_run.ensures.legal row.0
          numbers;
    }
