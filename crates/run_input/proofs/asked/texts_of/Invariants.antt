use Rattle.std.proofs.Common.{◌≡◌, map, drop, [], string_bytes}
use Rattle.serde_json.specs.View.{view}
use Rattle.run_input.specs.Cases.{texts_after}
use Rattle.run_input.proofs.asked.texts_of.Given as goal

abbrev pub invariant-loop-value : goal.invariant-loop-value
invariant-loop-value l =
    texts_after [] (map view l.values)
    ≡ texts_after (map string_bytes l.texts.items) (drop l.value-index (map view l.values))
