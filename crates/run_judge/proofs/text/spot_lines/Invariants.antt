use Rattle.std.proofs.Common.{◌≡◌, ◌++◌, drop}
use Rattle.std.specs.List.{flat_map}
use Rattle.run_judge.specs.Told.{spot_line}
use Rattle.run_judge.proofs.text.spot_lines.Given as goal

abbrev pub invariant-loop-spot : goal.invariant-loop-spot
invariant-loop-spot l =
    l.initial.writer ++ flat_map spot_line l.spots
    ≡ l.writer ++ flat_map spot_line (drop l.spot-index l.spots)
