use Rattle.std.proofs.Common.{◌≡◌, true, List, map, ap, arith, ◌∙◌, rules}
use Rattle.std.specs.Prelude.{nat_le}
use Rattle.std.specs.List.{list_all}
use Rattle.std.proofs.lemmas.Bool.Decides.{nat_tests}
use Rattle.pool_law.specs.LaneStates.{counts}
use Rattle.lane_reader.specs.declared.view.Range.{Range}
use Rattle.lane_reader.specs.Viewing.{part_of}
use Rattle.lane_reader.proofs.lane.Lane.is_usable.Goals as goal

pub returns-then-composite-ge1 : goal.returns-then-composite-ge1
returns-then-composite-ge1 c s is =
    let composite = c.in-Composed.composite in
    let some : nat_le 1 composite.count ≡ true = grind (arith, nat_tests) in
    let same : c.deref.result.now ≡ composite.parts.items = search rules in
    rw (c.in-Composed.is, some)
    (c.counts_all.ensures s is ∙ ap (λ (ps : List Range). list_all (λ p. counts s p.root) (map part_of ps)) same)
