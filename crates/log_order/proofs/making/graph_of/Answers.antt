use Rattle.std.proofs.Common.{◌≡◌, [], Some, sym, ap, subst, ◌∙◌}
use Rattle.std.specs.Prelude.{slice_get}
use Rattle.log_order.specs.Spots.{notes_in}
use Rattle.log_order.specs.Filling.{ArePlaced}
use Rattle.log_order.proofs.FillLemmas.{none-placed}
use Rattle.log_order.proofs.making.graph_of.Goals as goal

pub loop-lane-init : goal.loop-lane-init
loop-lane-init c =
    let logs = notes_in c.args.logs.now in
    let e = c.new-graph.ensures in
    record {
      graph = e.graph logs;
      placed = subst (λ z. ArePlaced logs z 0 0) (sym e.spots) (none-placed logs);
      listed = λ node s n at is.
          let none : slice_get [] node ≡ Some s = ap (λ z. slice_get z node) (sym e.spots) ∙ at in
          absurd (cc none);
    }
