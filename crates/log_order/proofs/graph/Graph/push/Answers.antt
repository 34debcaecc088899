use Rattle.std.proofs.Common.{[], ◌∷◌, ◌++◌, sym, subst}
use Rattle.log_order.specs.Graphs.{AreNodesOf}
use Rattle.log_order.proofs.GraphLemmas.{pushes}
use Rattle.log_order.proofs.graph.Graph.push.Goals as goal

pub returns : goal.returns
returns c =
    let old = c.args.self.now in
    record {
      graph = λ logs is.
          let more = pushes logs old.spots.items old.needs.items c.args.spot c.new.result is c.new.ensures.items in
          subst (λ z. AreNodesOf logs z c.push-2.new.self.items) (sym c.in_ok-push.ensures.items)
          (subst (AreNodesOf logs (old.spots.items ++ c.args.spot ∷ [])) (sym c.in_ok-push-2.ensures.items) more);
      spots = c.in_ok-push.ensures.items;
    }
