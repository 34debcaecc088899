use Rattle.std.proofs.Common.{◌≡◌, ◌-◌, subst, arith}
use Rattle.log_order.specs.Spots.{notes_in}
use Rattle.log_order.specs.Filling.{Links}
use Rattle.log_order.proofs.making.link_last.Goals as goal

pub returns : goal.returns
returns c =
    let e = c.in_ok-link.ensures in
    record {
      graph = e.graph;
      spots = e.spots;
      keeps = e.keeps;
      holds = λ first next.
          let same : c.args.node - 1 ≡ first = omega (arith, next) in
          subst (λ z. Links (notes_in c.args.logs.now) c.link.new.self z c.args.node) same e.holds;
    }
