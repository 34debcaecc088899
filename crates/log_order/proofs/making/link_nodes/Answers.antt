use Rattle.std.proofs.Common.{rules, ⊎_elim, ◌≡◌, length, sym, subst, arith}
use Rattle.topo_order.proofs.Walks.{below-or}
use Rattle.log_order.specs.Spots.{notes_in}
use Rattle.log_order.specs.Filling.{IsFilled, Links}
use Rattle.log_order.proofs.SpotLemmas.{as-many}
use Rattle.log_order.proofs.LinkLemmas.{grows-on, links-on, is-whole}
use Rattle.log_order.proofs.making.link_nodes.Goals as goal

pub loop-node-preserved : goal.loop-node-preserved
loop-node-preserved c =
    let logs = notes_in c.args.logs.now in
    let mid = c.loop-node.graph in
    let new = c.link_node.new.graph in
    let i = c.loop-node.invariant in
    let e = c.in_ok-link_node.ensures in
    grows-on logs c.args.graph.now mid new _ _ _ i e
    (λ node low first. ⊎_elim
    (λ old. links-on logs mid new _ first node e (i.holds node old first))
    (λ same. subst (λ z. Links logs new first z) (sym same) (e.holds first))
    (below-or node c.loop-node.node low))

pub returns : goal.returns
returns c =
    let logs = notes_in c.args.logs.now in
    let old = c.args.graph.now in
    let i = c.loop-node.invariant in
    let size : c.len-node-end.result ≡ length old.spots.items = search rules in
    let filled = subst (λ z. IsFilled logs old c.args.index.now z 0) (sym (as-many c.args.logs.now)) c.requires in
    is-whole logs old c.loop-node.graph c.args.index.now filled
    (record {
      graph = i.graph;
      spots = i.spots;
      keeps = i.keeps;
      holds = λ node low first. i.holds node (omega (arith, low, size, c.loop-node-test.false)) first;
    })
