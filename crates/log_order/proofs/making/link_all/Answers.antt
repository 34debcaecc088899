use Rattle.std.proofs.Common.{⊎_elim, sym, ap, ◌∙◌, subst, arith}
use Rattle.std.specs.Prelude.{slice_get}
use Rattle.std.proofs.lemmas.Option.{slice_get_within, get_or_from_slice_get}
use Rattle.topo_order.proofs.Walks.{below-or}
use Rattle.log_order.specs.Spots.{notes_in}
use Rattle.log_order.specs.Filling.{Links}
use Rattle.log_order.proofs.LinkLemmas.{grows-on, links-on}
use Rattle.log_order.proofs.making.link_all.Goals as goal

pub loop-first-preserved : goal.loop-first-preserved
loop-first-preserved c =
    let logs = notes_in c.args.logs.now in
    let mid = c.loop-first.graph in
    let new = c.link.new.self in
    let i = c.loop-first.invariant in
    let e = c.in_ok-link.ensures in
    grows-on logs c.args.graph.now mid new _ _ _ i e
    (λ k f low at. ⊎_elim
    (λ old. links-on logs mid new _ f c.args.node e (i.holds k f old at))
    (λ same. subst (λ z. Links logs new z c.args.node)
    (get_or_from_slice_get c.args.firsts.now c.loop-first.first-index f _
    (ap (slice_get c.args.firsts.now) (sym same) ∙ at))
    e.holds)
    (below-or k c.loop-first.first-index low))

pub returns : goal.returns
returns c =
    let i = c.loop-first.invariant in
    record {
      graph = i.graph;
      spots = i.spots;
      keeps = i.keeps;
      holds = λ k f at.
          i.holds k f (omega (arith, slice_get_within c.args.firsts.now k f at, c.loop-first-test.false)) at;
    }
