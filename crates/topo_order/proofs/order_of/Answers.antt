use Rattle.std.proofs.Common.{◌≡◌, Option, drop, ℕ, ◌-◌, ◌<◌, [], ◌∷◌, ◌++◌, length, set, Some, ⊎_elim, refl, sym, ap, ◌∙◌, arith, subst}
use Rattle.std.specs.Prelude.{slice_get, MatchOption}
use Rattle.topo_order.specs.Sorting.{IsOrder, IsCircle}
use Rattle.topo_order.specs.Walking.{IsVisited, IsMarked}
use Rattle.topo_order.specs.declared.walk.Mark.TheVariants.{New, Open, Done}
use Rattle.topo_order.proofs.Walks.{is-order, below-or}
use Rattle.topo_order.proofs.order_of.Goals as goal

pub loop-node-init : goal.loop-node-init
loop-node-init c =
    let e = c.in_ok-walk.ensures in
    (e.stands, e.path, λ v low at. absurd (omega arith))

pub loop-node-preserved : goal.loop-node-preserved
loop-node-preserved c =
    let i = c.loop-node.invariant in
    let w = c.visit.new.self in
    let P : Option ℕ → Type 0 = λ z. MatchOption z (IsVisited c.args.needs.now c.loop-node.node c.loop-node.walk w)
    (λ d. IsCircle c.args.needs.now (drop d w.path.items)) in
    let v = subst P c.in-None.is c.in_ok-depth.ensures in (
      v.stands,
      v.path,
      λ u low at. ⊎_elim (λ old. i.2 u old (v.keeps u at))
          (λ same. v.seen (subst (λ z. IsMarked w.marks.items z New) same at)) (below-or u c.loop-node.node low),
    )

pub returns : goal.returns
returns c =
    let i = c.loop-node.invariant in
    let w = c.loop-node.walk in
    let order : IsOrder c.args.needs.now w.order.items =
    is-order c.args.needs.now w.marks.items w.path.items w.order.items i.0 i.1
    (λ node low. i.2 node (omega (arith, low, c.loop-node-test.false))) in
    subst (IsOrder c.args.needs.now) (sym c.into_order.ensures) order
