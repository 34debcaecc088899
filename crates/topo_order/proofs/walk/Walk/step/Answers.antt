use Rattle.std.proofs.Common.{rules, suc, ◌≡◌, ℕ, ◌-◌, ◌+◌, ◌<◌, [], ◌∷◌, ◌++◌, length, set, take, Some, sym, ap, ◌∙◌, arith, subst}
use Rattle.std.proofs.lemmas.Option.{same_Some}
use Rattle.std.specs.Prelude.{slice_get, vec_len}
use Rattle.topo_order.specs.Sorting.{MustPrecede}
use Rattle.topo_order.specs.Walking.{IsWalk, IsMarked, left_of}
use Rattle.topo_order.specs.declared.walk.Mark.{Mark}
use Rattle.topo_order.specs.declared.walk.Mark.TheVariants.{New, Open, Done}
use Rattle.topo_order.proofs.Lists.{within, item}
use Rattle.topo_order.proofs.Circles.{path-closes}
use Rattle.topo_order.proofs.Walks.{at-end, closes, opens, advances, leaves-less, kept-new, some-left, next-is, next-must}
use Rattle.topo_order.proofs.walk.Walk.step.Goals as goal

pub returns-then-tried-len : goal.returns-then-tried-len
returns-then-tried-len c =
    let w = c.args.self.now in
    let g = c.args.graph.now in
    let node = c.last-node.result in
    let needs = c.index-graph-node.result in
    let d = c.in-Open.depth in
    let t = c.in-Open.tried in
    let size : vec_len needs ≡ length needs.items = search rules in
    let a = at-end g w.marks.items w.path.items w.order.items node c.mark_of.result d t
    needs c.requires.stands c.requires.some c.last-node.ensures c.mark_of.ensures c.in-Open.is c.index-graph-node.is in
    let all : t ≡ length needs.items = c.if-tried-len.true ∙ c.len.ensures ∙ size in
    let e = c.in_ok-close.ensures in
    let v = c.close.new.self in
    let marks : v.marks.items ≡ set w.marks.items node (Done (length w.order.items)) = e.marks in
    record {
      stands =
          subst (λ z. IsWalk g z v.path.items v.order.items) (sym marks)
          (subst (λ z. IsWalk g (set w.marks.items node (Done (length w.order.items))) z v.order.items) (sym e.path)
          (subst (λ z. IsWalk g (set w.marks.items node (Done (length w.order.items)))
          (take (length w.path.items - 1) w.path.items) z) (sym e.order)
          (closes g w.marks.items w.path.items w.order.items node d t needs a.walk a.is a.last a.has all)));
      less = subst (λ z. left_of z g < left_of w.marks.items g) (sym marks)
          (leaves-less g w.marks.items node (Open d t) (Done (length w.order.items)) needs a.is a.has
          (omega (arith, all)));
      keeps = λ u at. kept-new w.marks.items node u (Done (length w.order.items)) (λ x. cc)
          (subst (λ z. IsMarked z u New) marks at);
    }

pub index-next-requires : goal.index-next-requires
index-next-requires c =
    let w = c.args.self.now in
    let g = c.args.graph.now in
    let node = c.last-node.result in
    let needs = c.index-graph-node.result in
    let d = c.in-Open.depth in
    let t = c.in-Open.tried in
    let size : vec_len needs ≡ length needs.items = search rules in
    let a = at-end g w.marks.items w.path.items w.order.items node c.mark_of.result d t
    needs c.requires.stands c.requires.some c.last-node.ensures c.mark_of.ensures c.in-Open.is c.index-graph-node.is in
    let other : t ≡ length needs.items → ⊥ = λ e. c.if-tried-len.false (e ∙ sym size ∙ sym c.len.ensures) in
    omega (arith, size, some-left g w.marks.items w.path.items w.order.items node d t node needs a other)

pub mark_of-requires-2 : goal.mark_of-requires-2
mark_of-requires-2 c =
    let w = c.args.self.now in
    let g = c.args.graph.now in
    let node = c.last-node.result in
    let needs = c.index-graph-node.result in
    let d = c.in-Open.depth in
    let t = c.in-Open.tried in
    let size : vec_len needs ≡ length needs.items = search rules in
    let a = at-end g w.marks.items w.path.items w.order.items node c.mark_of.result d t
    needs c.requires.stands c.requires.some c.last-node.ensures c.mark_of.ensures c.in-Open.is c.index-graph-node.is in
    let other : t ≡ length needs.items → ⊥ = λ e. c.if-tried-len.false (e ∙ sym size ∙ sym c.len.ensures) in
    let next = c.index-next.result.now in
    let must = next-must g w.marks.items w.path.items w.order.items node d t next needs a other c.index-next.ensures in
    omega (arith, c.requires.nodes next node must, a.walk.as_many)

pub open-requires : goal.open-requires
open-requires c =
    let w = c.args.self.now in
    let g = c.args.graph.now in
    let node = c.last-node.result in
    let needs = c.index-graph-node.result in
    let d = c.in-Open.depth in
    let t = c.in-Open.tried in
    let size : vec_len needs ≡ length needs.items = search rules in
    let a = at-end g w.marks.items w.path.items w.order.items node c.mark_of.result d t
    needs c.requires.stands c.requires.some c.last-node.ensures c.mark_of.ensures c.in-Open.is c.index-graph-node.is in
    let other : t ≡ length needs.items → ⊥ = λ e. c.if-tried-len.false (e ∙ sym size ∙ sym c.len.ensures) in
    let next = c.index-next.result.now in
    let must = next-must g w.marks.items w.path.items w.order.items node d t next needs a other c.index-next.ensures in
    omega (arith, c.requires.nodes next node must, a.walk.as_many)

pub returns-in-Open-mark_of : goal.returns-in-Open-mark_of
returns-in-Open-mark_of c =
    let w = c.args.self.now in
    let g = c.args.graph.now in
    let node = c.last-node.result in
    let needs = c.index-graph-node.result in
    let d = c.in-Open.depth in
    let t = c.in-Open.tried in
    let size : vec_len needs ≡ length needs.items = search rules in
    let a = at-end g w.marks.items w.path.items w.order.items node c.mark_of.result d t
    needs c.requires.stands c.requires.some c.last-node.ensures c.mark_of.ensures c.in-Open.is c.index-graph-node.is in
    let other : t ≡ length needs.items → ⊥ = λ e. c.if-tried-len.false (e ∙ sym size ∙ sym c.len.ensures) in
    let next = c.index-next.result.now in
    let must = next-must g w.marks.items w.path.items w.order.items node d t next needs a other c.index-next.ensures in
    path-closes g w.marks.items w.path.items w.order.items node next c.in-Open-mark_of.depth c.in-Open-mark_of.tried
    a.walk (c.mark_of-2.ensures ∙ ap Some c.in-Open-mark_of.is) c.last-node.ensures must

pub overflow_add-tried : goal.overflow_add-tried
overflow_add-tried c =
    let w = c.args.self.now in
    let g = c.args.graph.now in
    let node = c.last-node.result in
    let needs = c.index-graph-node.result in
    let d = c.in-Open.depth in
    let t = c.in-Open.tried in
    let size : vec_len needs ≡ length needs.items = search rules in
    let a = at-end g w.marks.items w.path.items w.order.items node c.mark_of.result d t
    needs c.requires.stands c.requires.some c.last-node.ensures c.mark_of.ensures c.in-Open.is c.index-graph-node.is in
    let other : t ≡ length needs.items → ⊥ = λ e. c.if-tried-len.false (e ∙ sym size ∙ sym c.len.ensures) in
    let low = some-left g w.marks.items w.path.items w.order.items node d t node needs a other in
    search (rules, low, size)

pub index_mut-requires : goal.index_mut-requires
index_mut-requires c =
    let w = c.args.self.now in
    let g = c.args.graph.now in
    let node = c.last-node.result in
    let needs = c.index-graph-node.result in
    let d = c.in-Open.depth in
    let t = c.in-Open.tried in
    let size : vec_len needs ≡ length needs.items = search rules in
    let a = at-end g w.marks.items w.path.items w.order.items node c.mark_of.result d t
    needs c.requires.stands c.requires.some c.last-node.ensures c.mark_of.ensures c.in-Open.is c.index-graph-node.is in
    let marks : vec_len w.marks ≡ length w.marks.items = search rules in
    omega (arith, within w.marks.items node (Open d t) a.is, marks)

pub returns-in_ok-open-in-New : goal.returns-in_ok-open-in-New
returns-in_ok-open-in-New c =
    let w = c.args.self.now in
    let g = c.args.graph.now in
    let node = c.last-node.result in
    let needs = c.index-graph-node.result in
    let d = c.in-Open.depth in
    let t = c.in-Open.tried in
    let size : vec_len needs ≡ length needs.items = search rules in
    let a = at-end g w.marks.items w.path.items w.order.items node c.mark_of.result d t
    needs c.requires.stands c.requires.some c.last-node.ensures c.mark_of.ensures c.in-Open.is c.index-graph-node.is in
    let other : t ≡ length needs.items → ⊥ = λ e. c.if-tried-len.false (e ∙ sym size ∙ sym c.len.ensures) in
    let next = c.index-next.result.now in
    let must = next-must g w.marks.items w.path.items w.order.items node d t next needs a other c.index-next.ensures in
    let e = c.in_ok-open-in-New.ensures in
    let v = c.open.new.self in
    let new : IsMarked w.marks.items next New = c.mark_of-2.ensures ∙ ap Some c.in-New.is in
    let mark : Mark = Open (length w.path.items) 0 in
    let marks : v.marks.items ≡ set w.marks.items next mark = e.marks in
    let link : (k last : ℕ) → slice_get w.path.items k ≡ Some last → suc k ≡ length w.path.items
    → MustPrecede g next last =
    λ k last at end.
    let place : k ≡ length w.path.items - 1 = omega (arith, end) in
    let same : node ≡ last =
    same_Some _ _ (sym c.last-node.ensures ∙ ap (slice_get w.path.items) (sym place) ∙ at) in
    subst (λ z. MustPrecede g next z) same must in
    let there = item g next (c.requires.nodes next node must) in
    record {
      stands =
          subst (λ z. IsWalk g z v.path.items v.order.items) (sym marks)
          (subst (λ z. IsWalk g (set w.marks.items next mark) z v.order.items) (sym e.path)
          (subst (λ z. IsWalk g (set w.marks.items next mark) (w.path.items ++ next ∷ []) z) (sym e.order)
          (opens g w.marks.items w.path.items w.order.items next a.walk new link)));
      less = subst (λ z. left_of z g < left_of w.marks.items g) (sym marks)
          (leaves-less g w.marks.items next New mark there.0 new there.1
          (omega arith));
      keeps = λ u at. kept-new w.marks.items next u mark (λ x. cc)
          (subst (λ z. IsMarked z u New) marks at);
    }

pub returns-in-Done : goal.returns-in-Done
returns-in-Done c =
    let w = c.args.self.now in
    let g = c.args.graph.now in
    let node = c.last-node.result in
    let needs = c.index-graph-node.result in
    let d = c.in-Open.depth in
    let t = c.in-Open.tried in
    let size : vec_len needs ≡ length needs.items = search rules in
    let a = at-end g w.marks.items w.path.items w.order.items node c.mark_of.result d t
    needs c.requires.stands c.requires.some c.last-node.ensures c.mark_of.ensures c.in-Open.is c.index-graph-node.is in
    let other : t ≡ length needs.items → ⊥ = λ e. c.if-tried-len.false (e ∙ sym size ∙ sym c.len.ensures) in
    let next = c.index-next.result.now in
    let must = next-must g w.marks.items w.path.items w.order.items node d t next needs a other c.index-next.ensures in
    let done : IsMarked w.marks.items next (Done c.in-Done.field-0) = c.mark_of-2.ensures ∙ ap Some c.in-Done.is in
    let mark : Mark = Open d (t + 1) in
    record {
      stands =
          advances g w.marks.items w.path.items w.order.items node d t c.in-Done.field-0 next needs a.walk a.is a.has
          (next-is g w.marks.items w.path.items w.order.items node d t next needs a other c.index-next.ensures) done;
      less = leaves-less g w.marks.items node (Open d t) mark needs a.is a.has
          (omega (arith, some-left g w.marks.items w.path.items w.order.items node d t node needs a other));
      keeps = λ u at. kept-new w.marks.items node u mark (λ x. cc) at;
    }
