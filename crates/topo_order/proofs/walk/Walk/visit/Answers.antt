use Rattle.std.proofs.Common.{rules, ◌≡◌, true, Option, drop, eqb-true, ℕ, zero, ◌-◌, ◌<◌, [], ◌∷◌, ◌++◌, length, set, Some, refl, sym, ap, ◌∙◌, arith, subst}
use Rattle.std.specs.Prelude.{slice_get, vec_len, MatchOption}
use Rattle.topo_order.specs.Sorting.{Graph, IsCircle}
use Rattle.topo_order.specs.Walking.{IsWalk, IsMarked, IsFurther}
use Rattle.topo_order.specs.declared.walk.Mark.{Mark}
use Rattle.topo_order.specs.declared.walk.Mark.TheVariants.{New, Open, Done}
use Rattle.topo_order.proofs.Lists.{within, nothing}
use Rattle.topo_order.proofs.Walks.{opens, kept-new, not-new}
use Rattle.topo_order.proofs.walk.Walk.visit.Goals as goal

pub loop-self-init : goal.loop-self-init
loop-self-init c =
    let w = c.args.self.now in
    let g = c.args.graph.now in
    let node = c.args.node in
    let v = c.open.new.self in
    let e = c.in_ok-open-in-New.ensures in
    let mark : Mark = Open (length w.path.items) 0 in
    let marks : v.marks.items ≡ set w.marks.items node mark = e.marks in
    let new : IsMarked w.marks.items node New = c.mark_of.ensures ∙ ap Some c.in-New.is in
    let walk : IsWalk g (set w.marks.items node mark) (w.path.items ++ node ∷ []) w.order.items =
    opens g w.marks.items w.path.items w.order.items node c.requires.stands new
    (λ k last at end.
    absurd (let none : slice_get [] k ≡ Some last = ap (λ z. slice_get z k) (sym c.requires.path) ∙ at in cc none)) in (
      subst (λ z. IsWalk g z v.path.items v.order.items) (sym marks)
          (subst (λ z. IsWalk g (set w.marks.items node mark) z v.order.items) (sym e.path)
          (subst (λ z. IsWalk g (set w.marks.items node mark) (w.path.items ++ node ∷ []) z) (sym e.order) walk)),
      λ u at. kept-new w.marks.items node u mark (λ x. cc) (subst (λ z. IsMarked z u New) marks at),
      λ at. not-new w.marks.items node mark (within w.marks.items node New new) (λ x. cc)
          (subst (λ z. IsMarked z node New) marks at),
    )

pub loop-self-preserved : goal.loop-self-preserved
loop-self-preserved c =
    let i = c.loop-self.invariant in
    let w = c.step.new.self in
    let P : Option ℕ → Type 0 = λ z. MatchOption z (IsFurther c.args.graph.now c.loop-self.self w)
    (λ d. IsCircle c.args.graph.now (drop d w.path.items)) in
    let e = subst P c.in-None.is c.in_ok-depth.ensures in
    (e.stands, λ u at. i.1 u (e.keeps u at), λ at. i.2 (e.keeps c.args.node at))

pub loop-self-smaller : goal.loop-self-smaller
loop-self-smaller c =
    let w = c.step.new.self in
    let P : Option ℕ → Type 0 = λ z. MatchOption z (IsFurther c.args.graph.now c.loop-self.self w)
    (λ d. IsCircle c.args.graph.now (drop d w.path.items)) in
    let e = subst P c.in-None.is c.in_ok-depth.ensures in
    e.less

pub returns : goal.returns
returns c =
    let i = c.loop-self.invariant in
    let one : c.is_empty.result ≡ true = c.loop-self-test.false in
    let size : vec_len c.loop-self.self.path ≡ length c.loop-self.self.path.items = search rules in
    let zero_is : vec_len c.loop-self.self.path ≡ 0 = eqb-true _ _ (sym c.is_empty.ensures ∙ one) in
    record { stands = i.0; path = nothing _ (sym size ∙ zero_is); keeps = i.1; seen = i.2 }
