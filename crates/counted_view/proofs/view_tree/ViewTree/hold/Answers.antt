use Rattle.std.proofs.Common.{◌≡◌, ◌<◌, ◌≤◌, ℕ, ◌+◌, List, length, map, set, refl, sym, ap, ◌∙◌, subst, arith, Some, None, length-set}
use Rattle.std.specs.Prelude.{◌==◌, slice_get}
use Rattle.std.proofs.lemmas.Option.{slice_get_read}
use Rattle.counted_view.specs.declared.calls.NestCall.TheVariants.{Retain}
use Rattle.counted_view.specs.declared.rows.Row.{Row}
use Rattle.counted_view.specs.Nests.{NestState, NestedView, held_view, after_call, root_counts, retain_no, if_held}
use Rattle.counted_view.specs.Rows.{shown, AreCounted}
use Rattle.counted_view.proofs.RootLaws.{AreOf-set}
use Rattle.counted_view.proofs.RowLaws.{one}
use Rattle.counted_view.proofs.ClimbLaws.{root_sum-more}
use Rattle.counted_view.proofs.LiveLaws.{root_counts-rows}
use Rattle.counted_view.proofs.TreeLaws.{nest_of, held_once_more, let_held, let_within, let_if_retained, few_if_retained, views-retained, AreCounted-retained}
use Rattle.counted_view.proofs.view_tree.ViewTree.hold.Goals as goal

counted : goal.invariant_of-self
counted c =
    let rows : List Row = c.self.inside.rows.items in let v = c.args.number in let x : Row = c.index_mut.result.now in
    let may : retain_no (if_held (slice_get (map shown rows) v))
    ≡ None = subst (λ (s : NestState). retain_no (held_view s v) ≡ None) (sym c.self.view_is) c.requires in
    let lets = let_if_retained _ may in
    let at : slice_get rows v ≡ Some x = slice_get_read rows (length rows) v x refl (let_within rows v lets)
    c.index_mut.ensures.value in
    let held : 0 < x.holds = let_held rows v x at lets in
    let holds : x.holds ≤ 65535 = (c.self.invariant.counted v x at).holds in
    let few : x.holds < 65535 = omega (arith, few_if_retained rows v x at held may) in
    let known = c.self.invariant in
    record {
      counted = AreCounted-retained rows v x known.counted at held few (omega (arith, known.few, known.bound));
      roots = AreOf-set c.self.inside.root rows v x (held_once_more x) known.roots at refl;
      some = omega (arith, known.some, length-set rows v (held_once_more x));
      bound = known.bound;
      few = omega (arith, known.few, length-set rows v (held_once_more x));
      room = known.room;
    }

pub invariant_of-self : goal.invariant_of-self
invariant_of-self c = counted c

pub returns-clause-state : goal.returns-clause-state
returns-clause-state c =
    let rows : List Row = c.self.inside.rows.items in let v = c.args.number in let x : Row = c.index_mut.result.now in
    let may : retain_no (if_held (slice_get (map shown rows) v))
    ≡ None = subst (λ (s : NestState). retain_no (held_view s v) ≡ None) (sym c.self.view_is) c.requires in
    let at : slice_get rows v ≡ Some x = slice_get_read rows (length rows) v x refl
    (let_within rows v (let_if_retained _ may)) c.index_mut.ensures.value in
    ap (λ (vs : List NestedView). nest_of c.self.inside.root c.self.inside.bound vs) (views-retained rows v x at)
    ∙ ap (λ (s : NestState). after_call s (Retain v)) c.self.view_is

pub returns-clause-root : goal.returns-clause-root
returns-clause-root c =
    let rows : List Row = c.self.inside.rows.items in let v = c.args.number in let x : Row = c.index_mut.result.now in
    let may : retain_no (if_held (slice_get (map shown rows) v))
    ≡ None = subst (λ (s : NestState). retain_no (held_view s v) ≡ None) (sym c.self.view_is) c.requires in
    let at : slice_get rows v ≡ Some x = slice_get_read rows (length rows) v x refl
    (let_within rows v (let_if_retained _ may)) c.index_mut.ensures.value in
    let now : AreCounted (set rows v (held_once_more x)) = (counted c).counted in
    root_counts-rows c.self.inside.root c.self.inside.bound (set rows v (held_once_more x)) now
    ∙ root_sum-more rows v x (held_once_more x) at (omega arith)
    ∙ ap (λ (k : ℕ). k + one (v == 0))
    (sym (root_counts-rows c.self.inside.root c.self.inside.bound rows c.self.invariant.counted)
    ∙ ap root_counts c.self.view_is)
