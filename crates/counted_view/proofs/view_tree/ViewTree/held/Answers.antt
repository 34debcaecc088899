use Rattle.std.proofs.Common.{◌≡◌, ◌<◌, List, length, refl, ap, ◌∙◌, subst, arith, Some}
use Rattle.std.specs.Prelude.{slice_get}
use Rattle.std.proofs.lemmas.Option.{slice_get_read}
use Rattle.pool_law.specs.Views.{LiesIn}
use Rattle.counted_view.specs.declared.rows.Row.{Row}
use Rattle.counted_view.specs.Nests.{NestState, root_counts}
use Rattle.counted_view.proofs.RootLaws.{counts_at}
use Rattle.counted_view.proofs.view_tree.ViewTree.held.Goals as goal

pub returns-clause-counts : goal.returns-clause-counts
returns-clause-counts c =
    let x : Row = c.in-Some.row.now in let v = c.args.number in let seen : List Row = c.deref.result.now in
    let found = c.in-Some.ensures.lookup in
    let there : slice_get seen v ≡ Some x = slice_get_read seen (length seen) v x refl found.3.0 found.1 in
    let at = subst (λ (rows : List Row). slice_get rows v ≡ Some x) c.deref.ensures.value there in
    subst (λ (s : NestState). 0 < root_counts s) c.self.view_is
    (counts_at c.self.inside.root c.self.inside.bound c.self.inside.rows.items v x c.self.invariant.counted at
    (omega (arith, c.if-row-eq0.false)))

pub returns-clause-root : goal.returns-clause-root
returns-clause-root c =
    let x : Row = c.in-Some.row.now in let v = c.args.number in let seen : List Row = c.deref.result.now in
    let found = c.in-Some.ensures.lookup in
    let there : slice_get seen v ≡ Some x = slice_get_read seen (length seen) v x refl found.3.0 found.1 in
    let at = subst (λ (rows : List Row). slice_get rows v ≡ Some x) c.deref.ensures.value there in
    (c.self.invariant.roots v x at).root_is ∙ ap (λ (s : NestState). s.root) c.self.view_is

pub returns-clause-inside : goal.returns-clause-inside
returns-clause-inside c =
    let x : Row = c.in-Some.row.now in let v = c.args.number in let seen : List Row = c.deref.result.now in
    let found = c.in-Some.ensures.lookup in
    let there : slice_get seen v ≡ Some x = slice_get_read seen (length seen) v x refl found.3.0 found.1 in
    let at = subst (λ (rows : List Row). slice_get rows v ≡ Some x) c.deref.ensures.value there in
    subst (λ (s : NestState). LiesIn s.root.capacity x.view.at) c.self.view_is (c.self.invariant.roots v x at).inside
