use Rattle.std.proofs.Common.{◌≡◌, ◌<◌, ℕ, ◌+◌, List, [], ◌∷◌, length, map, set, refl, sym, ap, ◌∙◌, subst, arith, Some, None, length-set, length-append, false}
use Rattle.std.specs.Prelude.{◌==◌, IfSome, slice_get}
use Rattle.std.proofs.lemmas.Option.{slice_get_read}
use Rattle.pool_law.specs.Views.{slice_of, LiesIn}
use Rattle.counted_view.specs.declared.calls.NestCall.TheVariants.{Slice}
use Rattle.byte_view.specs.declared.view.View.{View}
use Rattle.counted_view.specs.declared.rows.Row.{Row}
use Rattle.counted_view.specs.Nests.{NestState, NestedView, made_from, held_view, has_all, after_call, root_counts, release_no, if_held}
use Rattle.pool_law.specs.declared.id.RootId.{RootId}
use Rattle.pool_law.specs.declared.id.ViewData.{ViewData}
use Rattle.counted_view.specs.Rows.{shown, AreCounted, root_sum}
use Rattle.counted_view.specs.Trees.{AreOf, IsOf}
use Rattle.counted_view.proofs.RootLaws.{AreOf-set, AreOf-push}
use Rattle.counted_view.proofs.RowLaws.{one, live_rows-le-length}
use Rattle.counted_view.proofs.ClimbLaws.{root_sum-more}
use Rattle.counted_view.proofs.LiveLaws.{root_counts-rows}
use Rattle.counted_view.proofs.TreeLaws.{nest_of, with_live_part, let_if_held, let_held, let_within, if_held_at, room-sliced, AreCounted-sliced, root_sum-sliced, views-sliced}
use Rattle.counted_view.proofs.view_tree.ViewTree.add.Goals as goal

pub overflow_add-index_mut : goal.overflow_add-index_mut
overflow_add-index_mut c =
    let rows : List Row = c.self.inside.rows.items in let v = c.args.number in let x : Row = c.index_mut.result.now in
    let lets : release_no (if_held (slice_get (map shown rows) v))
    ≡ None =
    subst (λ (s : NestState). release_no (held_view s v) ≡ None) (sym c.self.view_is)
    (let_if_held _ c.requires.held) in
    let at : slice_get rows v ≡ Some x = slice_get_read rows (length rows) v x refl (let_within rows v lets)
    c.index_mut.ensures.value in
    let known = c.self.invariant in
    omega (arith, (known.counted v x at).live, live_rows-le-length (made_from v) rows, known.few, known.bound)

-- the row of a new slice
abbrev slice : ℕ → View → Row
slice v view = record { view = view; parent = Some v; holds = 1; live = 0 }

-- a part of a view is one of its root
part_root : (root : RootId) (rows : List Row) (v : ℕ) (x : Row) (view : View) (start len : ℕ)
    → slice_get rows v ≡ Some x → 0 < x.holds
    → IfSome (if_held (slice_get (map shown rows) v)) (λ (y : NestedView). view.at ≡ slice_of y.at start len)
    → LiesIn root.capacity view.at → AreOf root rows → IsOf root view.at
part_root root rows v x view start len at held part inside all =
    let is : view.at ≡ slice_of x.view.at start len =
    if_held_at rows v x (λ (y : NestedView). view.at ≡ slice_of y.at start len) at held part in
    record { root_is = ap (λ (a : ViewData). a.root) is ∙ (all v x at).root_is; inside = inside }

sliced : goal.invariant_of-self
sliced c =
    let rows : List Row = c.self.inside.rows.items in let v = c.args.number in let x : Row = c.index_mut.result.now in
    let lets : release_no (if_held (slice_get (map shown rows) v))
    ≡ None =
    subst (λ (s : NestState). release_no (held_view s v) ≡ None) (sym c.self.view_is)
    (let_if_held _ c.requires.held) in
    let at : slice_get rows v ≡ Some x = slice_get_read rows (length rows) v x refl (let_within rows v lets)
    c.index_mut.ensures.value in
    let room : has_all (nest_of c.self.inside.root c.self.inside.bound (map shown rows))
    ≡ false = subst (λ (s : NestState). has_all s ≡ false) (sym c.self.view_is) c.requires.room in
    let known = c.self.invariant in
    let items = c.push_reserved.ensures.items in
    let size : length c.push_reserved.new.self.items ≡ length rows + 1 = ap length items
    ∙ length-append (set rows v (with_live_part x)) (slice v c.args.view ∷ [])
    ∙ ap (λ (n : ℕ). n + 1) (length-set rows v (with_live_part x)) in
    record {
      counted =
          subst AreCounted (sym items) (AreCounted-sliced rows v x c.args.view known.counted at
          (let_held rows v x at lets));
      roots =
          subst (AreOf c.self.inside.root) (sym items)
          (AreOf-push c.self.inside.root (set rows v (with_live_part x)) (slice v c.args.view)
          (AreOf-set c.self.inside.root rows v x (with_live_part x) known.roots at refl)
          (part_root c.self.inside.root rows v x c.args.view c.args.start c.args.len at (let_held rows v x at lets)
          (subst (λ (s : NestState). IfSome (held_view s v)
          (λ (y : NestedView). c.args.view.at ≡ slice_of y.at c.args.start c.args.len)) (sym c.self.view_is)
          c.requires.part)
          (subst (λ (s : NestState). LiesIn s.root.capacity c.args.view.at) (sym c.self.view_is) c.requires.inside)
          known.roots));
      some = omega (arith, size);
      bound = known.bound;
      few = omega (arith, size, known.few, room-sliced c.self.inside.root c.self.inside.bound rows room);
      room = omega (arith, c.push_reserved.ensures.capacity, known.room);
    }

pub invariant_of-self : goal.invariant_of-self
invariant_of-self c = sliced c

pub returns-clause-state : goal.returns-clause-state
returns-clause-state c =
    let rows : List Row = c.self.inside.rows.items in let v = c.args.number in let x : Row = c.index_mut.result.now in
    let lets : release_no (if_held (slice_get (map shown rows) v))
    ≡ None =
    subst (λ (s : NestState). release_no (held_view s v) ≡ None) (sym c.self.view_is)
    (let_if_held _ c.requires.held) in
    let at : slice_get rows v ≡ Some x = slice_get_read rows (length rows) v x refl (let_within rows v lets)
    c.index_mut.ensures.value in
    let held : 0 < x.holds = let_held rows v x at lets in
    let part : c.args.view.at ≡ slice_of x.view.at c.args.start c.args.len =
    if_held_at rows v x (λ (y : NestedView). c.args.view.at ≡ slice_of y.at c.args.start c.args.len) at held
    (subst (λ (s : NestState). IfSome (held_view s v)
    (λ (y : NestedView). c.args.view.at ≡ slice_of y.at c.args.start c.args.len)) (sym c.self.view_is)
    c.requires.part) in
    ap (λ (vs : List NestedView). nest_of c.self.inside.root c.self.inside.bound vs)
    (ap (map shown) c.push_reserved.ensures.items
    ∙ views-sliced rows v x c.args.view c.self.invariant.counted at held c.args.start c.args.len part)
    ∙ ap (λ (s : NestState). after_call s (Slice v c.args.start c.args.len)) c.self.view_is

pub returns-clause-root : goal.returns-clause-root
returns-clause-root c =
    let rows : List Row = c.self.inside.rows.items in let v = c.args.number in let x : Row = c.index_mut.result.now in
    let lets : release_no (if_held (slice_get (map shown rows) v))
    ≡ None =
    subst (λ (s : NestState). release_no (held_view s v) ≡ None) (sym c.self.view_is)
    (let_if_held _ c.requires.held) in
    let at : slice_get rows v ≡ Some x = slice_get_read rows (length rows) v x refl (let_within rows v lets)
    c.index_mut.ensures.value in
    root_counts-rows c.self.inside.root c.self.inside.bound c.push_reserved.new.self.items (sliced c).counted
    ∙ ap (λ (rs : List Row). root_sum (slice_get rs 0)) c.push_reserved.ensures.items
    ∙ root_sum-sliced rows v x c.args.view c.self.invariant.counted at (let_held rows v x at lets)
    ∙ root_sum-more rows v x (with_live_part x) at (omega arith)
    ∙ ap (λ (k : ℕ). k + one (v == 0))
    (sym (root_counts-rows c.self.inside.root c.self.inside.bound rows c.self.invariant.counted)
    ∙ ap root_counts c.self.view_is)
