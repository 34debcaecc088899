use Rattle.std.proofs.Common.{◌≡◌, ◌<◌, ℕ, ◌+◌, List, length, map, set, refl, sym, ap, ◌∙◌, subst, arith, Some, None, length-set}
use Rattle.std.specs.Prelude.{◌==◌, is_some, slice_get}
use Rattle.std.proofs.lemmas.Option.{slice_get_read}
use Rattle.counted_view.specs.declared.calls.NestCall.TheVariants.{Release}
use Rattle.counted_view.specs.declared.rows.Row.{Row}
use Rattle.counted_view.specs.Nests.{NestState, NestedView, live_from, live_slices, held_view, after_call, root_counts, release_no, if_held}
use Rattle.counted_view.specs.Rows.{shown, live_rows, owed}
use Rattle.counted_view.proofs.RootLaws.{AreOf-set, AreOf-shown}
use Rattle.counted_view.proofs.RowLaws.{one, live-held, live_rows-set}
use Rattle.counted_view.proofs.ClimbLaws.{root_sum-less}
use Rattle.counted_view.proofs.LiveLaws.{root_counts-rows, live_from-rows}
use Rattle.counted_view.proofs.TreeLaws.{nest_of, held_once_less, let_held, let_within, views-released, IsOwing-released}
use Rattle.pool_law.proofs.ListLemmas.{slice_get-set_same}
use Rattle.counted_view.proofs.view_tree.ViewTree.let_go.Goals as goal

pub climb-climbed-requires : goal.climb-climbed-requires
climb-climbed-requires c =
    let rows : List Row = c.self.inside.rows.items in let v = c.args.number in let x : Row = c.index_mut.result.now in
    let may : release_no (if_held (slice_get (map shown rows) v))
    ≡ None = subst (λ (s : NestState). release_no (held_view s v) ≡ None) (sym c.self.view_is) c.requires in
    let at : slice_get rows v ≡ Some x = slice_get_read rows (length rows) v x refl (let_within rows v may)
    c.index_mut.ensures.value in
    let known = c.self.invariant in
    IsOwing-released rows v x known.counted at (let_held rows v x at may) (omega (arith, known.few, known.bound))

pub invariant_of-self : goal.invariant_of-self
invariant_of-self c =
    let rows : List Row = c.self.inside.rows.items in let v = c.args.number in let x : Row = c.index_mut.result.now in
    let may : release_no (if_held (slice_get (map shown rows) v))
    ≡ None = subst (λ (s : NestState). release_no (held_view s v) ≡ None) (sym c.self.view_is) c.requires in
    let at : slice_get rows v ≡ Some x = slice_get_read rows (length rows) v x refl (let_within rows v may)
    c.index_mut.ensures.value in
    let root = c.self.inside.root in let known = c.self.invariant in let made = c.climb-climbed.ensures in
    let size = length-set rows v (held_once_less x) in
    record {
      counted = made.counted;
      roots =
          AreOf-shown root (set rows v (held_once_less x)) c.climb-climbed.new.rows.items made.climbed.shown_is
          (AreOf-set root rows v x (held_once_less x) known.roots at refl);
      some = omega (arith, known.some, made.len, size);
      bound = known.bound;
      few = omega (arith, known.few, made.len, size);
      room = omega (arith, known.room, made.room);
    }

pub returns-clause-state : goal.returns-clause-state
returns-clause-state c =
    let rows : List Row = c.self.inside.rows.items in let v = c.args.number in let x : Row = c.index_mut.result.now in
    let may : release_no (if_held (slice_get (map shown rows) v))
    ≡ None = subst (λ (s : NestState). release_no (held_view s v) ≡ None) (sym c.self.view_is) c.requires in
    let at : slice_get rows v ≡ Some x = slice_get_read rows (length rows) v x refl (let_within rows v may)
    c.index_mut.ensures.value in
    ap (λ (vs : List NestedView). nest_of c.self.inside.root c.self.inside.bound vs)
    (c.climb-climbed.ensures.climbed.shown_is ∙ views-released rows v x at)
    ∙ ap (λ (s : NestState). after_call s (Release v)) c.self.view_is

pub returns-clause-ended : goal.returns-clause-ended
returns-clause-ended c =
    let rows : List Row = c.self.inside.rows.items in let v = c.args.number in let x : Row = c.index_mut.result.now in
    let may : release_no (if_held (slice_get (map shown rows) v))
    ≡ None = subst (λ (s : NestState). release_no (held_view s v) ≡ None) (sym c.self.view_is) c.requires in
    let within : v < length rows = let_within rows v may in
    let at : slice_get rows v ≡ Some x = slice_get_read rows (length rows) v x refl within c.index_mut.ensures.value in
    let y : Row = held_once_less x in
    let new : List Row = c.climb-climbed.new.rows.items in
    let made = c.climb-climbed.ensures in
    let now : live_from is_some 0 (map shown new) ≡ live_rows is_some new = live_from-rows new is_some made.counted in
    let was : live_from is_some 0 (map shown rows)
    ≡ live_rows is_some rows = live_from-rows rows is_some c.self.invariant.counted in
    let first : live_rows is_some (set rows v y) + owed is_some (slice_get (set rows v y) v) ≡ live_rows is_some rows =
    ap (λ o. live_rows is_some (set rows v y) + owed is_some o) (slice_get-set_same rows v y within)
    ∙ live_rows-set is_some rows v x y at (live-held x (let_held rows v x at may)) refl in
    let climbed = made.climbed.slices in
    let counts : c.climb-climbed.result.ended + live_from is_some 0 (map shown new)
    ≡ live_from is_some 0 (map shown rows) =
    omega (arith, climbed, first, now, was, made.done) in
    counts ∙ ap live_slices c.self.view_is

pub returns-clause-root : goal.returns-clause-root
returns-clause-root c =
    let rows : List Row = c.self.inside.rows.items in let v = c.args.number in let x : Row = c.index_mut.result.now in
    let may : release_no (if_held (slice_get (map shown rows) v))
    ≡ None = subst (λ (s : NestState). release_no (held_view s v) ≡ None) (sym c.self.view_is) c.requires in
    let at : slice_get rows v ≡ Some x = slice_get_read rows (length rows) v x refl (let_within rows v may)
    c.index_mut.ensures.value in
    let held : 0 < x.holds = let_held rows v x at may in
    let new : List Row = c.climb-climbed.new.rows.items in
    let made = c.climb-climbed.ensures in
    ap (λ (k : ℕ). k + one (c.climb-climbed.result.top == 0))
    (root_counts-rows c.self.inside.root c.self.inside.bound new made.counted)
    ∙ made.climbed.root
    ∙ root_sum-less rows v x (held_once_less x) at (omega (arith, held))
    ∙ sym (root_counts-rows c.self.inside.root c.self.inside.bound rows c.self.invariant.counted)
    ∙ ap root_counts c.self.view_is
