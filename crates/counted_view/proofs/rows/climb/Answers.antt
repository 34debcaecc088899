use Rattle.std.proofs.Common.{◌≡◌, ◌<◌, List, length, refl, sym, ◌∙◌, arith, Some, None, length-set}
use Rattle.std.specs.Prelude.{slice_get}
use Rattle.std.proofs.lemmas.Option.{slice_get_read, slice_get_within}
use Rattle.counted_view.specs.Rows.{ended_parent}
use Rattle.counted_view.specs.declared.rows.Row.{Row}
use Rattle.counted_view.proofs.ClimbLaws.{ended_below, lessened, IsOwing-step, HasClimbed-step, AreCounted-end, slices-end}
use Rattle.counted_view.proofs.rows.climb.Goals as goal

pub loop-parent-preserved : goal.loop-parent-preserved
loop-parent-preserved c =
    let rows : List Row = c.loop-parent.rows.items in let at = c.loop-parent.at in let p = c.in-Some.parent in
    let x : Row = c.index.result.now in let y : Row = c.index_mut.result.now in
    let kept = c.loop-parent.invariant in
    let within : at < length rows = slice_get_within rows at _ kept.owing.here in
    let here : slice_get rows at ≡ Some x = slice_get_read rows (length rows) at x refl within c.index.ensures in
    let ends : ended_parent x ≡ Some p = sym c.in-Some.ensures in
    let below : p < at = ended_below rows at p x kept.owing here ends in
    let there : slice_get rows p ≡ Some y = slice_get_read rows (length rows) p y refl (omega (arith, below, within))
    c.index_mut.ensures.value in
    record {
      owing = IsOwing-step rows at p x y kept.owing here ends there;
      climbed =
          HasClimbed-step rows at p x y kept.owing here ends there c.args.rows.now.items c.args.start
          c.loop-parent.ended kept.climbed;
      len = length-set rows p (lessened y) ∙ kept.len;
      room = kept.room;
    }

pub returns-clause-counted : goal.returns-clause-counted
returns-clause-counted c =
    let rows : List Row = c.loop-parent.rows.items in let at = c.loop-parent.at in let x : Row = c.index.result.now in
    let kept = c.loop-parent.invariant in
    let within : at < length rows = slice_get_within rows at _ kept.owing.here in
    let here : slice_get rows at ≡ Some x = slice_get_read rows (length rows) at x refl within c.index.ensures in
    let ends : ended_parent x ≡ None = sym c.parent_of_ended.ensures ∙ c.in_default.is in
    AreCounted-end rows at x kept.owing here ends

pub returns-clause-done : goal.returns-clause-done
returns-clause-done c =
    let rows : List Row = c.loop-parent.rows.items in let at = c.loop-parent.at in let x : Row = c.index.result.now in
    let kept = c.loop-parent.invariant in
    let within : at < length rows = slice_get_within rows at _ kept.owing.here in
    let here : slice_get rows at ≡ Some x = slice_get_read rows (length rows) at x refl within c.index.ensures in
    let ends : ended_parent x ≡ None = sym c.parent_of_ended.ensures ∙ c.in_default.is in
    slices-end rows at x here ends
