use Rattle.std.proofs.Common.{◌≡◌, ℕ, List, map, sym, ap, ◌∙◌, true}
use Rattle.std.specs.Prelude.{Option}
use Rattle.counted_view.specs.declared.rows.Row.{Row}
use Rattle.counted_view.specs.Nests.{live_from, live_views}
use Rattle.counted_view.specs.Rows.{shown, live_rows}
use Rattle.counted_view.proofs.LiveLaws.{live_from-rows}
use Rattle.counted_view.proofs.view_tree.ViewTree.live.Goals as goal

pub returns : goal.returns
returns c =
    let rows : List Row = c.self.inside.rows.items in
    let all : Option ℕ → _ = λ parent. true in
    let told : live_from all 0 (map shown rows) ≡ live_rows all rows =
    live_from-rows rows all c.self.invariant.counted in
    c.live_total.ensures ∙ ap (live_rows all) c.deref.ensures.value ∙ sym told ∙ ap live_views c.self.view_is
