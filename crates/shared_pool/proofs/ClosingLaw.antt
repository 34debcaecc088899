-- When the table is closed, the parts of all lanes are whole logs.
use Rattle.step_law.specs.Settings.{Setting}
use Rattle.std.proofs.Common.{ℕ, List}
use Rattle.std.specs.Prelude.{Option}
use Rattle.pool_law.specs.declared.note.Noted.{Noted}
use Rattle.pool_table.specs.declared.views.Layout.{Layout}
use Rattle.pool_table.specs.declared.views.SeatView.{SeatView}
use Rattle.pool_table.specs.Views.{parts_of}
use Rattle.pool_table.specs.Closed.{IsClosed}
use Rattle.shared_pool.specs.Closing.{AreLanes, AreWhole, HasNoPlace}
use Rattle.shared_pool.proofs.ClosingWhole.{histories_hold}
use Rattle.shared_pool.proofs.ClosingEntries.{entries_hold}
use Rattle.shared_pool.proofs.ClosingMails.{mails_hold}
use Rattle.shared_pool.proofs.ClosingOneOrder.{one_order_holds}
use Rattle.shared_pool.proofs.ClosingBusy.{busy_holds}
use Rattle.shared_pool.proofs.ClosingLooks.{looks_right}
use Rattle.shared_pool.proofs.ClosingTotals.{totals_hold}
use Rattle.shared_pool.proofs.ClosingNames.{named_born}

-- only histories, entries, busy marks and the one order need the lanes to be in order, and only totals that no place is
-- in hand
pub parts-whole : {H : Type 0} (stands : List ℕ → Setting → List Noted → H → Type 0) (l : Layout) (v : SeatView)
    (homes : List (Option H)) (words : List ℕ) →
    IsClosed stands l v homes words → AreLanes l.shape (parts_of v) → HasNoPlace v → AreWhole l.shape (parts_of v)
parts-whole stands l v homes words closed lanes none = record {
  histories =
      histories_hold stands l v homes words closed lanes (mails_hold stands l v homes words closed lanes);
  entries = entries_hold stands l v homes words closed lanes;
  born = named_born stands l v homes words closed;
  totals = totals_hold stands l v homes words closed none;
  looks = looks_right stands l v homes words closed;
  busy = busy_holds stands l v homes words closed lanes;
  one_order = one_order_holds stands l v homes words closed lanes;
}
