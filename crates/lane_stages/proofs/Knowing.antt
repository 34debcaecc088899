-- What a seat knows of capacities only grows with what it notes, and so what lies in that goes on to.
use Rattle.std.proofs.Common.{◌≤◌, List, arith}
use Rattle.pool_law.specs.declared.id.RootId.{RootId}
use Rattle.pool_law.specs.declared.id.ViewData.{ViewData}
use Rattle.pool_law.specs.Views.{LiesIn}
use Rattle.pool_table.specs.declared.views.Entry.{Entry}
use Rattle.pool_table.specs.declared.views.SeatView.{SeatView}
use Rattle.pool_table.specs.Capacities.{knows_of}
use Rattle.seat_work.specs.Growth.{HasMore}
use Rattle.seat_work.proofs.Knowing as seats

-- what a view knew, it knows with more entries
pub knows_more : (v w : SeatView) (added : List Entry) → HasMore v w added → (r : RootId)
    → knows_of r v ≤ knows_of r w
knows_more v w added more = seats.knows_more v w added more.notes

-- what its name tells of a root, each view knows
pub knows_name : (r : RootId) (v : SeatView) → r.capacity ≤ knows_of r v
knows_name r v = seats.knows_born v r

-- so a view that lay in what was known lies in what is known
pub lies_more : (v w : SeatView) (added : List Entry) → HasMore v w added → (x : ViewData)
    → LiesIn (knows_of x.root v) x → LiesIn (knows_of x.root w) x
lies_more v w added more x lies = let a = knows_more v w added more x.root in omega (arith, a, lies)
