-- What a seat posts to other lanes, and what it counts of a parcel.
use Rattle.std.specs.Prelude.{◌≡◌, ℕ, ◌+◌, ◌≤◌, List, [], ◌∷◌, Option, Some, None}
use Rattle.pool_law.specs.declared.id.Parcel.{Parcel}
use Rattle.pool_law.specs.declared.id.RootId.{RootId}
use Rattle.pool_law.specs.declared.id.ViewData.{ViewData}
use Rattle.pool_table.specs.declared.views.SeatView.{SeatView}
use Rattle.pool_table.specs.Letters.{sent_on}
use Rattle.seat_work.specs.Hands.{lane_in}
use Rattle.seat_work.specs.Changes.{Change, no_change}

-- the view sent at most so many parcels more to any lane
pub record Sends (count : ℕ) (old new : SeatView) : Type 0 where
  pub number : new.own.number ≡ old.own.number
  pub setting : new.setting ≡ old.setting
  pub sent : (to : ℕ) →
      sent_on (lane_in new) to new.own.notes ≤ count + sent_on (lane_in old) to old.own.notes

-- the root of a view, if there is one
abbrev pub roots_in : Option ViewData → List RootId
roots_in None = []
roots_in (Some view) = view.root ∷ []

-- a parcel goes, and its root is counted once less; one comes, and its root is counted once more
abbrev pub posted : Parcel → Change
posted parcel = record no_change { gone = roots_in parcel.view }

abbrev pub fetched : Option Parcel → Change
fetched None = no_change
fetched (Some parcel) = record no_change { got = roots_in parcel.view }
