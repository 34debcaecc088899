-- What posts and fetches answer and note, and when a post finds room.
use Rattle.std.specs.Prelude.{◌≡◌, ℕ, ◌+◌, ◌<◌, ◌≤◌, [], HoldsAt}
use Rattle.crossbeam_queue.specs.Passes.{view}
use Rattle.pool_law.specs.declared.id.Parcel.{Parcel}
use Rattle.pool_law.specs.declared.note.Did.{Did}
use Rattle.pool_law.specs.declared.note.Object.TheVariants.{Mail}
use Rattle.pool_law.specs.Naming.{noted_by}
use Rattle.pool_table.specs.declared.views.Entry.TheVariants.{At}
use Rattle.pool_table.specs.declared.views.SeatView.{SeatView}
use Rattle.pool_table.specs.Letters.{received_on, sent_on}
use Rattle.pool_table.specs.Views.{with_entry}
use Rattle.shared_pool.specs.Carries.{Carries, Stood}
use Rattle.shared_pool.specs.Mails.{AtMail}
use Rattle.shared_pool.specs.Notes.{plain}
use Rattle.shared_pool.specs.SeatLanes.{lane_of}
use Rattle.shared_pool.specs.SeatViews.{HasView, view_of}
use Rattle.shared_pool.specs.declared.pool.SharedPool.{SharedPool}
use Rattle.shared_pool.specs.declared.seat.PoolSeat.{PoolSeat}
use Rattle.shared_pool.specs.declared.went.Fetched.{Fetched}
use Rattle.shared_pool.specs.declared.went.Fetched.TheVariants.{Got, Empty}

abbrev pub IfGot : Fetched → (ℕ → Parcel → Type 0) → Type 0
IfGot (Got number parcel) P = P number parcel
IfGot Empty P = Unit {0}

abbrev pub IfEmpty : Fetched → Type 0 → Type 0
IfEmpty (Got number parcel) P = Unit {0}
IfEmpty Empty P = P

-- the seat noted this at the mail of two lanes, and nothing else of it changed
abbrev pub HasNotedAt : PoolSeat → PoolSeat → ℕ → ℕ → ℕ → Did → Type 0
HasNotedAt old new from to number did =
    let v = view_of old in
    let note = At (Mail from to) number (noted_by v.own.number (plain did)) in
    HasView new (with_entry v note v.turns)

-- the seat's next post to a lane
pub record IsPosted (old new : PoolSeat) (to number : ℕ) (parcel : Parcel) : Type 0 where
  pub number_is : number ≡ sent_on (lane_of old) to (view_of old).own.notes + 1
  pub noted : HasNotedAt old new (lane_of old) to number (Did.Post parcel)

-- its next fetch from a lane
pub record IsFetched (old new : PoolSeat) (from number : ℕ) (parcel : Parcel) : Type 0 where
  pub number_is : number ≡ received_on from (lane_of old) (view_of old).own.notes + 1
  pub noted : HasNotedAt old new from (lane_of old) number (Did.Fetch parcel)

-- at this call's own step the queue from that lane was empty, under the rule of all mails: so the
-- seat had fetched all that was posted there
abbrev pub IsDrained : ℕ → PoolSeat → Type 0
IsDrained from s = HoldsAt (λ pass. Stood Carries (view pass) []) s.fetches.items from

-- the mail between two lanes has room for so many parcels in all
abbrev pub RoomFor : SharedPool → ℕ → ℕ → ℕ → Type 0
RoomFor pool from to count = AtMail pool from to (λ m. count ≤ m.room)

-- the lane posted fewer parcels to the other than their mail has room for
abbrev pub HasRoom : SharedPool → ℕ → ℕ → SeatView → Type 0
HasRoom pool from to v = AtMail pool from to (λ m. sent_on from to v.own.notes < m.room)

-- the mail between two lanes has no room, so that its letters go by another channel
abbrev pub HasOwnChannel : SharedPool → ℕ → ℕ → Type 0
HasOwnChannel pool from to = AtMail pool from to (λ m. m.room ≡ 0)
