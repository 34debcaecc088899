-- A parcel that goes, and one that comes.
use Rattle.std.proofs.Common.{◌≡◌, ℕ, ◌≤◌, List, [], ◌∷◌, Bool, true, false, Option, Some, None, refl, ap, arith}
use Rattle.std.specs.Prelude.{◌&&◌, ◌==◌, if◌then◌else◌, IfSome}
use Rattle.pool_law.specs.declared.id.Parcel.{Parcel}
use Rattle.pool_law.specs.declared.id.RootId.{RootId}
use Rattle.pool_law.specs.declared.id.ViewData.{ViewData}
use Rattle.pool_law.specs.declared.note.Did.{Did}
use Rattle.pool_law.specs.Same.{same_root}
use Rattle.history_laws.specs.NoteCounts.{one_if_so, view_of_root}
use Rattle.shared_pool.specs.declared.seat.PoolSeat.{PoolSeat}
use Rattle.pool_table.specs.declared.views.Entry.{Entry}
use Rattle.pool_table.specs.declared.views.SeatView.{SeatView}
use Rattle.pool_table.specs.Counts.{HasCount}
use Rattle.shared_pool.specs.SeatViews.{view_of}
use Rattle.shared_pool.specs.declared.pool.SharedPool.{SharedPool}
use Rattle.shared_pool.specs.MailAnswers.{IsFetched, IsPosted}
use Rattle.shared_pool.specs.SeatLanes.{lane_of}
use Rattle.shared_pool.specs.Seats.{IsPoolSeat}
use Rattle.seat_work.specs.Changes.{Holds, IsPaid, Changes, times}
use Rattle.seat_work.specs.HandOvers.{Sends, roots_in, posted, fetched}
use Rattle.seat_work.specs.Hands.{empty_hand, lane_in}
use Rattle.seat_work.specs.Works.{Works, Goes, Proceeds}
use Rattle.seat_work.proofs.Counting.{Tells, changes_by, holds_one}
use Rattle.seat_work.proofs.Grown.{Grows, grows_mailed}
use Rattle.seat_work.proofs.HandNotes.{post_entry, fetch_entry, post_carries, fetch_carries}
use Rattle.seat_work.proofs.Proceeding.{goes_by, proceeds_by, sends_by}

-- a parcel's root is in its list once, and no other is
pub one_as_so : (b : Bool) → one_if_so b ≡ (if b then 1 else 0)
one_as_so true = refl
one_as_so false = refl

pub in_parcel : (root : RootId) (o : Option ViewData) → view_of_root root o ≡ times root (roots_in o)
in_parcel root None = refl
in_parcel root (Some x) = let a = one_as_so (same_root x.root root) in omega (arith, a)

pub holds_view : (v : SeatView) (o : Option ViewData) → IsPaid v → IfSome o (λ x. HasCount x.root v)
    → Holds (roots_in o) v
holds_view v None paid counts = paid
holds_view v (Some x) paid counts = holds_one v x.root paid counts

-- one entry sends one letter at most
pub one_letter : (x : Bool) → one_if_so x ≤ 1
one_letter true = omega arith
one_letter false = omega arith

module _ (pool : SharedPool) (old new : PoolSeat) (is : IsPoolSeat pool new)
    (number : ℕ) (works : Works pool empty_hand 0 0 old) where
  abbrev v : SeatView
  v = view_of old

  abbrev w : SeatView
  w = view_of new

  module _ (receiver : ℕ) (parcel : Parcel) (counts : IfSome parcel.view (λ x. HasCount x.root (view_of old)))
      (noted : IsPosted old new receiver number parcel) where
    abbrev es : List Entry
    es = post_entry (lane_of old) receiver number v.own.number parcel ∷ []

    grows : Grows v w es 0
    grows = grows_mailed pool old new works.seat is (lane_of old) receiver number (Did.Post parcel) noted.noted

    tells : Tells (posted parcel) es
    tells = record {
      counts = λ q. (let a = in_parcel q parcel.view in omega (arith, a));
      ended = λ q. refl;
      empty = refl;
      full = refl;
    }

    pub post_goes : Goes pool empty_hand 0 0 old new
    post_goes =
        let turns = ap (λ m. m.0.turns) noted.noted in
        goes_by pool empty_hand empty_hand 0 0 old new works is (posted parcel) es 0 0 grows (omega (arith, turns))
        (post_carries (lane_of old) receiver number v.own.number parcel (lane_in v)) tells
        (holds_view v parcel.view works.paid counts)

    pub post_changes : Changes (posted parcel) v w
    post_changes = changes_by (posted parcel) v w es 0 grows tells

    pub post_sends : Sends 1 v w
    post_sends =
        sends_by v w es 0 grows 1
        (λ to. (let a = one_letter ((lane_of old == lane_in v) && (receiver == to)) in omega (arith, a)))

  module _ (sender : ℕ) (parcel : Parcel) (noted : IsFetched old new sender number parcel) where
    pub fetch_proceeds : Proceeds pool empty_hand 0 0 (fetched (Some parcel)) old new
    fetch_proceeds =
        let turns = ap (λ m. m.0.turns) noted.noted in
        proceeds_by pool empty_hand empty_hand 0 0 old new works is (fetched (Some parcel))
        (fetch_entry sender (lane_of old) number v.own.number parcel ∷ []) 0 0
        (grows_mailed pool old new works.seat is sender (lane_of old) number (Did.Fetch parcel) noted.noted)
        (omega (arith, turns)) (fetch_carries sender (lane_of old) number v.own.number parcel (lane_in v))
        (record {
          counts = λ q. (let a = in_parcel q parcel.view in omega (arith, a));
          ended = λ q. refl;
          empty = refl;
          full = refl;
        }) works.paid (λ to. omega arith)
