-- What calls on roots leave to a seat, whatever it has in hand.
use Rattle.std.proofs.Common.{ℕ, ◌-◌, ◌<◌, List, [], ◌∷◌, Option, Some, refl, ap, arith}
use Rattle.std.specs.Prelude.{◌&&◌, ◌==◌, IfSome}
use Rattle.pool_law.specs.declared.id.Parcel.{Parcel}
use Rattle.pool_law.specs.declared.id.RootId.{RootId}
use Rattle.pool_law.specs.declared.note.Did.{Did}
use Rattle.pool_law.specs.declared.note.Object.TheVariants.{Root}
use Rattle.pool_law.specs.declared.note.RefDid.TheVariants.{Look, Retain}
use Rattle.pool_law.specs.Naming.{noted_by}
use Rattle.pool_law.specs.Same.{same_root}
use Rattle.pool_table.specs.declared.views.Entry.{Entry}
use Rattle.pool_table.specs.declared.views.Entry.TheVariants.{At, Ref}
use Rattle.pool_table.specs.declared.views.SeatView.{SeatView}
use Rattle.pool_table.specs.Counts.{HasCount, with_ref}
use Rattle.shared_pool.specs.declared.pool.SharedPool.{SharedPool}
use Rattle.shared_pool.specs.declared.seat.PoolSeat.{PoolSeat}
use Rattle.shared_pool.specs.MailAnswers.{IsFetched, IsPosted}
use Rattle.shared_pool.specs.RootNotes.{access}
use Rattle.shared_pool.specs.SeatLanes.{lane_of}
use Rattle.shared_pool.specs.Seats.{IsNoted, IsPoolSeat}
use Rattle.shared_pool.specs.SeatViews.{HasView, view_of}
use Rattle.seat_work.specs.Changes.{Changes, no_change, once_more}
use Rattle.seat_work.specs.HandOvers.{fetched, posted, Sends}
use Rattle.seat_work.specs.Hands.{Hand, lane_in}
use Rattle.seat_work.specs.Works.{Goes, Proceeds, Works}
use Rattle.seat_work.proofs.Calls.{proceeds_noted}
use Rattle.seat_work.proofs.Counting.{Tells, changes_by, one_as}
use Rattle.seat_work.proofs.Grown.{Grows, grows_mailed, grows_ref}
use Rattle.seat_work.proofs.HandedOver.{holds_view, in_parcel, one_letter}
use Rattle.seat_work.proofs.HandLaws.{Carries}
use Rattle.seat_work.proofs.HandNotes.{fetch_entry, post_entry, ref_carries, weightless}
use Rattle.seat_work.proofs.Proceeding.{goes_by, proceeds_by, sends_by}

-- ---- Accesses.

-- an access to the bytes of a root leaves in hand what is there
pub record IsAccess (did : Did) : Type 0 where
  pub carries : (m number : ℕ) (lane : Option ℕ) (root : RootId) (h : Hand)
      → Carries m h h (At (Root root.place) number (noted_by lane (access root did)) ∷ [])
  pub tells : (number : ℕ) (lane : Option ℕ) (root : RootId)
      → Tells no_change (At (Root root.place) number (noted_by lane (access root did)) ∷ [])

pub set_access : (offset : ℕ) (bytes : List ℕ) → IsAccess (Did.Set offset bytes)
set_access offset bytes = record {
  carries = λ m number lane root h. record {
    places = λ q. omega arith;
    births = λ q. refl;
    regions = λ q. omega arith;
    uses = λ q. omega arith;
    tokens = λ q. omega arith;
    ended = λ q. refl;
    quotas = λ class. refl;
    closes = λ class. refl;
  };
  tells = λ number lane root. record { counts = λ q. refl; ended = λ q. refl; empty = refl; full = refl };
}

pub get_access : (offset : ℕ) (bytes : List ℕ) → IsAccess (Did.Get offset bytes)
get_access offset bytes = record {
  carries = λ m number lane root h. record {
    places = λ q. omega arith;
    births = λ q. refl;
    regions = λ q. omega arith;
    uses = λ q. omega arith;
    tokens = λ q. omega arith;
    ended = λ q. refl;
    quotas = λ class. refl;
    closes = λ class. refl;
  };
  tells = λ number lane root. record { counts = λ q. refl; ended = λ q. refl; empty = refl; full = refl };
}

pub touch_access : IsAccess Did.Touch
touch_access = record {
  carries = λ m number lane root h. record {
    places = λ q. omega arith;
    births = λ q. refl;
    regions = λ q. omega arith;
    uses = λ q. omega arith;
    tokens = λ q. omega arith;
    ended = λ q. refl;
    quotas = λ class. refl;
    closes = λ class. refl;
  };
  tells = λ number lane root. record { counts = λ q. refl; ended = λ q. refl; empty = refl; full = refl };
}

-- ---- What letters leave.

module _ (from to number : ℕ) (lane : Option ℕ) (parcel : Parcel) (m : ℕ) (h : Hand) where
  post_keeps : Carries m h h (post_entry from to number lane parcel ∷ [])
  post_keeps = record {
    places = λ q. omega arith;
    births = λ q. refl;
    regions = λ q. omega arith;
    uses = λ q. omega arith;
    tokens = λ q. omega arith;
    ended = λ q. refl;
    quotas = λ class. refl;
    closes = λ class. refl;
  }

  fetch_keeps : Carries m h h (fetch_entry from to number lane parcel ∷ [])
  fetch_keeps = record {
    places = λ q. omega arith;
    births = λ q. refl;
    regions = λ q. omega arith;
    uses = λ q. omega arith;
    tokens = λ q. omega arith;
    ended = λ q. refl;
    quotas = λ class. refl;
    closes = λ class. refl;
  }

-- ---- A seat with this in hand.

module _ (pool : SharedPool) (hand : Hand) (old new : PoolSeat) (is : IsPoolSeat pool new) where
  abbrev v : SeatView
  v = view_of old

  abbrev w : SeatView
  w = view_of new

  pub accesses : (root : RootId) (number : ℕ) (did : Did) → Works pool hand 1 0 old → IsAccess did
      → IsNoted pool old new (Root root.place) number (access root did) → Proceeds pool hand 1 0 no_change old new
  accesses root number did works access_is noted =
      proceeds_noted pool old new is number hand hand no_change (Root root.place) (access root did) works noted
      (access_is.carries (lane_in v) number v.own.number root hand) (access_is.tells number v.own.number root)
      works.paid (λ to. omega arith)

  -- ---- Steps on a count.

  module _ (root : RootId) (t m : ℕ) (works : Works pool hand t m old) where
    pub retains : 0 < v.moves → HasView new (with_ref v root Retain (v.moves - 1))
        → Proceeds pool hand 0 1 (once_more root) old new
    retains some has =
        let turns = ap (λ m. m.0.turns) has in
        proceeds_by pool hand hand t m old new works is (once_more root) (Ref root Retain ∷ []) 0 1
        (grows_ref pool old new works.seat is root Retain (v.moves - 1) 1 has (omega (arith, some)))
        (omega (arith, turns)) (ref_carries (lane_in v) hand root Retain refl refl refl)
        (record {
          counts =
              λ q. (let a = one_as (same_root root q) in let b = weightless (same_root root q) 0 refl in
              omega (arith, a, b));
          ended = λ q. (let b = weightless (same_root root q) 0 refl in omega (arith, b));
          empty = refl;
          full = refl;
        }) works.paid (λ to. omega arith)

    pub looks : (count : ℕ) → HasView new (with_ref v root (Look count) v.moves)
        → Proceeds pool hand 0 0 no_change old new
    looks count has =
        let turns = ap (λ m. m.0.turns) has in
        proceeds_by pool hand hand t m old new works is no_change (Ref root (Look count) ∷ []) 0 0
        (grows_ref pool old new works.seat is root (Look count) v.moves 0 has (omega arith)) (omega (arith, turns))
        (ref_carries (lane_in v) hand root (Look count) refl refl refl)
        (record {
          counts = λ q. (let b = weightless (same_root root q) 0 refl in omega (arith, b));
          ended = λ q. (let b = weightless (same_root root q) 0 refl in omega (arith, b));
          empty = refl;
          full = refl;
        }) works.paid (λ to. omega arith)

  -- ---- Letters.

  module _ (number : ℕ) (works : Works pool hand 0 0 old) where
    module _ (receiver : ℕ) (parcel : Parcel) (counts : IfSome parcel.view (λ x. HasCount x.root (view_of old)))
        (noted : IsPosted old new receiver number parcel) where
      abbrev es : List Entry
      es = post_entry (lane_of old) receiver number v.own.number parcel ∷ []

      grows : Grows v w es 0
      grows = grows_mailed pool old new works.seat is (lane_of old) receiver number (Did.Post parcel) noted.noted

      tells : Tells (posted parcel) es
      tells = record {
        counts = λ q. (let a = in_parcel q parcel.view in omega (arith, a));
        ended = λ q. refl;
        empty = refl;
        full = refl;
      }

      pub posts_goes : Goes pool hand 0 0 old new
      posts_goes =
          let turns = ap (λ m. m.0.turns) noted.noted in
          goes_by pool hand hand 0 0 old new works is (posted parcel) es 0 0 grows (omega (arith, turns))
          (post_keeps (lane_of old) receiver number v.own.number parcel (lane_in v) hand) tells
          (holds_view v parcel.view works.paid counts)

      pub posts_changes : Changes (posted parcel) v w
      posts_changes = changes_by (posted parcel) v w es 0 grows tells

      pub posts_sends : Sends 1 v w
      posts_sends =
          sends_by v w es 0 grows 1
          (λ to. (let a = one_letter ((lane_of old == lane_in v) && (receiver == to)) in omega (arith, a)))

    module _ (sender : ℕ) (parcel : Parcel) (noted : IsFetched old new sender number parcel) where
      pub fetches : Proceeds pool hand 0 0 (fetched (Some parcel)) old new
      fetches =
          let turns = ap (λ m. m.0.turns) noted.noted in
          proceeds_by pool hand hand 0 0 old new works is (fetched (Some parcel))
          (fetch_entry sender (lane_of old) number v.own.number parcel ∷ []) 0 0
          (grows_mailed pool old new works.seat is sender (lane_of old) number (Did.Fetch parcel) noted.noted)
          (omega (arith, turns)) (fetch_keeps sender (lane_of old) number v.own.number parcel (lane_in v) hand)
          (record {
            counts = λ q. (let a = in_parcel q parcel.view in omega (arith, a));
            ended = λ q. refl;
            empty = refl;
            full = refl;
          }) works.paid (λ to. omega arith)
