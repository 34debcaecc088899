-- A root that is asked for capacity, and one that is given a region: what a seat has in hand behind
-- it, and what it was told.
use Rattle.std.proofs.Common.{◌≡◌, ℕ, ◌+◌, ◌≤◌, true, Option, Some, None, length, refl, sym, ap, ◌∙◌, subst, arith}
use Rattle.std.specs.Prelude.{◌&&◌, Result, Ok, Err, IfOk, if◌then◌else◌, Bool}
use Rattle.pool_law.specs.declared.id.Region.{Region}
use Rattle.pool_law.specs.declared.id.RegionId.{RegionId}
use Rattle.pool_law.specs.declared.id.RootId.{RootId}
use Rattle.pool_law.specs.declared.note.Did.{Did}
use Rattle.pool_law.specs.declared.note.Noted.{Noted}
use Rattle.pool_law.specs.declared.note.Object.TheVariants.{Root}
use Rattle.pool_law.specs.Counts.{root_is}
use Rattle.pool_law.specs.Naming.{noted_by}
use Rattle.pool_law.specs.Same.{same_root}
use Rattle.pool_law.proofs.PatternLemmas.{same_root-refl}
use Rattle.pool_table.specs.declared.views.Entry.TheVariants.{At}
use Rattle.pool_table.specs.Capacities.{told_in}
use Rattle.shared_pool.specs.declared.pool.SharedPool.{SharedPool}
use Rattle.shared_pool.specs.declared.seat.PoolSeat.{PoolSeat}
use Rattle.shared_pool.specs.declared.went.Grown.{Grown}
use Rattle.shared_pool.specs.declared.went.Grown.TheVariants as grown
use Rattle.shared_pool.specs.declared.went.Room.{Room}
use Rattle.shared_pool.specs.declared.went.Room.TheVariants.{Enough, Extended, Short}
use Rattle.shared_pool.specs.Regrowing.{back_of, grown_capacity, grown_note, growth, room_capacity, room_did, IsGrownFor}
use Rattle.shared_pool.specs.RootNotes.{access}
use Rattle.shared_pool.specs.Seats.{IsNoted, IsPoolSeat}
use Rattle.shared_pool.specs.SeatViews.{view_of, SameSeat}
use Rattle.seat_work.specs.declared.regrowth.GrowNo.{GrowNo}
use Rattle.seat_work.specs.Answers.{hand_with}
use Rattle.seat_work.specs.Capacities.{IsLearned, KnowsNoLess}
use Rattle.seat_work.specs.Changes.{no_change}
use Rattle.seat_work.specs.Growth.{is_ask, is_quiet_but}
use Rattle.seat_work.specs.Hands.{empty_hand, lane_in}
use Rattle.seat_work.specs.Regrowths.{IsTold}
use Rattle.seat_work.specs.Works.{IsLaterBut, Proceeds, Works}
use Rattle.seat_work.proofs.Calls.{quiet}
use Rattle.seat_work.proofs.HandNotes.{root_asked, root_extended, root_moved}
use Rattle.seat_work.proofs.Knowing.{learned_on}
use Rattle.seat_work.proofs.Later.{before, behind, follows_on, follows_same, later_asked}

-- ---- What the notes are.

asked_so : (root : RootId) → (true && same_root root root) ≡ true
asked_so root = ap (λ b. true && b) (same_root-refl root)

pub asks_room : (root : RootId) (size : ℕ) (room : Room)
    → (is_ask (room_did size room) && root_is root (Some root)) ≡ true
asks_room root size (Enough c) = asked_so root
asks_room root size Extended = asked_so root
asks_room root size (Short c) = asked_so root

pub asks_grown : (root : RootId) (size : ℕ) (into : RegionId) (g : Grown)
    → (is_ask (grown_note root size into g).did && root_is root (grown_note root size into g).root) ≡ true
asks_grown root size into (grown.Enough c r) = asked_so root
asks_grown root size into (grown.Extended r) = asked_so root
asks_grown root size into (grown.Replaced r) = asked_so root

-- a number that is told where a root is this one
pub told_so : (root : RootId) (c : ℕ) → (if same_root root root then c else 0) ≡ c
told_so root c = ap (λ (b : Bool). if b then c else 0) (same_root-refl root)

module _ (root : RootId) (number : ℕ) (lane : Option ℕ) (size : ℕ) where
  pub told_room : (room : Room)
      → told_in root (At (Root root.place) number (noted_by lane (access root (room_did size room))))
      ≡ room_capacity size room
  told_room (Enough c) = let a = told_so root c in omega (arith, a)
  told_room Extended = let a = told_so root size in omega (arith, a)
  told_room (Short c) = let a = told_so root c in omega (arith, a)

  pub told_grown : (into : RegionId) (g : Grown)
      → told_in root (At (Root root.place) number (noted_by lane (grown_note root size into g))) ≡ grown_capacity size g
  told_grown into (grown.Enough c r) = let a = told_so root c in omega (arith, a)
  told_grown into (grown.Extended r) = let a = told_so root size in omega (arith, a)
  told_grown into (grown.Replaced r) = let a = told_so root size in omega (arith, a)

-- what was asked is enough, by what came of it
pub grown_enough : (size : ℕ) (given : Region) (g : Grown) → IsGrownFor size given g → size ≤ grown_capacity size g
grown_enough size given (grown.Enough c r) is = is.0
grown_enough size given (grown.Extended r) is = omega arith
grown_enough size given (grown.Replaced r) is = omega arith

-- ---- What they leave in hand.

module _ (pool : SharedPool) (old new : PoolSeat) (is : IsPoolSeat pool new) (number : ℕ) (root : RootId) (size : ℕ)
  where
    pub asked_root : (room : Room) → Works pool empty_hand 1 0 old
        → IsNoted pool old new (Root root.place) number (access root (room_did size room))
        → Proceeds pool empty_hand 1 0 no_change old new
    asked_root (Enough c) works noted =
        quiet pool old new is number empty_hand empty_hand (Root root.place) (access root (Did.Room size c)) works noted
        (root_asked (lane_in (view_of old)) number (view_of old).own.number empty_hand root size c)
        (record { counts = λ q. refl; ended = λ q. refl; empty = refl; full = refl }) (λ to. omega arith)
    asked_root Extended works noted =
        quiet pool old new is number empty_hand empty_hand (Root root.place) (access root (Did.Extend size)) works noted
        (root_extended (lane_in (view_of old)) number (view_of old).own.number empty_hand root size)
        (record { counts = λ q. refl; ended = λ q. refl; empty = refl; full = refl }) (λ to. omega arith)
    asked_root (Short c) works noted =
        quiet pool old new is number empty_hand empty_hand (Root root.place) (access root (Did.Room size c)) works noted
        (root_asked (lane_in (view_of old)) number (view_of old).own.number empty_hand root size c)
        (record { counts = λ q. refl; ended = λ q. refl; empty = refl; full = refl }) (λ to. omega arith)

    module _ (given : Region) (works : Works pool (hand_with None (Some given)) 1 0 old) where
      pub grown_root : (g : Grown) → IsGrownFor size given g
          → IsNoted pool old new (Root root.place) number (grown_note root size given.id g)
          → Proceeds pool (hand_with None (Some (back_of g))) 1 0 no_change old new
      grown_root (grown.Enough c r) back noted =
          let hand = hand_with None (Some given) in
          subst (λ (x : Region). Proceeds pool (hand_with None (Some x)) 1 0 no_change old new) (sym back.1)
          (quiet pool old new is number hand hand (Root root.place) (access root (Did.Room size c)) works noted
          (root_asked (lane_in (view_of old)) number (view_of old).own.number hand root size c)
          (record { counts = λ q. refl; ended = λ q. refl; empty = refl; full = refl }) (λ to. omega arith))
      grown_root (grown.Extended r) back noted =
          let hand = hand_with None (Some given) in
          subst (λ (x : Region). Proceeds pool (hand_with None (Some x)) 1 0 no_change old new) (sym back)
          (quiet pool old new is number hand hand (Root root.place) (access root (Did.Extend size)) works noted
          (root_extended (lane_in (view_of old)) number (view_of old).own.number hand root size)
          (record { counts = λ q. refl; ended = λ q. refl; empty = refl; full = refl }) (λ to. omega arith))
      grown_root (grown.Replaced r) back noted =
          quiet pool old new is number (hand_with None (Some given)) (hand_with None (Some r)) (Root root.place)
          (growth root size given.id r.id) works noted
          (root_moved (lane_in (view_of old)) number (view_of old).own.number empty_hand root size given.id r.id)
          (record { counts = λ q. refl; ended = λ q. refl; empty = refl; full = refl }) (λ to. omega arith)

-- ---- What was told, behind other steps and before others.

module _ (pool : SharedPool) (root : RootId) (capacity : ℕ) where
  pub told_noted : (old new : PoolSeat) (same : SameSeat old new) (was : IsPoolSeat pool old) (is : IsPoolSeat pool new)
      (number : ℕ) (n : Noted) → IsNoted pool old new (Root root.place) number n
      → (is_ask n.did && root_is root n.root) ≡ true
      → told_in root (At (Root root.place) number (noted_by (view_of old).own.number n)) ≡ capacity
      → IsTold pool root capacity old new
  told_noted old new same was is number n noted asks told = record {
    later = later_asked pool old new same was is root noted asks;
    at = 0;
    entry = At (Root root.place) number (noted_by (view_of old).own.number n);
    stands = refl;
    told = told;
  }

  pub told_same : (old mid new : PoolSeat) → SameSeat old mid → view_of mid ≡ view_of old
      → IsTold pool root capacity mid new → IsTold pool root capacity old new
  told_same old mid new same view x = record {
    later = follows_same pool (is_quiet_but root) old mid new same view x.later;
    at = x.at;
    entry = x.entry;
    stands = x.stands;
    told = x.told;
  }

  pub told_on : (old mid new : PoolSeat) → IsLaterBut root pool old mid → IsTold pool root capacity mid new
      → IsTold pool root capacity old new
  told_on old mid new x y = record {
    later = follows_on pool (is_quiet_but root) old mid new x y.later;
    at = length x.added + y.at;
    entry = y.entry;
    stands = behind x.added y.later.added y.at ∙ y.stands;
    told = y.told;
  }

  pub told_then : (old mid new : PoolSeat) → IsTold pool root capacity old mid → IsLaterBut root pool mid new
      → IsTold pool root capacity old new
  told_then old mid new x y = record {
    later = follows_on pool (is_quiet_but root) old mid new x.later y;
    at = x.at;
    entry = x.entry;
    stands = before x.later.added y.added x.at x.entry x.stands;
    told = x.told;
  }

-- the same of an answer
module _ (pool : SharedPool) (root : RootId) (old mid new : PoolSeat) where
  pub if_told_on : (r : Result ℕ GrowNo) → IsLaterBut root pool old mid → IfOk r (λ k. IsTold pool root k mid new)
      → IfOk r (λ k. IsTold pool root k old new)
  if_told_on (Ok k) later told = told_on pool root k old mid new later told
  if_told_on (Err why) later told = tt

  pub if_learned_on : (r : Result ℕ GrowNo) → KnowsNoLess (view_of old) (view_of mid)
      → IfOk r (λ k. IsLearned root k (view_of mid) (view_of new))
      → IfOk r (λ k. IsLearned root k (view_of old) (view_of new))
  if_learned_on (Ok k) less it = learned_on root k (view_of old) (view_of mid) (view_of new) less it
  if_learned_on (Err why) less it = tt
