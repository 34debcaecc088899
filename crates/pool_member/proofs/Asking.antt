-- A seat that asks a root for capacity by tries, and what it leaves.
use Rattle.std.proofs.Common.{◌≡◌, ℕ, ◌+◌, ◌≤◌, false, Result, Ok, Err, refl, arith}
use Rattle.std.specs.Prelude.{IfErr, IfOk}
use Rattle.pool_law.specs.declared.id.RootId.{RootId}
use Rattle.pool_law.specs.declared.note.Held.{Held}
use Rattle.pool_law.specs.declared.note.Object.{Object}
use Rattle.pool_law.specs.declared.note.Object.TheVariants.{Root}
use Rattle.pool_table.specs.Counts.{HasCount}
use Rattle.shared_pool.specs.declared.pool.SharedPool.{SharedPool}
use Rattle.shared_pool.specs.declared.seat.PoolSeat.{PoolSeat}
use Rattle.shared_pool.specs.declared.went.Room.{Room}
use Rattle.shared_pool.specs.Knowing.{KnowsOf}
use Rattle.shared_pool.specs.Regrowing.{room_capacity, room_did}
use Rattle.shared_pool.specs.RootNotes.{access}
use Rattle.shared_pool.specs.SeatViews.{view_of, SameSeat}
use Rattle.shared_pool.specs.Seats.{FoundBusy, IsNoted, IsPoolSeat}
use Rattle.seat_work.specs.Capacities.{KnowsNoLess}
use Rattle.seat_work.specs.Changes.{no_change, times}
use Rattle.seat_work.specs.Growth.{is_quiet_but}
use Rattle.seat_work.specs.Hands.{Hand, empty_hand}
use Rattle.seat_work.specs.Regrowths.{IsTold}
use Rattle.seat_work.specs.Works.{IsLaterBut, Proceeds, Works}
use Rattle.seat_work.proofs.Counting.{still_counts}
use Rattle.seat_work.proofs.Knowing.{learned, learned_on, learned_then}
use Rattle.seat_work.proofs.Later.{follows_on, later_asked, later_but, later_has, later_none}
use Rattle.seat_work.proofs.Proceeding.{proceeds_none, proceeds_on, proceeds_then}
use Rattle.seat_work.proofs.Regrowing.{asked_root, asks_room, told_noted, told_on, told_room, told_then}
use Rattle.seat_tries.specs.Leaving.{MeetsOther}
use Rattle.seat_tries.proofs.Goings.{works_less}
use Rattle.pool_member.specs.declared.pending.Pending.{Pending}
use Rattle.pool_member.specs.declared.work.attempted.AskNo.{AskNo}
use Rattle.pool_member.specs.declared.work.attempted.AskNo.TheVariants.{Busy, Full}
use Rattle.pool_member.specs.Growths.{asked, AsksOn, HasAnswer, MayRefuseAsked, MeetsOtherBut}
use Rattle.pool_member.specs.Pendings.{hand_of, nothing, PutsAway}

module _ (pool : SharedPool) (root : RootId) where
  meets_but : (old new : PoolSeat) (o : Object) (held : Held) → IsPoolSeat pool old → IsPoolSeat pool new
      → FoundBusy pool o false old new held → MeetsOtherBut root pool old new
  meets_but old new o held was is found = record {
    mid = old;
    next = new;
    object = o;
    held = held;
    before = later_but pool root old old (later_none pool old was);
    found = found;
    after = later_but pool root new new (later_none pool new is);
  }

  meets_but_then : (old mid new : PoolSeat) → MeetsOtherBut root pool old mid → IsLaterBut root pool mid new
      → MeetsOtherBut root pool old new
  meets_but_then old mid new met later = record {
    mid = met.mid;
    next = met.next;
    object = met.object;
    held = met.held;
    before = met.before;
    found = met.found;
    after = follows_on pool (is_quiet_but root) met.next mid new met.after later;
  }

  -- as one was met on a way without asks
  pub other_but : (old new : PoolSeat) → MeetsOther pool old new → MeetsOtherBut root pool old new
  other_but old new met = record {
    mid = met.mid;
    next = met.next;
    object = met.object;
    held = met.held;
    before = later_but pool root old met.mid met.before;
    found = met.found;
    after = later_but pool root met.next new met.after;
  }

  pub meets_but_on : (old mid new : PoolSeat) → IsLaterBut root pool old mid → MeetsOtherBut root pool mid new
      → MeetsOtherBut root pool old new
  meets_but_on old mid new later met = record {
    mid = met.mid;
    next = met.next;
    object = met.object;
    held = met.held;
    before = follows_on pool (is_quiet_but root) old mid met.mid later met.before;
    found = met.found;
    after = met.after;
  }

  module _ (size : ℕ) where
    has_on : (old mid new : PoolSeat) (r : Result ℕ AskNo) → IsLaterBut root pool old mid
        → KnowsNoLess (view_of old) (view_of mid) → HasAnswer pool root size mid new r
        → HasAnswer pool root size old new r
    has_on old mid new (Ok capacity) later less has = (
      has.0,
      learned_on root capacity (view_of old) (view_of mid) (view_of new) less has.1,
      told_on pool root capacity old mid new later has.2,
    )
    has_on old mid new (Err Busy) later less has = meets_but_on old mid new later has
    has_on old mid new (Err Full) later less has = tt

    has_then : (old mid new : PoolSeat) (r : Result ℕ AskNo) → IsLaterBut root pool mid new
        → KnowsNoLess (view_of mid) (view_of new) → HasAnswer pool root size old mid r
        → HasAnswer pool root size old new r
    has_then old mid new (Ok capacity) later less has = (
      has.0,
      learned_then root capacity (view_of old) (view_of mid) (view_of new) has.1 less,
      told_then pool root capacity old mid new has.2 later,
    )
    has_then old mid new (Err Busy) later less has = meets_but_then old mid new has later
    has_then old mid new (Err Full) later less has = tt

    -- behind some work
    pub asks_then : (between : Hand) (a t u : ℕ) (old mid new : PoolSeat) (r : Result ℕ AskNo) (left : Pending)
        → IsLaterBut root pool old mid → a + t ≤ u → Proceeds pool between a 0 no_change old mid
        → AsksOn pool t root size mid new r left → AsksOn pool u root size old new r left
    asks_then between a t u old mid new r left later le x asks = record {
      spent = a + asks.spent;
      within = (let p = asks.within in omega (arith, p, le));
      proceeds =
          proceeds_on pool (asked r) between (hand_of left) a 0 asks.spent 0 (a + asks.spent) 0 old mid new x
          asks.proceeds (omega arith) (omega arith);
      pending = asks.pending;
      later = follows_on pool (is_quiet_but root) old mid new later asks.later;
      counts = asks.counts;
      has = has_on old mid new r later x.goes.knows asks.has;
    }

    -- the answer is there, and nothing is left
    pub asks_ended : (a u : ℕ) (old new : PoolSeat) (r : Result ℕ AskNo) → a ≤ u
        → Proceeds pool empty_hand a 0 (asked r) old new → IsLaterBut root pool old new → HasCount root (view_of new)
        → HasAnswer pool root size old new r → AsksOn pool u root size old new r nothing
    asks_ended a u old new r le x later counts has = record {
      spent = a;
      within = omega (arith, le);
      proceeds = x;
      pending = tt;
      later = later;
      counts = counts;
      has = has;
    }

    -- it is there, and a region goes back
    pub asks_back : (between : Hand) (a t u : ℕ) (old mid new : PoolSeat) (r : Result ℕ AskNo) (left : Pending)
        → IsLaterBut root pool old mid → a + t ≤ u → Proceeds pool between a 0 (asked r) old mid
        → HasCount root (view_of mid) → HasAnswer pool root size old mid r → PutsAway pool t mid new left
        → AsksOn pool u root size old new r left
    asks_back between a t u old mid new r left later le x counts has away = record {
      spent = a + away.spent;
      within = (let p = away.within in omega (arith, p, le));
      proceeds =
          proceeds_then pool (asked r) between (hand_of left) a 0 away.spent 0 (a + away.spent) 0 old mid new x
          away.proceeds (omega arith) (omega arith);
      pending = away.pending;
      later =
          follows_on pool (is_quiet_but root) old mid new later (later_but pool root mid new away.later);
      counts = still_counts no_change (view_of mid) (view_of new) root refl away.proceeds.changes counts;
      has =
          has_then old mid new r (later_but pool root mid new away.later) away.proceeds.goes.knows has;
    }

    -- another was there at once
    module _ (old new : PoolSeat) (o : Object) (held : Held) (same : SameSeat old new) (is : IsPoolSeat pool new)
        (found : FoundBusy pool o false old new held) (t : ℕ) where
      pub busy_has : IsPoolSeat pool old → HasAnswer pool root size old new (Err Busy)
      busy_has was = meets_but old new o held was is found

      pub busy_later : IsPoolSeat pool old → IsLaterBut root pool old new
      busy_later was = later_but pool root old new (later_has pool old new same was is found.marked)

      pub busy_goes : (hand : Hand) → Works pool hand t 0 old → Proceeds pool hand 0 0 no_change old new
      busy_goes hand works = proceeds_none pool hand t 0 0 0 old new works is found.marked

-- ---- A root that was asked.

module _ (pool : SharedPool) (old new : PoolSeat) (same : SameSeat old new) (is : IsPoolSeat pool new) (number : ℕ)
    (root : RootId) (size : ℕ) (room : Room) (works : Works pool empty_hand 6 0 old)
    (counts : HasCount root (view_of old))
    (noted : IsNoted pool old new (Root root.place) number (access root (room_did size room))) where
  pub room_goes : Proceeds pool empty_hand 1 0 no_change old new
  room_goes =
      asked_root pool old new is number root size room (works_less pool empty_hand 6 0 1 0 old works (omega arith)
      (omega arith)) noted

  pub room_later : IsLaterBut root pool old new
  room_later = later_asked pool old new same works.seat is root noted (asks_room root size room)

  pub room_counts : HasCount root (view_of new)
  room_counts = still_counts no_change (view_of old) (view_of new) root refl room_goes.changes counts

  -- it has enough by that
  pub room_enough : KnowsOf pool new root (room_capacity size room) → size ≤ room_capacity size room
      → AsksOn pool 6 root size old new (Ok (room_capacity size room)) nothing
  room_enough knows le =
      let capacity = room_capacity size room in
      asks_ended pool root size 1 6 old new (Ok capacity) (omega arith) room_goes room_later room_counts (
        le,
        learned pool old new root capacity room_goes.goes.knows knows,
        told_noted pool root capacity old new same works.seat is number _ noted (asks_room root size room)
            (told_room root number (view_of old).own.number size room),
      )

-- ---- What an ask tells of roots.

-- a refusal counts no root
pub asked_got : (no : AskNo) (q : RootId) → times q (asked (Err no)).got ≡ 0
asked_got Busy q = refl
asked_got Full q = refl

pub asked_gone : (no : AskNo) (q : RootId) → times q (asked (Err no)).gone ≡ 0
asked_gone Busy q = refl
asked_gone Full q = refl

-- the same of an answer behind other steps
module _ (pool : SharedPool) (root : RootId) (old mid new : PoolSeat) (later : IsLaterBut root pool old mid) where
  pub if_asked_told_on : (r : Result ℕ AskNo) → IfOk r (λ k. IsTold pool root k mid new)
      → IfOk r (λ k. IsTold pool root k old new)
  if_asked_told_on (Ok k) told = told_on pool root k old mid new later told
  if_asked_told_on (Err why) told = tt

  refused_on : (why : AskNo) → MayRefuseAsked pool root mid new why → MayRefuseAsked pool root old new why
  refused_on Busy met = meets_but_on pool root old mid new later met
  refused_on Full met = tt

  pub if_refused_on : (r : Result ℕ AskNo) → IfErr r (MayRefuseAsked pool root mid new)
      → IfErr r (MayRefuseAsked pool root old new)
  if_refused_on (Ok k) met = tt
  if_refused_on (Err why) met = refused_on why met
