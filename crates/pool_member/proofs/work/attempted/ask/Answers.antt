use Rattle.std.proofs.Common.{ℕ, Ok, Err, sym, ap, subst, arith}
use Rattle.pool_law.specs.declared.note.Object.TheVariants.{Root}
use Rattle.pool_table.specs.Counts.{HasCount}
use Rattle.pool_table.specs.declared.views.SeatView.{SeatView}
use Rattle.shared_pool.specs.declared.went.Room.{Room}
use Rattle.shared_pool.specs.declared.went.Room.TheVariants.{Enough, Extended, Short}
use Rattle.shared_pool.specs.Knowing.{KnowsOf}
use Rattle.shared_pool.specs.Regrowing.{room_capacity, room_did, IsRoomFor}
use Rattle.shared_pool.specs.RootNotes.{access}
use Rattle.shared_pool.specs.Seats.{IsNoted}
use Rattle.seat_work.specs.Hands.{empty_hand}
use Rattle.seat_work.proofs.Proceeding.{works_after}
use Rattle.pool_member.specs.declared.work.attempted.AskNo.TheVariants.{Busy}
use Rattle.pool_member.specs.Growths.{AsksOn}
use Rattle.pool_member.proofs.Asking.{asks_ended, asks_then, busy_goes, busy_has, busy_later, room_counts, room_enough, room_goes, room_later}
use Rattle.pool_law.specs.Patterns.{regrow}
use Rattle.shared_pool.specs.SeatLanes.{lane_of}
use Rattle.shared_pool.specs.SeatViews.{view_of}
use Rattle.seat_work.specs.Regrowths.{grow_over}
use Rattle.seat_work.proofs.GrowthNotes.{enough_noted, room_noted, short_noted}
use Rattle.seat_tries.proofs.TriedNotes.{noted_lane}
use Rattle.pool_member.specs.Growths.{Regrows}
use Rattle.pool_member.proofs.Asked.{nothing_left, regrows_on}
use Rattle.pool_member.proofs.work.attempted.ask.Goals as goal

pub returns-in-Did-default-Enough-clause-asks : goal.returns-in-Did-default-Enough-clause-asks
returns-in-Did-default-Enough-clause-asks c =
    let a = c.args in let pool = a.pool.now in let old = a.seat.now in let mid = c.room.new.seat in
    let did = c.in-Did-default-Enough in let root = a.root in
    subst (AsksOn pool 6 root a.size old mid (Ok did.capacity)) (sym c.nothing.ensures)
    (room_enough pool old mid did.ensures.same did.ensures.seat did._number root a.size (Enough did.capacity)
    c.requires.works c.requires.counts
    (subst (λ (r : Room). IsNoted pool old mid (Root root.place) did._number (access root (room_did a.size r)))
    did.field-1-is did.ensures.did)
    (subst (λ (r : Room). KnowsOf pool mid root (room_capacity a.size r)) did.field-1-is did.ensures.knows)
    (subst (IsRoomFor a.size) did.field-1-is did.ensures.answer))

pub returns-in-Did-default-Extended-clause-asks : goal.returns-in-Did-default-Extended-clause-asks
returns-in-Did-default-Extended-clause-asks c =
    let a = c.args in let pool = a.pool.now in let old = a.seat.now in let mid = c.room.new.seat in
    let did = c.in-Did-default-Extended in let root = a.root in
    subst (AsksOn pool 6 root a.size old mid (Ok a.size)) (sym c.nothing-in-Did-default-Extended.ensures)
    (room_enough pool old mid did.ensures.same did.ensures.seat did._number root a.size Extended
    c.requires.works c.requires.counts
    (subst (λ (r : Room). IsNoted pool old mid (Root root.place) did._number (access root (room_did a.size r)))
    did.field-1-is did.ensures.did)
    (subst (λ (r : Room). KnowsOf pool mid root (room_capacity a.size r)) did.field-1-is did.ensures.knows)
    (omega arith))

pub ask_out-requires-clause-works : goal.ask_out-requires-clause-works
ask_out-requires-clause-works c =
    let a = c.args in let pool = a.pool.now in let old = a.seat.now in let mid = c.room.new.seat in
    let did = c.in-Did-default-Short in let root = a.root in
    works_after pool empty_hand empty_hand 6 0 1 0 5 0 old mid c.requires.works
    (room_goes pool old mid did.ensures.same did.ensures.seat did._number root a.size (Short did._capacity)
    c.requires.works c.requires.counts
    (subst (λ (r : Room). IsNoted pool old mid (Root root.place) did._number (access root (room_did a.size r)))
    did.field-1-is did.ensures.did)).goes (omega arith) (omega arith)

pub ask_out-requires-clause-counts : goal.ask_out-requires-clause-counts
ask_out-requires-clause-counts c =
    let a = c.args in let pool = a.pool.now in let old = a.seat.now in let mid = c.room.new.seat in
    let did = c.in-Did-default-Short in let root = a.root in
    room_counts pool old mid did.ensures.same did.ensures.seat did._number root a.size (Short did._capacity)
    c.requires.works c.requires.counts
    (subst (λ (r : Room). IsNoted pool old mid (Root root.place) did._number (access root (room_did a.size r)))
    did.field-1-is did.ensures.did)

pub returns-in-Did-default-Short-clause-asks : goal.returns-in-Did-default-Short-clause-asks
returns-in-Did-default-Short-clause-asks c =
    let a = c.args in let pool = a.pool.now in let old = a.seat.now in let mid = c.room.new.seat in
    let did = c.in-Did-default-Short in let root = a.root in let next = c.ask_out in
    let noted = subst (λ (r : Room).
    IsNoted pool old mid (Root root.place) did._number (access root (room_did a.size r))) did.field-1-is
    did.ensures.did in
    asks_then pool root a.size empty_hand 1 5 6 old mid next.new.seat next.result.0 next.result.1
    (room_later pool old mid did.ensures.same did.ensures.seat did._number root a.size (Short did._capacity)
    c.requires.works c.requires.counts noted) (omega arith)
    (room_goes pool old mid did.ensures.same did.ensures.seat did._number root a.size (Short did._capacity)
    c.requires.works c.requires.counts noted) next.ensures.asks

-- another was at the root
pub returns-in-Held-clause-asks : goal.returns-in-Held-clause-asks
returns-in-Held-clause-asks c =
    let a = c.args in let pool = a.pool.now in let old = a.seat.now in let mid = c.room.new.seat in
    let held = c.in-Held in let works = c.requires.works in let root = a.root in let size = a.size in
    let o = Root root.place in
    subst (AsksOn pool 6 root size old mid (Err Busy)) (sym c.nothing-in-Held.ensures)
    (asks_ended pool root size 0 6 old mid (Err Busy) (omega arith)
    (busy_goes pool root size old mid o held._held held.ensures.same held.ensures.seat held.ensures.held 6 empty_hand
    works)
    (busy_later pool root size old mid o held._held held.ensures.same held.ensures.seat held.ensures.held 6 works.seat)
    (subst (λ (v : SeatView). HasCount root v) (sym (ap (λ m. m.0) held.ensures.held.marked)) c.requires.counts)
    (busy_has pool root size old mid o held._held held.ensures.same held.ensures.seat held.ensures.held 6 works.seat))

-- ---- What the law reads of it.

pub returns-in-Did-default-Enough-clause-reads : goal.returns-in-Did-default-Enough-clause-reads
returns-in-Did-default-Enough-clause-reads c =
    let a = c.args in let pool = a.pool.now in let old = a.seat.now in let mid = c.room.new.seat in
    let did = c.in-Did-default-Enough in let k = did.capacity in let u = view_of old in let v = view_of mid in
    let shape = pool.table.layout.shape in
    nothing_left (regrow shape (lane_of old) a.root a.size) (Ok k) u v c.nothing.result c.nothing.ensures
    (enough_noted shape (lane_of old) a.class a.size a.root c.requires.class u v k
    (room_noted pool old mid a.root a.size did._number (Enough k)
    (subst (λ (r : Room). IsNoted pool old mid (Root a.root.place) did._number (access a.root (room_did a.size r)))
    did.field-1-is did.ensures.did)) (subst (IsRoomFor a.size) did.field-1-is did.ensures.answer))

pub returns-in-Did-default-Extended-clause-reads : goal.returns-in-Did-default-Extended-clause-reads
returns-in-Did-default-Extended-clause-reads c =
    let a = c.args in let pool = a.pool.now in let old = a.seat.now in let mid = c.room.new.seat in
    let did = c.in-Did-default-Extended in let u = view_of old in let v = view_of mid in
    let shape = pool.table.layout.shape in let left = c.nothing-in-Did-default-Extended in
    nothing_left (regrow shape (lane_of old) a.root a.size) (Ok a.size) u v left.result left.ensures
    (enough_noted shape (lane_of old) a.class a.size a.root c.requires.class u v a.size
    (room_noted pool old mid a.root a.size did._number Extended
    (subst (λ (r : Room). IsNoted pool old mid (Root a.root.place) did._number (access a.root (room_did a.size r)))
    did.field-1-is did.ensures.did)) (omega arith))

pub returns-in-Did-default-Short-clause-reads : goal.returns-in-Did-default-Short-clause-reads
returns-in-Did-default-Short-clause-reads c =
    let a = c.args in let pool = a.pool.now in let old = a.seat.now in let mid = c.room.new.seat in
    let did = c.in-Did-default-Short in let k = did._capacity in let next = c.ask_out in
    let shape = pool.table.layout.shape in let lane = lane_of old in let answer = next.result.0 in
    let left = next.result.1 in let new = view_of next.new.seat in
    let noted = subst (λ (r : Room).
    IsNoted pool old mid (Root a.root.place) did._number (access a.root (room_did a.size r))) did.field-1-is
    did.ensures.did in
    regrows_on (regrow shape lane a.root a.size) (grow_over shape lane a.class a.root a.size) left (view_of old)
    (view_of mid) new answer
    (short_noted shape lane a.class a.size a.root c.requires.class (view_of old) (view_of mid) k
    (room_noted pool old mid a.root a.size did._number (Short k) noted)
    (subst (IsRoomFor a.size) did.field-1-is did.ensures.answer))
    (subst (λ (l : ℕ). Regrows (grow_over shape l a.class a.root a.size) answer left (view_of mid) new)
    (noted_lane pool old mid (Root a.root.place) did._number _ noted) next.ensures.reads)
