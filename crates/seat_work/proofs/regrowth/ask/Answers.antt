use Rattle.std.proofs.Common.{refl, sym, subst}
use Rattle.pool_table.specs.declared.views.SeatView.{SeatView}
use Rattle.pool_table.specs.Counts.{HasCount}
use Rattle.shared_pool.specs.Regrowing.{room_capacity}
use Rattle.shared_pool.specs.SeatViews.{view_of}
use Rattle.seat_work.specs.Hands.{empty_hand}
use Rattle.seat_work.specs.Changes.{no_change}
use Rattle.seat_work.specs.Growth.{is_quiet_but}
use Rattle.seat_work.proofs.Counting.{still_counts}
use Rattle.seat_work.proofs.Knowing.{learned}
use Rattle.seat_work.proofs.Later.{follows_same, later_asked}
use Rattle.seat_work.proofs.Proceeding.{proceeds_same, works_same}
use Rattle.seat_work.proofs.Regrowing.{asked_root, asks_room, told_noted, told_room, told_same}
use Rattle.pool_law.specs.Patterns.{found_room}
use Rattle.seat_work.specs.Readings.{NotesAs}
use Rattle.seat_work.proofs.GrowthNotes.{room_noted}
use Rattle.seat_work.proofs.regrowth.ask.Goals as goal

pub room-requires-clause-counts : goal.room-requires-clause-counts
room-requires-clause-counts g c =
    subst (λ (v : SeatView). HasCount c.args.root v) (sym c.loop.invariant.1) c.requires.counts

pub returns-in-Did : goal.returns-in-Did
returns-in-Did g c =
    let a = c.args in let pool = a.pool.now in let old = a.seat.now in let mid = c.loop.seat in
    let new = c.room.new.seat in let did = c.in-Did in let inv = c.loop.invariant in
    let all = proceeds_same pool no_change empty_hand 1 0 old mid new inv.1
    (asked_root pool mid new did.ensures.seat did._number a.root a.size did.room
    (works_same pool empty_hand 1 0 old mid inv.0 inv.1 c.requires.works) did.ensures.did) in
    let capacity = room_capacity a.size did.room in
    record {
      proceeds = all;
      counts = still_counts no_change (view_of old) (view_of new) a.root refl all.changes c.requires.counts;
      answer = did.ensures.answer;
      capacity = learned pool old new a.root capacity all.goes.knows did.ensures.knows;
      told =
          told_same pool a.root capacity old mid new inv.2 inv.1
          (told_noted pool a.root capacity mid new did.ensures.same inv.0 did.ensures.seat did._number _ did.ensures.did
          (asks_room a.root a.size did.room) (told_room a.root did._number (view_of mid).own.number a.size did.room));
      later =
          follows_same pool (is_quiet_but a.root) old mid new inv.2 inv.1
          (later_asked pool mid new did.ensures.same inv.0 did.ensures.seat a.root did.ensures.did
          (asks_room a.root a.size did.room));
      reads =
          subst (λ (v : SeatView). NotesAs (found_room a.root a.size) (room_capacity a.size did.room) v (view_of new))
          inv.1 (room_noted pool mid new a.root a.size did._number did.room did.ensures.did);
    }
