use Rattle.std.proofs.Common.{None, Some, ℕ, ◌≤◌, refl, sym, subst}
use Rattle.pool_law.specs.declared.id.Region.{Region}
use Rattle.pool_law.specs.declared.note.Object.TheVariants.{Root}
use Rattle.pool_table.specs.declared.views.SeatView.{SeatView}
use Rattle.pool_table.specs.Counts.{HasCount}
use Rattle.shared_pool.specs.Holding.{HoldsRegion}
use Rattle.shared_pool.specs.Regrowing.{back_of, grown_capacity, grown_note, IsGrownFor}
use Rattle.shared_pool.specs.Seats.{IsNoted}
use Rattle.shared_pool.specs.SeatViews.{view_of}
use Rattle.seat_work.specs.Answers.{hand_with}
use Rattle.seat_work.specs.Changes.{no_change}
use Rattle.seat_work.specs.Growth.{is_quiet_but}
use Rattle.seat_work.proofs.Counting.{still_counts}
use Rattle.seat_work.proofs.Holds.{holds_region, is_region, region_stays}
use Rattle.seat_work.proofs.Knowing.{learned}
use Rattle.seat_work.proofs.Later.{follows_same, later_asked}
use Rattle.seat_work.proofs.Proceeding.{proceeds_same, works_same}
use Rattle.seat_work.proofs.Regrowing.{asks_grown, grown_root, told_grown, told_noted, told_same}
use Rattle.pool_law.specs.Patterns.{grown as grows}
use Rattle.seat_work.specs.Readings.{NotesAs}
use Rattle.seat_work.specs.Regrowths.{as_grown}
use Rattle.seat_work.proofs.GrowthNotes.{grown_noted}
use Rattle.seat_work.proofs.regrowth.move_into.Goals as goal

pub grow-requires-clause-counts : goal.grow-requires-clause-counts
grow-requires-clause-counts g c =
    subst (λ (v : SeatView). HasCount c.args.root v) (sym c.loop.invariant.1) c.requires.counts

pub grow-requires-clause-region : goal.grow-requires-clause-region
grow-requires-clause-region g c =
    let pool = c.args.pool.now in let old = c.args.seat.now in let mid = c.loop.seat in let inv = c.loop.invariant in
    let own = c.args.own in let hand = hand_with None (Some own) in
    let works = works_same pool hand 1 0 old mid inv.0 inv.1 c.requires.works in
    subst (λ (r : Region). HoldsRegion pool mid r) (sym inv.2)
    (holds_region pool mid hand own works.held
    (region_stays pool old mid own (λ i. (inv.1 i).setting) c.requires.region))

pub grow-requires-clause-long : goal.grow-requires-clause-long
grow-requires-clause-long g c =
    let own = c.args.own in let size = c.args.size in
    subst (λ (r : Region). size ≤ r.id.place.len) (sym c.loop.invariant.2)
    (subst (λ (n : ℕ). size ≤ n) (sym c.requires.region.len) c.requires.long)

pub returns-in-Did : goal.returns-in-Did
returns-in-Did g c =
    let a = c.args in let pool = a.pool.now in let old = a.seat.now in let mid = c.loop.seat in
    let new = c.grow.new.seat in let did = c.in-Did in let inv = c.loop.invariant in let out = did.grown in
    let hand = hand_with None (Some a.own) in
    let answer : IsGrownFor a.size a.own out =
    subst (λ (r : Region). IsGrownFor a.size r out) inv.2 did.ensures.answer in
    let noted : IsNoted pool mid new (Root a.root.place) did._number (grown_note a.root a.size a.own.id out) =
    subst (λ (r : Region). IsNoted pool mid new (Root a.root.place) did._number (grown_note a.root a.size r.id out))
    inv.2 did.ensures.did in
    let all = proceeds_same pool no_change (hand_with None (Some (back_of out))) 1 0 old mid new inv.1
    (grown_root pool mid new did.ensures.seat did._number a.root a.size a.own
    (works_same pool hand 1 0 old mid inv.0 inv.1 c.requires.works) out answer noted) in
    let capacity = grown_capacity a.size out in let asks = asks_grown a.root a.size a.own.id out in
    record {
      proceeds = all;
      counts = still_counts no_change (view_of old) (view_of new) a.root refl all.changes c.requires.counts;
      answer = answer;
      capacity = learned pool old new a.root capacity all.goes.knows did.ensures.knows;
      told =
          told_same pool a.root capacity old mid new inv.3 inv.1
          (told_noted pool a.root capacity mid new did.ensures.same inv.0 did.ensures.seat did._number _ noted asks
          (told_grown a.root did._number (view_of mid).own.number a.size a.own.id out));
      region = is_region pool new (back_of out) did.ensures.hands;
      later =
          follows_same pool (is_quiet_but a.root) old mid new inv.3 inv.1
          (later_asked pool mid new did.ensures.same inv.0 did.ensures.seat a.root noted asks);
      reads =
          subst (λ (v : SeatView). NotesAs (grows a.root a.size a.own.id) (as_grown a.size out) v (view_of new)) inv.1
          (grown_noted pool mid new a.root a.size did._number a.own out answer noted);
    }
