use Rattle.std.proofs.Common.{◌+◌, ◌≤◌, None, Some, refl, sym, ap, subst, arith}
use Rattle.pool_law.specs.declared.id.Region.{Region}
use Rattle.pool_law.specs.declared.note.Did.TheVariants.{Give}
use Rattle.pool_law.specs.declared.note.Object.TheVariants.{Arena}
use Rattle.pool_law.specs.Patterns.{give_back}
use Rattle.shared_pool.specs.Notes.{plain}
use Rattle.shared_pool.specs.SeatViews.{view_of}
use Rattle.seat_work.specs.Answers.{hand_with}
use Rattle.seat_work.specs.Readings.{NotesOn}
use Rattle.seat_work.proofs.Calls.{gave_region}
use Rattle.seat_work.proofs.Holds.{holds_region}
use Rattle.seat_work.proofs.Later.{later_has, later_noted}
use Rattle.seat_work.proofs.Noting.{notes_none}
use Rattle.seat_work.proofs.RegionNotes.{give_noted}
use Rattle.seat_tries.proofs.Takings.{met_taken, noted_taken}
use Rattle.pool_member.specs.declared.pending.Pending.{Pending}
use Rattle.pool_member.specs.Pendings.{left_of, PutsAway}
use Rattle.pool_member.specs.Returns.{given, given_with}
use Rattle.pool_member.proofs.Pendings.{none_away, piece_away}
use Rattle.pool_member.proofs.Returns.{gave_given, later_given}
use Rattle.pool_member.proofs.work.settling.give.Goals as goal

pub give-requires-clause-region : goal.give-requires-clause-region
give-requires-clause-region c =
    let own = c.args.own in
    holds_region c.args.pool.now c.args.seat.now (hand_with None (Some own)) own c.requires.works.held
    c.requires.region

pub returns-in-Did-clause-away : goal.returns-in-Did-clause-away
returns-in-Did-clause-away c =
    let pool = c.args.pool.now in let old = c.args.seat.now in let new = c.give.new.seat in let did = c.in-Did in
    subst (PutsAway pool 1 old new) (sym c.nothing.ensures)
    (none_away pool old new 1 1 (omega arith)
    (gave_region pool old new did.ensures.seat did._number None c.args.own c.requires.works did.ensures.did)
    (later_noted pool old new did.ensures.same c.requires.works.seat did.ensures.seat did.ensures.did refl))

pub returns-in-Held-clause-away : goal.returns-in-Held-clause-away
returns-in-Held-clause-away c =
    let held = c.in-Held in let own = c.args.own in let found = held.ensures.held in
    piece_away c.args.pool.now c.args.seat.now c.give.new.seat own held.region (Arena own.id.place.arena) held._held
    held.ensures.same held.ensures.seat found.1 c.requires.works c.requires.region found.0

pub returns-in-Did-clause-returned : goal.returns-in-Did-clause-returned
returns-in-Did-clause-returned c =
    let own = c.args.own in let old = c.args.seat.now in let new = c.give.new.seat in let did = c.in-Did in
    subst (λ (p : Pending). given old + 1 ≤ given_with new p) (sym c.nothing.ensures)
    (gave_given c.args.pool.now old new c.requires.works.seat did.ensures.seat (Arena own.id.place.arena) did._number
    own.id did.ensures.did)

pub returns-in-Held-clause-returned : goal.returns-in-Held-clause-returned
returns-in-Held-clause-returned c =
    let pool = c.args.pool.now in let old = c.args.seat.now in let new = c.give.new.seat in
    let held = c.in-Held in
    let le = later_given pool old new
    (later_has pool old new held.ensures.same c.requires.works.seat held.ensures.seat held.ensures.held.1.marked) in
    omega (arith, le)

pub returns-in-Did-clause-reads : goal.returns-in-Did-clause-reads
returns-in-Did-clause-reads c =
    let own = c.args.own in let old = c.args.seat.now in let new = c.give.new.seat in let did = c.in-Did in
    subst (λ (p : Pending). NotesOn (give_back own.id) (left_of p) (view_of old) (view_of new)) (sym c.nothing.ensures)
    (give_noted c.args.pool.now old new own.id did._number did.ensures.did)

pub returns-in-Held-clause-reads : goal.returns-in-Held-clause-reads
returns-in-Held-clause-reads c =
    let own = c.args.own in let old = c.args.seat.now in let new = c.give.new.seat in
    let found = c.in-Held.ensures.held in
    subst (λ (r : Region). NotesOn (give_back own.id) (give_back r.id) (view_of old) (view_of new)) (sym found.0)
    (notes_none (give_back own.id) (view_of old) (view_of new) (ap (λ m. m.0) found.1.marked))

pub returns-in-Did-clause-took : goal.returns-in-Did-clause-took
returns-in-Did-clause-took c =
    let id = c.args.own.id in
    noted_taken c.args.pool.now c.args.seat.now c.give.new.seat (Arena id.place.arena) c.in-Did._number
    (plain (Give id)) refl c.in-Did.ensures.did

pub returns-in-Held-clause-took : goal.returns-in-Held-clause-took
returns-in-Held-clause-took c =
    met_taken c.args.pool.now c.args.seat.now c.give.new.seat (Arena c.args.own.id.place.arena) c.in-Held._held
    c.in-Held.ensures.held.1
