use Rattle.std.proofs.Common.{refl, sym, ap, subst, arith}
use Rattle.handle_bin.specs.Bins.{HandleValue}
use Rattle.pool_law.specs.Dids as says
use Rattle.pool_law.specs.Readers.{note}
use Rattle.shared_pool.specs.SeatViews.{view_of}
use Rattle.seat_work.specs.Readings.{NotesOn}
use Rattle.seat_work.proofs.Handles.{home_noted}
use Rattle.seat_work.proofs.Noting.{notes_none}
use Rattle.pool_law.specs.declared.note.Did.TheVariants.{Home}
use Rattle.pool_law.specs.declared.note.Object.TheVariants.{Bin}
use Rattle.shared_pool.specs.Notes.{plain}
use Rattle.seat_work.specs.Answers.{with_place}
use Rattle.seat_work.specs.Changes.{no_change}
use Rattle.seat_work.proofs.Calls.{handle_home}
use Rattle.seat_work.proofs.Holds.{holds_handle}
use Rattle.seat_work.proofs.Later.{later_noted}
use Rattle.seat_tries.proofs.Goings.{leaves_none, leaves_place}
use Rattle.seat_tries.proofs.Takings.{met_taken, noted_taken}
use Rattle.seat_tries.proofs.begun.put_handle.Goals as goal

pub put_handle-requires-clause-handle : goal.put_handle-requires-clause-handle
put_handle-requires-clause-handle c =
    let own = c.args.own in
    holds_handle c.args.pool.now c.args.seat.now (with_place own.place) own c.requires.works.held c.requires.handle

pub returns-in-Did : goal.returns-in-Did
returns-in-Did c =
    let pool = c.args.pool.now in let old = c.args.seat.now in let new = c.put_handle.new.seat in
    let did = c.in-Did in
    record {
      goes =
          leaves_none pool no_change 1 1 old new (omega arith)
          (handle_home pool old new did.ensures.seat did._number c.args.own c.requires.works did.ensures.did)
          (later_noted pool old new did.ensures.same c.requires.works.seat did.ensures.seat did.ensures.did refl);
      took =
          noted_taken pool old new (Bin c.args.own.lane) did._number (plain (Home c.args.own.place)) refl
          did.ensures.did;
      reads = home_noted pool old new c.args.own did._number did.ensures.did;
    }

pub returns-in-Held : goal.returns-in-Held
returns-in-Held c =
    let held = c.in-Held in let own = c.args.own in let found = held.ensures.held in
    let old = c.args.seat.now in let new = c.put_handle.new.seat in
    let homes = note (Bin own.lane) (says.home own.place) in
    record {
      goes =
          leaves_place c.args.pool.now old new (Bin own.lane) held._held held.ensures.same held.ensures.seat found.1 own
          held.handle 1 (omega arith) c.requires.works c.requires.handle found.0;
      took = met_taken c.args.pool.now old new (Bin own.lane) held._held found.1;
      reads =
          subst (λ (h : HandleValue).
          NotesOn homes (note (Bin h.lane) (says.home h.place)) (view_of old) (view_of new)) (sym found.0)
          (notes_none homes (view_of old) (view_of new) (ap (λ m. m.0) found.1.marked));
    }
