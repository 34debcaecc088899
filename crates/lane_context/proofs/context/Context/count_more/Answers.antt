use Rattle.std.proofs.Common.{◌<◌, List, [], ◌∷◌, refl, sym, ap, subst, arith, length, ◌-◌}
use Rattle.pool_law.specs.declared.note.Note.{Note}
use Rattle.lane_context.specs.declared.context.Context.{Context}
use Rattle.lane_context.specs.ContextSteps.{HasNoted}
use Rattle.lane_stages.specs.Allotments.{left_with}
use Rattle.lane_context.proofs.ContextLaws.{room_to_note}
use Rattle.lane_context.proofs.Commands.{counts_root, counted_place, few_of, alone_more, has_retained}
use Rattle.lane_stages.specs.declared.counts.Counted.{Counted}
use Rattle.lane_stages.specs.Counting.{counted}
use Rattle.shared_pool.specs.SeatViews.{view_of}
use Rattle.lane_context.proofs.context.Context.count_more.Goals as goal

pub retain-requires-clause-seat : goal.retain-requires-clause-seat
retain-requires-clause-seat c = c.requires.context.seat

pub retain-requires-clause-counts : goal.retain-requires-clause-counts
retain-requires-clause-counts c =
    counts_root c.args.pool.now c.args.self.now c.requires.context c.args.root c.requires.counts

pub retain-requires-clause-moves : goal.retain-requires-clause-moves
retain-requires-clause-moves c = let a = c.requires.room.moves in omega (arith, a)

pub note-requires : goal.note-requires
note-requires c =
    room_to_note c.args.pool.now (left_with 1 0 0 1) c.args.self.now c.requires.context c.requires.room (omega arith)

pub add-requires-clause-place : goal.add-requires-clause-place
add-requires-clause-place c =
    subst (λ (cs : List Counted). c.args.root.place < length cs)
    (sym (ap (λ (x : Context). x.counts) c.note.ensures.rest))
    (counted_place c.args.pool.now c.args.self.now c.requires.context c.args.root c.requires.counts)

pub add-requires-clause-alone : goal.add-requires-clause-alone
add-requires-clause-alone c = λ other at counts.
    let old = c.args.self.now in let start : Context = record old { seat = c.retain.new.seat } in
    alone_more c.args.pool.now old start c.requires.context c.args.root ((view_of old.seat).moves - 1)
    c.retain.ensures.seat c.retain.ensures.did (omega arith) c.requires.counts other at
    (subst (λ (cs : List Counted). 0 < counted cs other) (ap (λ (x : Context). x.counts) c.note.ensures.rest) counts)

pub add-requires-clause-few : goal.add-requires-clause-few
add-requires-clause-few c =
    subst (λ (cs : List Counted). counted cs c.args.root < 4294967295)
    (sym (ap (λ (x : Context). x.counts) c.note.ensures.rest))
    (few_of c.args.pool.now c.args.self.now c.requires.context c.args.root c.requires.counts c.requires.room)

pub returns : goal.returns
returns c =
    let old = c.args.self.now in let start : Context = record old { seat = c.retain.new.seat } in
    has_retained c.args.pool.now old start c.note.new.self c.args.root c.add.new.self refl c.retain.ensures.same
    c.retain.ensures.seat c.retain.ensures.did
    (subst (λ (n : Note). HasNoted start c.note.new.self (n ∷ [])) c.note_to.ensures c.note.ensures)
    (record { counts = c.add.ensures.counts; places = c.add.ensures.places })
