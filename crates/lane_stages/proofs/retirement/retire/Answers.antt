use Rattle.std.proofs.Common.{◌≡◌, ◌∙◌}
use Rattle.pool_law.specs.declared.note.Did.{Did}
use Rattle.pool_law.specs.declared.note.Note.{Note}
use Rattle.pool_law.specs.declared.note.Object.TheVariants.{Root}
use Rattle.pool_law.specs.declared.note.RefDid.TheVariants.{Vacated}
use Rattle.lane_stages.proofs.EndSteps.{root_ended, root_ended_uncached}
use Rattle.lane_stages.proofs.LogLaws.{wrote_two, room_behind}
use Rattle.lane_stages.proofs.retirement.retire.Goals as goal

pub write_note-requires-2 : goal.write_note-requires-2
write_note-requires-2 c = room_behind c.args.log.now c.write_note.new.log c.note_at.result c.write_note.ensures
    c.requires.room

pub returns-then-region-lt-CACHED_CLASSES : goal.returns-then-region-lt-CACHED_CLASSES
returns-then-region-lt-CACHED_CLASSES c =
    let call = c.retire-number in let token = c.args.token in let log = c.args.log.now in
    let it : c.note_at.result ≡ Note.At (Root token.root.place) call.result.number (Did.End token.root) =
    c.note_at.ensures
    ∙ (λ i. Note.At (Root (c.root-root.ensures i).place) call.result.number (Did.End (c.root-root.ensures i))) in
    let next_it : c.note_to.result ≡ Note.Ref token.root Vacated = c.note_to.ensures
    ∙ (λ i. Note.Ref (c.root-root.ensures i) Vacated) in
    let adds = wrote_two log c.write_note.new.log c.write_note-2.new.log c.note_at.result c.note_to.result
    c.write_note.ensures
    c.write_note-2.ensures in
    root_ended c.args.pool.now c.args.seat.now call.new.seat call.ensures.seat call.ensures.same token
    call.result.region call.result.handle call.result.number c.note_at.result c.note_to.result log
    c.write_note-2.new.log adds
    c.requires.may call.ensures.did call.ensures.region
    call.ensures.handle.0 call.ensures.handle.1 it next_it c.if-region-lt-CACHED_CLASSES.true

pub returns-else-region-lt-CACHED_CLASSES : goal.returns-else-region-lt-CACHED_CLASSES
returns-else-region-lt-CACHED_CLASSES c =
    let call = c.retire-number in let token = c.args.token in let log = c.args.log.now in
    let it : c.note_at.result ≡ Note.At (Root token.root.place) call.result.number (Did.End token.root) =
    c.note_at.ensures
    ∙ (λ i. Note.At (Root (c.root-root.ensures i).place) call.result.number (Did.End (c.root-root.ensures i))) in
    let next_it : c.note_to.result ≡ Note.Ref token.root Vacated = c.note_to.ensures
    ∙ (λ i. Note.Ref (c.root-root.ensures i) Vacated) in
    let adds = wrote_two log c.write_note.new.log c.write_note-2.new.log c.note_at.result c.note_to.result
    c.write_note.ensures
    c.write_note-2.ensures in
    root_ended_uncached c.args.pool.now c.args.seat.now call.new.seat call.ensures.seat call.ensures.same token
    call.result.region call.result.handle call.result.number c.note_at.result c.note_to.result log
    c.write_note-2.new.log adds
    c.requires.may call.ensures.did call.ensures.region
    call.ensures.handle.0 call.ensures.handle.1 it next_it c.if-region-lt-CACHED_CLASSES.false
