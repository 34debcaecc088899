use Rattle.std.proofs.Common.{ℕ, ◌+◌, List, length, sym, ap, ◌∙◌, subst, arith}
use Rattle.pool_law.specs.declared.note.Did.{Did}
use Rattle.pool_law.specs.declared.note.Note.{Note}
use Rattle.pool_law.specs.declared.note.Object.TheVariants.{Root}
use Rattle.pool_law.specs.Dids as says
use Rattle.shared_pool.specs.RootNotes.{access}
use Rattle.shared_pool.specs.Seats.{IsNoted}
use Rattle.shared_pool.specs.SeatViews.{view_of}
use Rattle.lane_stages.proofs.Knowing.{knows_name}
use Rattle.lane_stages.proofs.NextNotes.{then_begins, access_begins}
use Rattle.lane_stages.specs.declared.copying.Copying.TheVariants.{Set}
use Rattle.lane_stages.proofs.CopySteps.{copy_more, copy_done, copy_held}
use Rattle.lane_stages.proofs.VecLaws.{first-is, none-in, some-in}
use Rattle.lane_stages.proofs.copying.set_next.Goals as goal

pub write-requires-clause-counts : goal.write-requires-clause-counts
write-requires-clause-counts c = c.requires.may.fits.0

pub write-requires-clause-range : goal.write-requires-clause-range
write-requires-clause-range c =
    let a = c.requires.may.fits.2 in let b = ap (λ (bytes : List ℕ). length bytes) c.deref.ensures.value in
    let k = knows_name c.args.goal.0 (view_of c.args.seat.now) in omega (arith, a, b, k)

pub returns-then-is_empty : goal.returns-then-is_empty
returns-then-is_empty c =
    let pool = c.args.pool.now in let old = c.args.seat.now in let new = c.write.new.seat in let did = c.in-Did in
    let root = c.args.goal.0 in let at = c.args.goal.1 in
    let noted = subst (λ (bytes : List ℕ). IsNoted pool old new (Root root.place) did.number
    (access root (Did.Set at bytes))) c.deref.ensures.value did.ensures.did in
    let it = c.note_at.ensures
    ∙ ap (λ (bytes : List ℕ). Note.At (Root root.place) did.number (Did.Set at bytes)) c.of-bytes.ensures in
    copy_done pool old new did.ensures.seat did.ensures.same root at c.args.bytes c.args.later c.requires.may did.number
    noted c.note_at.result it c.args.log.now c.write_note.new.log c.write_note.ensures
    (none-in c.args.later (sym c.is_empty.ensures ∙ c.if-is_empty.true))

pub returns-else-is_empty : goal.returns-else-is_empty
returns-else-is_empty c =
    let pool = c.args.pool.now in let old = c.args.seat.now in let new = c.write.new.seat in let did = c.in-Did in
    let root = c.args.goal.0 in let at = c.args.goal.1 in let later = c.args.later in let call = c.remove-first in
    let noted = subst (λ (bytes : List ℕ). IsNoted pool old new (Root root.place) did.number
    (access root (Did.Set at bytes))) c.deref.ensures.value did.ensures.did in
    let it = c.note_at.ensures
    ∙ ap (λ (bytes : List ℕ). Note.At (Root root.place) did.number (Did.Set at bytes)) c.of-bytes.ensures in
    let some = some-in later (sym c.is_empty.ensures ∙ c.if-is_empty.false) in
    copy_more pool old new did.ensures.seat did.ensures.same root at c.args.bytes later c.requires.may did.number noted
    c.note_at.result it c.args.log.now c.write_note.new.log c.write_note.ensures (at + c.len.result)
    (omega (arith, c.len.ensures, c.args.bytes.ok.0)) call.result call.new.self
    (first-is later.items call.result call.new.self.items some call.ensures.value call.ensures.items)

pub returns-in-Held : goal.returns-in-Held
returns-in-Held c =
    let held = c.in-Held in let root = c.args.goal.0 in
    copy_held c.args.pool.now c.args.seat.now c.write.new.seat held.ensures.seat held.ensures.same (Root root.place)
    held.held (Set root c.args.goal.1 c.args.bytes c.args.later) c.args.log.now c.requires.may held.ensures.held
    (then_begins (Root root.place) _ _ (access_begins (says.set c.args.goal.1 c.args.bytes.items) root))
