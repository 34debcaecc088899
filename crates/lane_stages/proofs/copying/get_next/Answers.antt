use Rattle.std.proofs.Common.{◌≡◌, ℕ, List, length, sym, ap, ◌∙◌, subst, arith}
use Rattle.std.specs.Global.{Vec}
use Rattle.std.proofs.lemmas.List.{with_items_is}
use Rattle.pool_law.specs.declared.note.Did.{Did}
use Rattle.pool_law.specs.declared.note.Note.{Note}
use Rattle.pool_law.specs.declared.note.Object.TheVariants.{Root}
use Rattle.pool_law.specs.Dids as says
use Rattle.shared_pool.specs.SeatViews.{view_of}
use Rattle.lane_stages.proofs.NextNotes.{then_begins, access_begins}
use Rattle.lane_stages.specs.declared.copying.Copying.TheVariants.{Get}
use Rattle.lane_stages.specs.declared.stage_step.StageStep.TheVariants.{Held as HeldBack}
use Rattle.lane_stages.specs.Copyings.{HasCopied}
use Rattle.lane_stages.proofs.CopySteps.{first_within, first_range, copy_got, copy_held}
use Rattle.lane_stages.proofs.VecLaws.{with_own_items}
use Rattle.lane_stages.proofs.copying.get_next.Goals as goal

pub read-requires-clause-counts : goal.read-requires-clause-counts
read-requires-clause-counts c =
    (first_within (view_of c.args.seat.now) c.args.first c.args.later.items c.requires.may.fits.1).counts

pub read-requires-clause-range : goal.read-requires-clause-range
read-requires-clause-range c =
    first_range (view_of c.args.seat.now) c.args.first c.args.later.items c.requires.may.fits.1 c.deref_mut.result.now
    (ap (λ (bytes : List ℕ). length bytes) c.deref_mut.ensures.value)

pub copy_from_slice-requires : goal.copy_from_slice-requires
copy_from_slice-requires c =
    let first = c.args.first in
    let is = first_within (view_of c.args.seat.now) first c.args.later.items c.requires.may.fits.1 in
    let a = is.got in let b = is.set in let d = c.in-Did.ensures.len in
    let e = ap (λ (bytes : List ℕ). length bytes) c.deref_mut.ensures.value in
    let f = ap (λ (bytes : List ℕ). length bytes) c.deref.ensures.value in
    let whole = ap (λ (bytes : List ℕ). length bytes)
    (with_items_is first.got c.read.new.out (d ∙ e ∙ sym first.got.ok.0)) in
    omega (arith, a, b, d, e, f, whole)

pub returns-in-Did : goal.returns-in-Did
returns-in-Did c =
    let pool = c.args.pool.now in let old = c.args.seat.now in let new = c.read.new.seat in let did = c.in-Did in
    let first = c.args.first in let root = first.part.root in let bytes : List ℕ = c.read.new.out in
    let long : length bytes ≡ length first.got.items = did.ensures.len
    ∙ ap (λ (bs : List ℕ). length bs) c.deref_mut.ensures.value in
    let whole = with_items_is first.got bytes (long ∙ sym first.got.ok.0) in
    let it = c.note_at.ensures ∙ ap (λ (bs : List ℕ). Note.At (Root root.place) did.number (Did.Get first.part.offset
    bs))
    (c.of-got.ensures ∙ whole) in
    copy_got pool old new did.ensures.seat did.ensures.same c.args.goal.0 c.args.goal.1 first c.args.later
    c.requires.may did.number bytes long did.ensures.did c.note_at.result it c.args.log.now c.write_note.new.log
    c.write_note.ensures
    c.copy_from_slice.new.self (c.copy_from_slice.ensures.items ∙ c.deref.ensures.value ∙ whole)

pub returns-in-Held : goal.returns-in-Held
returns-in-Held c =
    let pool = c.args.pool.now in let old = c.args.seat.now in let new = c.read.new.seat in let held = c.in-Held in
    let first = c.args.first in let log = c.args.log.now in let root = c.args.goal.0 in let at = c.args.goal.1 in
    let later = c.args.later in let same = held.ensures.held.0 ∙ c.deref_mut.ensures.value in
    subst (λ (b : Vec ℕ). HasCopied pool old new log log (Get root at first later)
    (HeldBack held.held (Get root at (record first { got = b }) later)))
    (sym (with_own_items first.got c.read.new.out same))
    (copy_held pool old new held.ensures.seat held.ensures.same (Root first.part.root.place) held.held
    (Get root at first later) log c.requires.may held.ensures.held.1
    (then_begins (Root first.part.root.place) _ _
    (access_begins (says.get first.part.offset first.part.len) first.part.root)))
