use Rattle.std.proofs.Common.{◌≡◌, ℕ, ◌++◌, List, length, sym, ap, ◌∙◌, subst, arith, length-append}
use Rattle.std.specs.Global.{Vec}
use Rattle.std.proofs.lemmas.List.{with_items_is}
use Rattle.pool_law.specs.declared.note.Did.{Did}
use Rattle.pool_law.specs.declared.note.Note.{Note}
use Rattle.pool_law.specs.declared.note.Object.TheVariants.{Root}
use Rattle.shared_pool.specs.SeatViews.{view_of}
use Rattle.lane_stages.proofs.NextNotes.{got_begins}
use Rattle.lane_stages.specs.declared.crossing.Crossing.TheVariants.{Get}
use Rattle.lane_stages.specs.declared.stage_step.StageStep.TheVariants.{Held as HeldBack}
use Rattle.lane_stages.specs.Crossings.{HasCrossed, bytes_of, parts_of}
use Rattle.lane_stages.proofs.CrossSteps.{first_counts, first_range, get_more, get_last, cross_held}
use Rattle.lane_stages.proofs.VecLaws.{with_own_items}
use Rattle.lane_stages.proofs.crossing.get_next.Goals as goal

pub read-requires-clause-counts : goal.read-requires-clause-counts
read-requires-clause-counts c =
    first_counts (view_of c.args.seat.now) c.args.first c.args.later.items c.requires.may.fits.0

pub read-requires-clause-range : goal.read-requires-clause-range
read-requires-clause-range c =
    first_range (view_of c.args.seat.now) c.args.first c.args.later.items c.requires.may.fits.0 c.deref_mut.result.now
    (ap (λ (bytes : List ℕ). length bytes) c.deref_mut.ensures.value)

pub append-requires : goal.append-requires
append-requires c =
    let first = c.args.first in let room = c.requires.may.fits.1 in
    let a = length-append first.bytes.items (bytes_of c.args.later.items) in
    let d = c.in-Did.ensures.len in let e = ap (λ (bytes : List ℕ). length bytes) c.deref_mut.ensures.value in
    let f = ap (λ (bytes : List ℕ). length bytes) c.deref.ensures.value in
    let whole = ap (λ (bytes : List ℕ). length bytes)
    (with_items_is first.bytes c.read.new.out (d ∙ e ∙ sym first.bytes.ok.0)) in
    omega (arith, room, a, d, e, f, whole)

pub returns-in-Some : goal.returns-in-Some
returns-in-Some c =
    let pool = c.args.pool.now in let old = c.args.seat.now in let new = c.read.new.seat in let did = c.in-Did in
    let first = c.args.first in let root = first.part.root in let bytes : List ℕ = c.read.new.out in
    let long : length bytes ≡ length first.bytes.items = did.ensures.len
    ∙ ap (λ (bs : List ℕ). length bs) c.deref_mut.ensures.value in
    let whole = with_items_is first.bytes bytes (long ∙ sym first.bytes.ok.0) in
    let it = c.note_at.ensures ∙ ap (λ (bs : List ℕ). Note.At (Root root.place) did.number (Did.Get first.part.offset
    bs))
    (c.of-bytes.ensures ∙ whole) in
    let all = c.append.ensures.items ∙ ap (λ (bs : List ℕ). c.args.got.items ++ bs) (c.deref.ensures.value ∙ whole) in
    get_more pool old new did.ensures.seat did.ensures.same first c.args.later c.args.got c.requires.may did.number
    bytes long did.ensures.did c.note_at.result it c.args.log.now c.write_note.new.log c.write_note.ensures
    c.append.new.bytes all
    c.append.ensures.room c.in-Some.first c.in-Some.later c.in-Some.ensures

pub returns-in-None : goal.returns-in-None
returns-in-None c =
    let pool = c.args.pool.now in let old = c.args.seat.now in let new = c.read.new.seat in let did = c.in-Did in
    let first = c.args.first in let root = first.part.root in let bytes : List ℕ = c.read.new.out in
    let long : length bytes ≡ length first.bytes.items = did.ensures.len
    ∙ ap (λ (bs : List ℕ). length bs) c.deref_mut.ensures.value in
    let whole = with_items_is first.bytes bytes (long ∙ sym first.bytes.ok.0) in
    let it = c.note_at.ensures ∙ ap (λ (bs : List ℕ). Note.At (Root root.place) did.number (Did.Get first.part.offset
    bs))
    (c.of-bytes.ensures ∙ whole) in
    let all = c.append.ensures.items ∙ ap (λ (bs : List ℕ). c.args.got.items ++ bs) (c.deref.ensures.value ∙ whole) in
    get_last pool old new did.ensures.seat did.ensures.same first c.args.later c.args.got c.requires.may did.number
    bytes long did.ensures.did c.note_at.result it c.args.log.now c.write_note.new.log c.write_note.ensures
    c.append.new.bytes all
    c.append.ensures.room c.in-None.ensures

pub returns-in-Held : goal.returns-in-Held
returns-in-Held c =
    let pool = c.args.pool.now in let old = c.args.seat.now in let new = c.read.new.seat in let held = c.in-Held in
    let first = c.args.first in let log = c.args.log.now in let later = c.args.later in let got = c.args.got in
    let same = held.ensures.held.0 ∙ c.deref_mut.ensures.value in
    subst (λ (b : Vec ℕ). HasCrossed pool old new log log (Get first later got)
    (HeldBack held.held (Get (record first { bytes = b }) later got)))
    (sym (with_own_items first.bytes c.read.new.out same))
    (cross_held pool old new held.ensures.seat held.ensures.same (Root first.part.root.place) held.held
    (Get first later got) log c.requires.may held.ensures.held.1
    (got_begins first.part (parts_of later.items) got.items))
