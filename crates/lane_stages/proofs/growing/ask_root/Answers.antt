use Rattle.std.proofs.Common.{refl, subst, sym}
use Rattle.pool_law.specs.declared.note.Object.TheVariants.{Root}
use Rattle.shared_pool.specs.Knowing.{KnowsOf}
use Rattle.shared_pool.specs.Regrowing.{IsRoomFor, room_capacity, room_did}
use Rattle.shared_pool.specs.RootNotes.{access}
use Rattle.shared_pool.specs.Seats.{IsNoted}
use Rattle.shared_pool.specs.declared.went.Room.{Room}
use Rattle.lane_stages.specs.Growings.{HasGrown}
use Rattle.lane_stages.specs.declared.growing.Growing.{Growing}
use Rattle.lane_stages.specs.declared.growing.Growing.TheVariants.{Ask}
use Rattle.lane_stages.specs.declared.stage_step.StageStep.TheVariants.{More}
use Rattle.lane_stages.proofs.NextNotes.{then_begins, room_begins}
use Rattle.lane_stages.proofs.GrowAsks.{room_enough, room_extended, room_short}
use Rattle.lane_stages.proofs.GrowSteps.{grow_held}
use Rattle.lane_stages.proofs.growing.ask_root.Goals as goal

pub returns-in-Did-default-Enough : goal.returns-in-Did-default-Enough
returns-in-Did-default-Enough c =
    let pool = c.args.pool.now in let old = c.args.seat.now in let new = c.room.new.seat in let want = c.args.want in
    let did = c.in-Did-default-Enough in let root = want.root in let log = c.args.log.now in
    let noted = subst (λ (x : Room). IsNoted pool old new (Root root.place) did.number
    (access root (room_did want.size x))) did.field-1-is did.ensures.did in
    let le = subst (λ (x : Room). IsRoomFor want.size x) did.field-1-is did.ensures.answer in
    let knows = subst (λ (x : Room). KnowsOf pool new root (room_capacity want.size x)) did.field-1-is
    did.ensures.knows in
    room_enough pool old new root want.size want.class did.ensures.seat did.ensures.same c.requires.may c.requires.class
    did.number c.note_at.result log c.write_note.new.log c.write_note.ensures did.capacity (noted, c.note_at.ensures)
    le knows

pub returns-in-Did-default-Extended : goal.returns-in-Did-default-Extended
returns-in-Did-default-Extended c =
    let pool = c.args.pool.now in let old = c.args.seat.now in let new = c.room.new.seat in let want = c.args.want in
    let did = c.in-Did-default-Extended in let root = want.root in let log = c.args.log.now in
    let at = c.note_at-in-Did-default-Extended in let wrote = c.write_note-in-Did-default-Extended in
    let noted = subst (λ (x : Room). IsNoted pool old new (Root root.place) did.number
    (access root (room_did want.size x))) did.field-1-is did.ensures.did in
    let knows = subst (λ (x : Room). KnowsOf pool new root (room_capacity want.size x)) did.field-1-is
    did.ensures.knows in
    room_extended pool old new root want.size want.class did.ensures.seat did.ensures.same c.requires.may
    c.requires.class did.number at.result log wrote.new.log wrote.ensures (noted, at.ensures) knows

pub returns-in-Did-default-Short : goal.returns-in-Did-default-Short
returns-in-Did-default-Short c =
    let pool = c.args.pool.now in let old = c.args.seat.now in let new = c.room.new.seat in let want = c.args.want in
    let did = c.in-Did-default-Short in let root = want.root in let log = c.args.log.now in
    let at = c.note_at-in-Did-default-Short in let wrote = c.write_note-in-Did-default-Short in
    let noted = subst (λ (x : Room). IsNoted pool old new (Root root.place) did.number
    (access root (room_did want.size x))) did.field-1-is did.ensures.did in
    let lt = subst (λ (x : Room). IsRoomFor want.size x) did.field-1-is did.ensures.answer in
    subst (λ (g : Growing). HasGrown pool old new log wrote.new.log root want.size want.class Ask (More g))
    (sym c.obtaining.ensures)
    (room_short pool old new root want.size want.class did.ensures.seat did.ensures.same c.requires.may c.requires.class
    did.number at.result log wrote.new.log wrote.ensures did.capacity (noted, at.ensures) lt)

pub returns-in-Held : goal.returns-in-Held
returns-in-Held c =
    let pool = c.args.pool.now in let old = c.args.seat.now in let new = c.room.new.seat in let want = c.args.want in
    let held = c.in-Held in let root = want.root in
    grow_held pool old new root want.size want.class held.ensures.seat held.ensures.same (Root root.place) held.held
    Ask Ask c.args.log.now c.requires.may refl held.ensures.held refl
    (then_begins (Root root.place) _ _ (room_begins root want.size))
