use Rattle.std.proofs.Common.{ap, refl, subst, sym, ◌∙◌, arith}
use Rattle.size_classes.specs.Sizes.{size_at}
use Rattle.pool_law.specs.declared.id.Region.{Region}
use Rattle.pool_law.specs.declared.note.Object.TheVariants.{Root}
use Rattle.shared_pool.specs.Holding.{HoldsRegion}
use Rattle.shared_pool.specs.Knowing.{KnowsOf}
use Rattle.shared_pool.specs.Regrowing.{IsGrownFor, back_of, grown_capacity, grown_note}
use Rattle.shared_pool.specs.Seats.{IsNoted}
use Rattle.shared_pool.specs.declared.went.Grown.{Grown}
use Rattle.seat_work.specs.Hands.{empty_hand}
use Rattle.seat_work.proofs.Holds.{holds_region}
use Rattle.lane_stages.specs.Growings.{HasGrown, leaving}
use Rattle.lane_stages.specs.declared.growing.Growing.{Growing}
use Rattle.lane_stages.specs.declared.growing.Growing.TheVariants.{Grow}
use Rattle.lane_stages.specs.declared.stage_step.StageStep.TheVariants.{More}
use Rattle.lane_stages.proofs.GrowEnds.{grow_found, grow_extended, grow_replaced}
use Rattle.lane_stages.proofs.GrowSteps.{grow_held}
use Rattle.lane_stages.proofs.NextNotes.{then_begins, grown_begins}
use Rattle.lane_stages.proofs.growing.grow_into.Goals as goal

pub grow-requires-clause-region : goal.grow-requires-clause-region
grow-requires-clause-region c =
    let may = c.requires.may in
    holds_region c.args.pool.now c.args.seat.now empty_hand c.args.region may.hand may.fits.1

pub grow-requires-clause-long : goal.grow-requires-clause-long
grow-requires-clause-long c =
    let fits = c.requires.may.fits in let a = c.requires.size in let len = fits.1.len in let same = ap size_at fits.2 in
    omega (arith, a, len, same)

pub returns-in-Did-default-Enough : goal.returns-in-Did-default-Enough
returns-in-Did-default-Enough c =
    let pool = c.args.pool.now in let old = c.args.seat.now in let new = c.grow.new.seat in let want = c.args.want in
    let did = c.in-Did-default-Enough in let root = want.root in let log = c.args.log.now in let region =
    c.args.region in let at = c.note_at in let wrote = c.write_note in let size = want.size in
    let noted = subst (λ (x : Grown). IsNoted pool old new (Root root.place) did.number
    (grown_note root size region.id x)) did.field-1-is did.ensures.did in
    let answer = subst (λ (x : Grown). IsGrownFor size region x) did.field-1-is did.ensures.answer in
    let knows = subst (λ (x : Grown). KnowsOf pool new root (grown_capacity size x)) did.field-1-is did.ensures.knows in
    let holds = subst (λ (x : Grown). HoldsRegion pool new (back_of x)) did.field-1-is did.ensures.hands in
    subst (λ (g : Growing). HasGrown pool old new log wrote.new.log root size want.class (Grow region) (More g))
    (ap (λ (r : Region). leaving did.capacity r) (sym answer.1) ∙ sym c.leaving.ensures)
    (grow_found pool old new root size want.class did.ensures.seat did.ensures.same region c.requires.may did.number
    at.result log wrote.new.log wrote.ensures did.capacity (noted, at.ensures) answer.0 knows
    (subst (λ (r : Region). HoldsRegion pool new r) answer.1 holds))

pub returns-in-Did-default-Extended : goal.returns-in-Did-default-Extended
returns-in-Did-default-Extended c =
    let pool = c.args.pool.now in let old = c.args.seat.now in let new = c.grow.new.seat in let want = c.args.want in
    let did = c.in-Did-default-Extended in let root = want.root in let log = c.args.log.now in let region =
    c.args.region in let at = c.note_at-in-Did-default-Extended in let wrote = c.write_note-in-Did-default-Extended in
    let size = want.size in
    let noted = subst (λ (x : Grown). IsNoted pool old new (Root root.place) did.number
    (grown_note root size region.id x)) did.field-1-is did.ensures.did in
    let answer = subst (λ (x : Grown). IsGrownFor size region x) did.field-1-is did.ensures.answer in
    let knows = subst (λ (x : Grown). KnowsOf pool new root (grown_capacity size x)) did.field-1-is did.ensures.knows in
    let holds = subst (λ (x : Grown). HoldsRegion pool new (back_of x)) did.field-1-is did.ensures.hands in
    subst (λ (g : Growing). HasGrown pool old new log wrote.new.log root size want.class (Grow region) (More g))
    (ap (λ (r : Region). leaving size r) (sym answer) ∙ sym c.leaving-in-Did-default-Extended.ensures)
    (grow_extended pool old new root size want.class did.ensures.seat did.ensures.same region c.requires.may did.number
    at.result log wrote.new.log wrote.ensures (noted, at.ensures) knows
    (subst (λ (r : Region). HoldsRegion pool new r) answer holds))

pub returns-in-Did-default-Replaced : goal.returns-in-Did-default-Replaced
returns-in-Did-default-Replaced c =
    let pool = c.args.pool.now in let old = c.args.seat.now in let new = c.grow.new.seat in let want = c.args.want in
    let did = c.in-Did-default-Replaced in let root = want.root in let log = c.args.log.now in let region =
    c.args.region in let at = c.note_at-in-Did-default-Replaced in let wrote = c.write_note-in-Did-default-Replaced in
    let size = want.size in
    let noted = subst (λ (x : Grown). IsNoted pool old new (Root root.place) did.number
    (grown_note root size region.id x)) did.field-1-is did.ensures.did in
    let knows = subst (λ (x : Grown). KnowsOf pool new root (grown_capacity size x)) did.field-1-is did.ensures.knows in
    let holds = subst (λ (x : Grown). HoldsRegion pool new (back_of x)) did.field-1-is did.ensures.hands in
    subst (λ (g : Growing). HasGrown pool old new log wrote.new.log root size want.class (Grow region) (More g))
    (sym c.leaving-in-Did-default-Replaced.ensures)
    (grow_replaced pool old new root size want.class did.ensures.seat did.ensures.same region c.requires.may did.number
    at.result log wrote.new.log wrote.ensures did.left (noted, at.ensures) knows holds)

pub returns-in-Held : goal.returns-in-Held
returns-in-Held c =
    let pool = c.args.pool.now in let old = c.args.seat.now in let new = c.grow.new.seat in let held = c.in-Held in
    let want = c.args.want in let root = want.root in let region = c.args.region in
    grow_held pool old new root want.size want.class held.ensures.seat held.ensures.same (Root root.place) held.held
    (Grow region) (Grow held.region) c.args.log.now c.requires.may refl held.ensures.held.1
    (ap (λ (r : Region). Grow r) held.ensures.held.0)
    (then_begins (Root root.place) _ _ (grown_begins root want.size region.id))
