use Rattle.std.proofs.Common.{◌≡◌, ℕ, ◌-◌, ◌<◌, ◌≤◌, arith, false, refl, sym, ap, ◌∙◌, subst}
use Rattle.std.specs.Prelude.{Option, IfSome}
use Rattle.step_law.specs.Settings.{Setting}
use Rattle.size_classes.specs.Sizes.{chunk_bytes}
use Rattle.pool_law.specs.declared.id.RegionId.{RegionId}
use Rattle.pool_law.specs.declared.note.Did.{Did}
use Rattle.pool_law.specs.declared.note.Noted.{Noted}
use Rattle.pool_law.specs.declared.note.Object.TheVariants.{Root}
use Rattle.pool_law.specs.Limits.{IsShape, geometry_of}
use Rattle.pool_law.specs.Naming.{noted_by}
use Rattle.pool_law.specs.Places.{IsInPlace}
use Rattle.pool_table.specs.declared.views.Entry.TheVariants.{At}
use Rattle.pool_table.specs.declared.views.Layout.{Layout}
use Rattle.pool_table.specs.declared.views.SeatView.{SeatView}
use Rattle.pool_table.specs.Capacities.{knows_of}
use Rattle.pool_table.specs.Hands.{HasRegion, PutsDown}
use Rattle.pool_table.specs.Seats.{view_of, HasView}
use Rattle.pool_table.specs.Sections.{MayEnd}
use Rattle.pool_table.specs.Views.{with_entry}
use Rattle.shared_pool.specs.Regrowing.{back_of, grown_capacity, grown_note}
use Rattle.shared_pool.specs.Standing.{HomeStands}
use Rattle.shared_pool.proofs.Endings.{ends, made}
use Rattle.shared_pool.proofs.SeatCalls.{seat_did}
use Rattle.shared_pool.proofs.SeatEnds.{held_seat}
use Rattle.shared_pool.proofs.RegrowCalls.{
  regrows_here,
  grown_next,
  grown_fits,
  grown_knows,
  grown_back,
  grown_hand,
  grown_is,
  grown_puts,
}
use Rattle.shared_pool.proofs.pool.SharedPool.grow.Goals as goal

pub grow-grown-requires-clause-may : goal.grow-grown-requires-clause-may
grow-grown-requires-clause-may c =
    regrows_here c.args.self.now.table.layout c.args.root c.args.seat.now.seat c.claim_place.new.seat c.in-Ok.section
    c.in-Ok.ensures.got c.requires.seat.setting c.requires.seat.settled c.requires.counts

pub overflow_add-used : goal.overflow_add-used
overflow_add-used c =
    let u : ℕ = c.args.region.id.uses in let small : u < 4611686018427387904 =
    c.in-Ok.ensures.got.learned.uses c.args.region.id c.requires.region.hand in
    omega (arith, small)

pub grow-grown-requires-clause-uses : goal.grow-grown-requires-clause-uses
grow-grown-requires-clause-uses c =
    let u : ℕ = c.args.region.id.uses in let small : u < 4611686018427387904 =
    c.in-Ok.ensures.got.learned.uses c.args.region.id c.requires.region.hand in let g : u < 18446744073709551615 =
    omega (arith, small) in
    g

pub note-number-requires-clause-section : goal.note-number-requires-clause-section
note-number-requires-clause-section c =
    let l = c.args.self.now.table.layout in let root = c.args.root in let got = c.in-Ok.ensures.got in let seat =
    c.requires.seat in let call = c.grow-grown in let given = c.requires.region in
    subst (MayEnd HomeStands l.shape c.claim_place.new.seat call.new.section)
    (sym (grown_is root c.args.asked c.args.region.id call.result c.noted-did.result c.noted-did.ensures))
    (ends l (Root root.place) c.args.seat.now.seat c.claim_place.new.seat c.in-Ok.section got seat.setting seat.settled
    call.new.section (grown_note root c.args.asked c.args.region.id call.result)
    (grown_next l root c.args.seat.now.seat c.claim_place.new.seat c.in-Ok.section got seat.setting seat.settled
    c.requires.counts call.new.section call.ensures.same.0 call.ensures.same.1 call.ensures.place c.args.asked
    c.args.region c.requires.long given.here (given.owner, given.class, given.len) call.result call.ensures.did))

pub note-number-requires-clause-hands : goal.note-number-requires-clause-hands
note-number-requires-clause-hands c =
    let got = c.in-Ok.ensures.got in let w = view_of c.claim_place.new.seat in
    subst (λ (x : Did × Option RegionId). PutsDown w x.0) (sym c.noted-did.ensures)
    (grown_puts w (view_of c.args.seat.now.seat) (Root c.args.root.place) got.history c.args.asked c.args.region.id
    c.grow-grown.result got.view c.requires.region.hand)

pub returns-clause-did : goal.returns-clause-did
returns-clause-did c =
    let l = c.args.self.now.table.layout in let root = c.args.root in let got = c.in-Ok.ensures.got in let seat =
    c.requires.seat in let call = c.grow-grown in let given = c.requires.region in
    let w = view_of c.claim_place.new.seat in
    made l (Root root.place) c.args.seat.now c.claim_place.new.seat c.in-Ok.section got seat.setting seat.settled
    c.args.self.now c.note-number.new.seat call.new.section c.note-number.result
    (grown_note root c.args.asked c.args.region.id call.result) refl
    (grown_next l root c.args.seat.now.seat c.claim_place.new.seat c.in-Ok.section got seat.setting seat.settled
    c.requires.counts call.new.section call.ensures.same.0 call.ensures.same.1 call.ensures.place c.args.asked
    c.args.region c.requires.long given.here (given.owner, given.class, given.len) call.result call.ensures.did)
    c.note-number.ensures.number
    (subst (λ (n : Noted). HasView c.note-number.new.seat
    (with_entry w (At call.new.section.object c.note-number.result (noted_by w.own.number n)) (w.turns - 1)))
    (grown_is root c.args.asked c.args.region.id call.result c.noted-did.result c.noted-did.ensures)
    c.note-number.ensures.noted)

pub returns-clause-answer : goal.returns-clause-answer
returns-clause-answer c =
    let l = c.args.self.now.table.layout in let root = c.args.root in let got = c.in-Ok.ensures.got in let seat =
    c.requires.seat in let call = c.grow-grown in let given = c.requires.region in
    grown_fits l root c.args.seat.now.seat c.claim_place.new.seat c.in-Ok.section got seat.setting seat.settled
    c.requires.counts call.new.section call.ensures.same.0 call.ensures.same.1 call.ensures.place c.args.asked
    c.args.region c.requires.long given.here (given.owner, given.class, given.len) call.result call.ensures.did

pub returns-clause-knows : goal.returns-clause-knows
returns-clause-knows c =
    let pool = c.args.self.now in let l = pool.table.layout in let root = c.args.root in
    let got = c.in-Ok.ensures.got in let seat = c.requires.seat in let call = c.grow-grown in
    let given = c.requires.region in
    let k : ℕ = grown_capacity c.args.asked call.result in
    let shape : IsShape l.shape = subst (λ (y : Layout). IsShape y.shape) (sym pool.same_layout) pool.shape in
    subst (λ (x : SeatView). (knows_of root x ≡ k) × (k ≤ chunk_bytes (geometry_of l.shape)))
    (λ i. (sym (returns-clause-did c).seat i).0)
    (grown_knows l root c.args.seat.now.seat c.claim_place.new.seat c.in-Ok.section got seat.setting seat.settled
    c.requires.counts call.new.section call.ensures.same.0 call.ensures.same.1 call.ensures.place c.args.asked
    c.args.region c.requires.long given.here (given.owner, given.class, given.len) call.result call.ensures.did
    shape c.note-number.result ((view_of c.args.seat.now.seat).turns - 1))

pub returns-clause-hands : goal.returns-clause-hands
returns-clause-hands c =
    let l = c.args.self.now.table.layout in let root = c.args.root in let got = c.in-Ok.ensures.got in let seat =
    c.requires.seat in let call = c.grow-grown in let given = c.requires.region in
    let back = back_of call.result in let v = view_of c.args.seat.now.seat in let has = (returns-clause-did c).seat in
    let known = grown_back l root c.args.seat.now.seat c.claim_place.new.seat c.in-Ok.section got seat.setting
    seat.settled c.requires.counts call.new.section call.ensures.same.0 call.ensures.same.1 call.ensures.place
    c.args.asked
    c.args.region c.requires.long given.here (given.owner, given.class, given.len) call.result call.ensures.did in
    record {
      hand =
          subst (HasRegion back.id) (λ i. (sym has i).0)
          (grown_hand l root c.args.seat.now.seat c.claim_place.new.seat c.in-Ok.section got seat.setting seat.settled
          c.requires.counts call.new.section call.ensures.same.0 call.ensures.same.1 call.ensures.place c.args.asked
          c.args.region c.requires.long given.here (given.owner, given.class, given.len) call.result call.ensures.did
          given.hand c.note-number.result (v.turns - 1));
      here =
          subst (λ (y : Option Setting). IfSome y (λ t. IsInPlace t.grounds back.id.place back.piece))
          (sym (ap (λ (m : SeatView × _). m.0.setting) has ∙ seat.settled)) known.0;
      owner = known.1.0;
      class = known.1.1;
      len = known.1.2;
    }

pub returns-clause-uses : goal.returns-clause-uses
returns-clause-uses c = c.in-Ok.ensures.got.learned.uses c.args.region.id c.requires.region.hand

pub returns-clause-seat : goal.returns-clause-seat
returns-clause-seat c =
    seat_did c.args.self.now c.args.seat.now c.claim_place.new.seat c.note-number.new.seat (Root c.args.root.place)
    c.note-number.result (grown_note c.args.root c.args.asked c.args.region.id c.grow-grown.result) refl c.requires.seat
    c.in-Ok.ensures.same c.note-number.ensures.same c.note-number.ensures.counts (returns-clause-did c)

pub returns-in-Err-clause-seat : goal.returns-in-Err-clause-seat
returns-in-Err-clause-seat c =
    held_seat c.args.self.now (Root c.args.root.place) false c.args.seat.now
    (record c.args.seat.now { seat = c.claim_place.new.seat }) c.in-Err.held c.requires.seat c.in-Err.ensures.same refl
    refl c.in-Err.ensures.held
