use Rattle.std.proofs.Common.{◌<◌, ◌*◌, ◌∙◌, ◌/◌}
use mathlib.Core.Option.{none}
use Rattle.atomic_table.specs.Table.{step}
use Rattle.pool_table.specs.Slots.{slots_of, slot_of}
use Rattle.pool_law.specs.declared.note.Object.TheVariants.{Root}
use Rattle.pool_table.specs.Words.{word_of}
use Rattle.pool_table.specs.Sound.{WasHeld}
use Rattle.pool_table.specs.Steps.{GotIn}
use Rattle.pool_table.proofs.Places.{never_held}
use Rattle.pool_table.proofs.Calls.{got_in, was_held, took}
use Rattle.pool_table.proofs.RootCalls.{held_place}
use Rattle.std.proofs.Common.{ap}
use Rattle.pool_table.proofs.SeatFields.{fits_as, fits_claims}
use Rattle.pool_table.proofs.table.PoolTable.claim_place.Goals as goal

pub taken-home-requires-clause-own : goal.taken-home-requires-clause-own
taken-home-requires-clause-own g c = c.claim_place_word-found.ensures.same.0 ∙ c.requires.own

pub taken-home-requires-clause-there : goal.taken-home-requires-clause-there
taken-home-requires-clause-there g c =
    let l = c.args.self.now.layout in let s = l.shape in let p = c.args.place in let i = slot_of s (Root p) in
    let got : GotIn g.H.Told.stands l (Root p) i c.args.seat.now.seat.me c.claim_place_word-found.result
    c.claim_place_word-found.new.seat.me =
    got_in g.H.Told.stands l (Root p) c.args.mark (step (slots_of s) (word_of s (Root p)) 1 0 none)
    c.args.seat.now.seat.me c.claim_place_word-found.result c.claim_place_word-found.new.seat.me
    c.claim_place_word-found.ensures.told c.if-found-eq1.false in
    let lt : p < s.lanes * s.handles = got.5.object in
    took g.H.Told.stands l (Root p) i c.place_slot-slot.result.home c.claim_place_word-found.result
    c.args.seat.now.seat.me c.claim_place_word-found.new.seat.me c.requires.outside.1
    (c.place_slot-slot.ensures.home lt) got

pub returns-then-found-eq1-clause-free : goal.returns-then-found-eq1-clause-free
returns-then-found-eq1-clause-free g c =
    let l = c.args.self.now.layout in let s = l.shape in let p = c.args.place in let v = c.args.seat.now.seat.me.0 in
    let found = c.claim_place_word-found.result in
    let held : WasHeld g.H.Told.stands l (Root p) (found / 2) v =
    was_held g.H.Told.stands l (Root p) c.args.mark (step (slots_of s) (word_of s (Root p)) 1 0 none)
    c.args.seat.now.seat.me found c.claim_place_word-found.new.seat.me c.claim_place_word-found.ensures.told
    c.if-found-eq1.true in
    never_held g.H.Told.stands l p (found / 2) v (held_place g.H.Told.stands l p (found / 2) v held) held

pub invariant_of-seat : goal.invariant_of-seat
invariant_of-seat g c =
    let s = c.args.seat.now in let v = s.seat.me.0 in
    let l = c.args.self.now.layout in
    record {
      of_view = fits_claims s.number s.letter s.sent.items g.H.Told.stands l (Root c.args.place) c.args.mark
          (step (slots_of l.shape) (word_of l.shape (Root c.args.place)) 1 0 none) s.seat.me
          c.claim_place_word-found.new.seat.me
          c.claim_place_word-found.result c.claim_place_word-found.ensures.told s.of_view;
    }

pub invariant_of-seat-2 : goal.invariant_of-seat-2
invariant_of-seat-2 g c =
    let s = c.args.seat.now in let v = s.seat.me.0 in
    let l = c.args.self.now.layout in
    record {
      of_view = fits_as s.number s.letter s.sent.items c.claim_place_word-found.new.seat.me.0
          c.taken-home.new.seat.me.0
          (ap (λ m. m.0) c.taken-home.ensures.out)
          (fits_claims s.number s.letter s.sent.items g.H.Told.stands l (Root c.args.place) c.args.mark
          (step (slots_of l.shape) (word_of l.shape (Root c.args.place)) 1 0 none) s.seat.me
          c.claim_place_word-found.new.seat.me
          c.claim_place_word-found.result c.claim_place_word-found.ensures.told s.of_view);
    }
