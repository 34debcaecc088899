use Rattle.std.proofs.Common.{rules, ◌<◌, ◌+◌, ◌^◌, length, refl, sym, ap, ◌∙◌, arith}
use Rattle.std.specs.Vec.{with_item}
use Rattle.std.proofs.lemmas.Option.{slice_get_read, get_or_from_slice_get}
use Rattle.log_order.specs.Spots.{notes_in}
use Rattle.log_order.specs.declared.playing.Playing.{Playing}
use Rattle.log_order.specs.declared.spots.Spot.{Spot}
use Rattle.log_order.proofs.SpotLemmas.{as-many}
use Rattle.log_order.proofs.PlayLemmas.{held-unfit, lane-moved, tally-few}
use Rattle.log_order.proofs.playing.Playing.try_lane.Goals as goal

pub fits-requires : goal.fits-requires
fits-requires c key =
    let few = tally-few (notes_in c.args.logs.now) c.args.self.now (2 ^ 64) c.requires.so_far (search rules) key in
    omega (arith, few)

pub pass-requires : goal.pass-requires
pass-requires c key =
    let few = tally-few (notes_in c.args.logs.now) c.args.self.now (2 ^ 64) c.requires.so_far (search rules) key in
    omega (arith, few)

pub returns-then-not-fits : goal.returns-then-not-fits
returns-then-not-fits c = (
  c.requires.so_far,
  record {
    next = refl;
    order = refl;
    holds = λ any. held-unfit (notes_in c.args.logs.now) c.args.self.now c.next_spot-spot.result c.args.lane
        c.in-Some.note.now c.requires.so_far c.next_spot-spot.ensures c.in-Some.ensures.stands
        (sym c.fits.ensures ∙ c.if-not-fits.true);
  },
)

pub overflow_add-index_mut : goal.overflow_add-index_mut
overflow_add-index_mut c =
    let old = c.args.self.now in
    let low : c.args.lane < length old.next.items =
    omega (arith, c.requires.lane, c.requires.so_far.played.lanes, as-many c.args.logs.now) in
    let read = slice_get_read old.next.items (length old.next.items) c.args.lane c.index_mut.result.now refl low
    c.index_mut.ensures.value in
    let got = get_or_from_slice_get old.next.items c.args.lane c.index_mut.result.now 0 read in
    let at = ap (λ (z : Spot). z.at) c.next_spot-spot.ensures in
    let few : c.next_spot-spot.result.at + 1 < 2 ^ 64 = c.in-Some.ensures.few in
    let all : c.index_mut.result.now + 1 < 2 ^ 64 = omega (arith, got, at, few) in
    search (rules, all)

pub returns : goal.returns
returns c =
    let old = c.args.self.now in
    let low : c.args.lane < length old.next.items =
    omega (arith, c.requires.lane, c.requires.so_far.played.lanes, as-many c.args.logs.now) in
    let new : Playing = record {
      next = with_item old.next c.args.lane (c.index_mut.result.now + 1);
      tally = c.pass.new.self;
      order = c.push.new.self;
    } in
    let read = slice_get_read old.next.items (length old.next.items) c.args.lane c.index_mut.result.now refl low
    c.index_mut.ensures.value in
    lane-moved (notes_in c.args.logs.now) old new c.next_spot-spot.result c.args.lane c.index_mut.result.now
    c.in-Some.note.now c.requires.so_far c.next_spot-spot.ensures low c.in-Some.ensures.stands
    (sym c.fits.ensures ∙ c.if-not-fits.false) read refl c.in_ok-push.ensures.items c.in_ok-pass.ensures
