use Rattle.std.proofs.Common.{◌<◌, length, refl, sym, ap, ◌∙◌, arith}
use Rattle.std.specs.Prelude.{slice_get}
use Rattle.std.proofs.lemmas.Option.{slice_get_read, slice_get_within}
use Rattle.log_order.proofs.WaitLemmas.{waits}
use Rattle.log_order.proofs.playing.Playing.must_wait.Goals as goal

pub first_left-left-requires : goal.first_left-left-requires
first_left-left-requires c k first at =
    let g = c.args.graph.now in
    let node = c.in-Some.node in
    let high : node < length g.needs.items =
    omega (arith, slice_get_within g.spots.items node c.args.spot.now c.in-Some.ensures, c.requires.0) in
    let is = slice_get_read g.needs.items (length g.needs.items) node c.index.result.now refl high c.index.ensures in
    c.requires.1 first node (c.index.result.now, k, is, ap (λ xs. slice_get xs k) (sym c.deref.ensures.value) ∙ at)

pub returns : goal.returns
returns c logs graph is_left =
    let g = c.args.graph.now in
    let node = c.in-Some.node in
    let high : node < length g.needs.items =
    omega (arith, slice_get_within g.spots.items node c.args.spot.now c.in-Some.ensures, c.requires.0) in
    let is = slice_get_read g.needs.items (length g.needs.items) node c.index.result.now refl high c.index.ensures in
    waits logs g.spots.items g.needs.items c.args.self.now.next.items c.args.spot.now node
    c.index.result.now c.deref.result.now c.first_left-left.result graph c.in-Some.ensures is c.deref.ensures.value
    c.first_left-left.ensures (sym c.is_some.ensures ∙ is_left)
