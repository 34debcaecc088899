use Rattle.std.proofs.Common.{◌∙◌}
use Rattle.pool_arena.proofs.FrontsLaws.{front-seen}
use Rattle.pool_arena.proofs.SmallLaws.{first-is, open-first, small-first, small-none, mid-orderly, mid-open, small-new}
use Rattle.pool_arena.proofs.stock.ChunkStock.take_small.Goals as goal

pub take_element-piece-requires-clause-room : goal.take_element-piece-requires-clause-room
take_element-piece-requires-clause-room c =
    let v = c.args.self.now in
    let first = first-is c.index.result.now.subpages c.in-Some.spot (c.in-Some.ensures {u = tt}) in
    open-first v v.geometry c.requires.orderly c.args.class c.in-Some.spot.chunk c.in-Some.spot.page first.0
    c.requires.class.1
    (front-seen c.self.inside v c.args.class c.index.result.now c.self.invariant c.self.view_is c.requires.class.0
    c.index.ensures ∙ first.1)

pub returns-in-Some-clause-some : goal.returns-in-Some-clause-some
returns-in-Some-clause-some c =
    let v = c.args.self.now in
    let first = first-is c.index.result.now.subpages c.in-Some.spot (c.in-Some.ensures {u = tt}) in
    small-first v c.args.class c.requires.class.1 c.take_element-piece.new.self c.in-Some.spot.chunk c.in-Some.spot.page
    first.0 c.take_element-piece.result
    (front-seen c.self.inside v c.args.class c.index.result.now c.self.invariant c.self.view_is c.requires.class.0
    c.index.ensures ∙ first.1) c.take_element-piece.ensures

pub new_subpage-requires-clause-none : goal.new_subpage-requires-clause-none
new_subpage-requires-clause-none c =
    front-seen c.self.inside c.args.self.now c.args.class c.index.result.now c.self.invariant c.self.view_is
    c.requires.class.0 c.index.ensures
    ∙ c.in_default.ensures {u = tt}

pub returns-in_err-spot-clause-none : goal.returns-in_err-spot-clause-none
returns-in_err-spot-clause-none c =
    let none = (c.in_err-spot.ensures {u = tt}).none in
    let front =
    front-seen c.self.inside c.args.self.now c.args.class c.index.result.now c.self.invariant c.self.view_is
    c.requires.class.0 c.index.ensures
    ∙ c.in_default.ensures {u = tt} in
    rw c.from_residual.ensures (none.0, small-none c.args.self.now c.args.class c.requires.class.1 front none.1)

pub take_element-piece-requires-2-clause-room : goal.take_element-piece-requires-2-clause-room
take_element-piece-requires-2-clause-room c =
    mid-open c.args.self.now c.args.class c.requires.class.1 c.requires.orderly c.new_subpage.new.self
    c.in_ok-spot.spot.chunk c.in_ok-spot.spot.page (c.in_ok-spot.ensures {u = tt}).some

pub take_element-piece-requires-2-clause-some : goal.take_element-piece-requires-2-clause-some
take_element-piece-requires-2-clause-some c =
    let o = mid-orderly c.args.self.now c.args.class c.requires.class.1 c.requires.orderly c.new_subpage.new.self
    c.in_ok-spot.spot.chunk c.in_ok-spot.spot.page (c.in_ok-spot.ensures {u = tt}).some in
    (o.sound c.in_ok-spot.spot.chunk).none_empty

pub returns-clause-some : goal.returns-clause-some
returns-clause-some c =
    let front =
    front-seen c.self.inside c.args.self.now c.args.class c.index.result.now c.self.invariant c.self.view_is
    c.requires.class.0 c.index.ensures
    ∙ c.in_default.ensures {u = tt} in
    small-new c.args.self.now c.args.class c.requires.class.1 c.requires.orderly c.new_subpage.new.self
    c.in_ok-spot.spot.chunk c.in_ok-spot.spot.page (c.in_ok-spot.ensures {u = tt}).some
    c.take_element-piece-2.new.self c.take_element-piece-2.result front c.take_element-piece-2.ensures
