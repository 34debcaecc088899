use Rattle.std.proofs.Common.{ap, sym, subst}
use Rattle.std.specs.Prelude.{IsSome}
use Rattle.counted_view.specs.Nests.{NestState, held_view}
use Rattle.counted_view.specs.NestSeats.{CountsRoot}
use Rattle.counted_view.proofs.SeatLaws.{some_if_retained, HasCount-held, CountsRoot-more}
use Rattle.counted_view.proofs.nest.Nest.retain.Goals as goal

pub count_in-requires-clause-counts : goal.count_in-requires-clause-counts
count_in-requires-clause-counts c =
    let tree : NestState = c.self.inside.tree in
    let held : IsSome (held_view tree c.args.v) = some_if_retained _ c.in_ok-can_hold.ensures in
    λ zero. HasCount-held tree c.root.result c.args.seat.now c.args.v c.root.ensures zero held
    (subst (λ (s : NestState). CountsRoot s c.args.seat.now) (sym c.self.view_is) c.requires.counts)

pub returns-clause-counts : goal.returns-clause-counts
returns-clause-counts c =
    let tree : NestState = c.self.inside.tree in
    CountsRoot-more tree c.hold.new.self c.root.result c.args.seat.now c.count_in.new.seat c.root.ensures
    (ap (λ (s : NestState). s.root) c.hold.ensures.state) c.args.v c.hold.ensures.root c.count_in.ensures.did
    (subst (λ (s : NestState). CountsRoot s c.args.seat.now) (sym c.self.view_is) c.requires.counts)
