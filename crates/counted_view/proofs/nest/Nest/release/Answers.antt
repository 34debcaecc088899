use Rattle.std.proofs.Common.{ap, sym, subst}
use Rattle.counted_view.specs.Nests.{NestState}
use Rattle.counted_view.specs.NestSeats.{CountsRoot}
use Rattle.counted_view.proofs.SeatLaws.{HasCount-lost, CountsRoot-less}
use Rattle.counted_view.proofs.nest.Nest.release.Goals as goal

pub release_if-token-requires-clause-counts : goal.release_if-token-requires-clause-counts
release_if-token-requires-clause-counts c =
    let tree : NestState = c.self.inside.tree in
    λ lost. HasCount-lost tree c.let_go-let_go.new.self c.root-root.result c.args.seat.now c.args.seat.now
    c.root-root.ensures
    (ap (λ (s : NestState). s.root) c.let_go-let_go.ensures.state) c.let_go-let_go.result.of_root
    c.let_go-let_go.ensures.root lost
    (subst (λ (s : NestState). CountsRoot s c.args.seat.now) (sym c.self.view_is) c.requires.counts)

pub returns-clause-counts : goal.returns-clause-counts
returns-clause-counts c =
    let tree : NestState = c.self.inside.tree in
    CountsRoot-less tree c.let_go-let_go.new.self c.root-root.result c.args.seat.now c.release_if-token.new.seat
    c.root-root.ensures
    (ap (λ (s : NestState). s.root) c.let_go-let_go.ensures.state) c.let_go-let_go.result.of_root
    c.release_if-token.result c.let_go-let_go.ensures.root c.release_if-token.ensures.did
    (subst (λ (s : NestState). CountsRoot s c.args.seat.now) (sym c.self.view_is) c.requires.counts)
