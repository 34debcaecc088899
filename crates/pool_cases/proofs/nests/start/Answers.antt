use Rattle.std.proofs.Common.{sym, subst}
use Rattle.counted_view.specs.Nests.{NestState}
use Rattle.counted_view.specs.NestSeats.{CountsRoot}
use Rattle.pool_cases.proofs.nests.start.Goals as goal

pub returns-in-Ok-clause-counts : goal.returns-in-Ok-clause-counts
returns-in-Ok-clause-counts g c =
    subst (λ (s : NestState). CountsRoot s c.born-root.new.seat) (sym c.in-Ok.ensures) c.born-root.ensures.counts
