use Rattle.std.proofs.Common.{◌≡◌, rules, subst, sym}
use Rattle.std.proofs.lemmas.Option.{IfSome_then}
use Rattle.pool_law.specs.declared.run.Run.{Run}
use Rattle.pool_law.specs.Limits.{IsShape}
use Rattle.lane_core.specs.Played.{IsHeeded}
use Rattle.trace_top.proofs.top.with_trace.Goals as goal

pub play-requires-clause-shape : goal.play-requires-clause-shape
play-requires-clause-shape g c κs within =
    subst IsShape (sym c.shape-shape.ensures) (c.requires.sound _ (search rules) (search rules))

pub play-requires-clause-commands : goal.play-requires-clause-commands
play-requires-clause-commands g c κs within = c.requires.lanes _ (search rules)

-- the run that is told is the one that was played
pub returns-in-Ok-clause-stopped : goal.returns-in-Ok-clause-stopped
returns-in-Ok-clause-stopped g c =
    let stops = g.G.Gate.stops c.args.gate.now in
    IfSome_then c.with_run.result.run c.with_run.ensures.same
    (λ (r : Run) (same : r ≡ c.in-Ok.played). subst (IsHeeded stops) (sym same) c.in-Ok.ensures.stopped)
