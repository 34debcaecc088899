use Rattle.share_run.specs.Standing.{IsEnding}
use Rattle.share_run.proofs.closing.finish.Given as goal

abbrev pub invariant-loop : goal.invariant-loop
invariant-loop g l = IsEnding l.pool l.lane l.parts l.core
