use Rattle.shared_composite.proofs.ReadSteps.{IsReadTo}
use Rattle.shared_composite.proofs.reading.read_parts.Given as goal

abbrev pub invariant-loop-k : goal.invariant-loop-k
invariant-loop-k l = IsReadTo l.pool l.fn.core l.core l.start l.fn.out l.out l.skip l.done l.k
