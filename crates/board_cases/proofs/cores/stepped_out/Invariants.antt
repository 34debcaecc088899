use Rattle.shared_composite.specs.Cores.{IsUnderway}
use Rattle.board_cases.proofs.cores.stepped_out.Given as goal

abbrev pub invariant-loop-steps : goal.invariant-loop-steps
invariant-loop-steps g l = IsUnderway l.pool l.core
