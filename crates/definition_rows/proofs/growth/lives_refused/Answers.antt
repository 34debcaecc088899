-- Each life goes on otherwise.
use Rattle.std.proofs.Common.{arith, ap}
use Rattle.definition_rows.proofs.growth.lives_refused.Goals as goal

pub returns-clause-never_returned : goal.returns-clause-never_returned
returns-clause-never_returned c l = l.1.1.1

pub returns-clause-returned_twice : goal.returns-clause-returned_twice
returns-clause-returned_twice c l = l.1.1.1.1

pub returns-clause-returned_before : goal.returns-clause-returned_before
returns-clause-returned_before c l = l.1

pub returns-clause-left_by_another : goal.returns-clause-left_by_another
returns-clause-left_by_another c l = absurd (omega (arith, ap (λ r. r.capacity) l.1.0))

pub returns-clause-uses_not_raised : goal.returns-clause-uses_not_raised
returns-clause-uses_not_raised c l = absurd (omega (arith, ap (λ r. r.uses) l.0))

pub returns-clause-two_at_once : goal.returns-clause-two_at_once
returns-clause-two_at_once c l = l.1

pub returns-clause-taken_and_forgotten : goal.returns-clause-taken_and_forgotten
returns-clause-taken_and_forgotten c l = l

pub returns-clause-left_in_a_cache : goal.returns-clause-left_in_a_cache
returns-clause-left_in_a_cache c l = l.1

pub returns-clause-used_once_given : goal.returns-clause-used_once_given
returns-clause-used_once_given c l = l
