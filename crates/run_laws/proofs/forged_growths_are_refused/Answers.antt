use Rattle.run_laws.proofs.ForgedGrowths as growths
use Rattle.run_laws.proofs.forged_growths_are_refused.Goals as goal

pub returns-clause-held : goal.returns-clause-held
returns-clause-held c = growths.held

pub returns-clause-twice : goal.returns-clause-twice
returns-clause-twice c = growths.twice

pub returns-clause-before : goal.returns-clause-before
returns-clause-before c = growths.before

pub returns-clause-uncounted : goal.returns-clause-uncounted
returns-clause-uncounted c = growths.uncounted
