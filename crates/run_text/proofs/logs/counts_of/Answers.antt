use Rattle.run_text.proofs.logs.counts_of.Goals as goal

pub returns-in-Some : goal.returns-in-Some
returns-in-Some c answered same law = cc (rw c.in-Some.is at (c.in_ok-cuts.ensures.only answered same law))

pub returns-in-None : goal.returns-in-None
returns-in-None c answered same law = absurd (cc (rw c.in-None.is at (c.in_ok-cuts.ensures.only answered same law)))
