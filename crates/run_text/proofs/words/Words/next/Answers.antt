use Rattle.std.proofs.Common.{sym}
use Rattle.run_text.proofs.WordLemmas.{before_space, without_space}
use Rattle.run_text.proofs.words.Words.next.Goals as goal

pub returns-in-Some : goal.returns-in-Some
returns-in-Some c =
    before_space c.args.self.now.rest.now c.split_once.result c.split_once.ensures.cases _ c.in-Some.is

pub returns-in-None : goal.returns-in-None
returns-in-None c = λ word more free e.
    let h = without_space c.args.self.now.rest.now c.split_once.result c.split_once.ensures.cases c.in-None.is
    word more free e in
    (h.0, sym h.1)
