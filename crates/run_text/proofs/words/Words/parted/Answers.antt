use Rattle.run_text.proofs.WordLemmas.{cut, is_cut}
use Rattle.run_text.proofs.words.Words.parted.Goals as goal

pub returns-in-Some : goal.returns-in-Some
returns-in-Some c =
    cut c.args.mark c.requires c.args.word.now c.split_once.result c.split_once.ensures.cases _ c.in-Some.is

pub returns-in-None : goal.returns-in-None
returns-in-None c =
    is_cut c.args.mark c.requires c.args.word.now c.split_once.result c.split_once.ensures.cases c.in-None.is
