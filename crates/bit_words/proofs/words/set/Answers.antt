use Rattle.bit_words.proofs.WordLaws.{sets}
use Rattle.bit_words.proofs.words.set.Goals as goal

pub returns : goal.returns
returns c = sets c.args.words.now c.args.i c.requires
