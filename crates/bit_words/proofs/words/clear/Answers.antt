use Rattle.bit_words.proofs.WordLaws.{clears}
use Rattle.bit_words.proofs.words.clear.Goals as goal

pub returns : goal.returns
returns c = clears c.args.words.now c.args.i c.requires
