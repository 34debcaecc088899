use Rattle.std.proofs.Common.{sym}
use Rattle.frame_words.proofs.WordLaws.{in_range}
use Rattle.frame_words.proofs.words.number_given.Goals as goal

pub returns-clause-within : goal.returns-clause-within
returns-clause-within c =
    in_range c.in_ok-setting.setting c.args.text.now c.in_ok-number.number (sym c.in_ok-number.ensures)
