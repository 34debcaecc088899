use Rattle.pool_table.proofs.Turns.{word_tells}
use Rattle.pool_table.proofs.laws.words_tell_counts.Goals as goal

pub returns : goal.returns
returns g c = record { tells = λ l s r p lt. word_tells g.H.Told.stands l s r p lt }
