use Rattle.std.proofs.Common.{⊎_elim}
use Rattle.pool_table.proofs.Exact.{one_born, count_born, token_born}
use Rattle.pool_table.proofs.laws.roots_have_one_name.Goals as goal

pub returns-clause-named : goal.returns-clause-named
returns-clause-named g c =
    λ l s r id v at q has. ⊎_elim (λ counts. count_born g.H.Told.stands l s r id v at q counts)
    (λ token. token_born g.H.Told.stands l s r id v at q token) has

pub returns-clause-alone : goal.returns-clause-alone
returns-clause-alone g c = λ l s r q t bq bt ep eg. one_born g.H.Told.stands l s r q t bq bt ep eg
