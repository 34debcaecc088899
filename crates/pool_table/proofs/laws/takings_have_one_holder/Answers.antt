use Rattle.pool_table.proofs.Regions.{one_hand_at, in_one_hold}
use Rattle.pool_table.proofs.laws.takings_have_one_holder.Goals as goal

pub returns-clause-one_hand : goal.returns-clause-one_hand
returns-clause-one_hand g c =
    λ l s r q o fits ea et v u two hv hu. one_hand_at g.H.Told.stands l s r q o fits ea et two.first two.second v u
    two.apart two.at_first two.at_second hv hu

pub returns-clause-one_hold : goal.returns-clause-one_hold
returns-clause-one_hold g c =
    λ l s r q fits arena caches places are. in_one_hold g.H.Told.stands l s r q fits arena caches places are
