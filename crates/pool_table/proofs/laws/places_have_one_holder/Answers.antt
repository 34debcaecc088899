use Rattle.std.proofs.Common.{inl, inr}
use Rattle.pool_table.proofs.Places.{never_both, in_one_place}
use Rattle.pool_table.proofs.laws.places_have_one_holder.Goals as goal

pub returns-clause-one_hand : goal.returns-clause-one_hand
returns-clause-one_hand g c =
    λ l s r p lt v u two hv hu. never_both g.H.Told.stands l s r two.first two.second p v u lt two.apart two.at_first
    two.at_second (inl hv) (inr hu)

pub returns-clause-one_place : goal.returns-clause-one_place
returns-clause-one_place g c = λ l s r p lt fits bin after. in_one_place g.H.Told.stands l s r p lt fits bin after
