-- A claim may go to another thread.
use base.Fraction.{full_share}
use denote.Param.Send.{IsSend, owning_send}
use Rattle.ground.proofs.ClaimLaws.{claim_keyless}
use Rattle.ground.specs.contracts.claim.Claim as C

pub send : IsSend C.the_row
send = owning_send C.the_type tt (λ c. claim_keyless c.name c.start c.len full_share) (λ k x w. tt)
