-- A `&` to a claim may go to another thread.
use denote.Param.Send.{IsSync, struct_sync}
use denote.Struct.Owning.{shape}
use Rattle.ground.proofs.ClaimLaws.{claim_keyless}
use Rattle.ground.specs.contracts.claim.Claim as C

pub sync : IsSync C.the_row
sync =
    record {
      shared = λ c b o κ. (
        (struct_sync (shape C.the_type) tt).shared tt b o κ,
        λ q. claim_keyless c.name c.start
            c.len q,
      );
    }
