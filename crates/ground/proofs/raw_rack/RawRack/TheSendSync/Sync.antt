-- A `&` to a raw rack may go to another thread.
use denote.Param.Send.{IsSync, part_keyless}
use Rattle.ground.specs.contracts.raw_rack.RawRack as C
use Rattle.ground.proofs.raw_rack.RawRack.TheSendSync.Send.{send}

pub sync : IsSync C.the_row
sync = record { shared = λ c b o κ q. part_keyless C.the_row send q c b o }
