-- A `&` to a site may go to another thread.
use denote.Param.Send.{IsSync, part_keyless}
use Rattle.ground.specs.contracts.site.Site as C
use Rattle.ground.proofs.site.Site.TheSendSync.Send.{send}

pub sync : IsSync C.the_row
sync = record { shared = λ c b o κ q. part_keyless C.the_row send q c b o }
