-- A site may go to another thread.
use denote.Param.Send.{IsSend, owning_send}
use Rattle.ground.specs.contracts.site.Site as C

pub send : IsSend C.the_row
send = owning_send C.the_type tt (λ c. tt) (λ k x w. tt)
