-- Bytes may go to another thread.
use denote.Param.Send.{IsSend, owning_send}
use Rattle.ground.proofs.Crosses.{raw_bytes_owns-keyless}
use Rattle.ground.specs.contracts.raw_bytes.RawBytes as C

pub send : IsSend C.the_row
send = owning_send C.the_type tt (λ c. raw_bytes_owns-keyless c.ptr c.items) (λ k x w. tt)
