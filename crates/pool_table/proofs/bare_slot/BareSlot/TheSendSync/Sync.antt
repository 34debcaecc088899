-- A `&` to a slot may go to another thread.
use denote.RattleType.{RattleType}
use denote.Param.Send.{IsSync}
use Rattle.pool_table.specs.contracts.bare_slot.BareSlot.{the_row}

pub sync : (T : RattleType) → IsSync (the_row T)
sync T = record { shared = λ o b ofs κ. tt }
