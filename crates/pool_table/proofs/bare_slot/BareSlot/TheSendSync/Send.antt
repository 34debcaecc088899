-- A slot may go to another thread where its value may.
use Rattle.std.proofs.Common.{List}
use Rattle.std.specs.Prelude.{Option, Some, None}
use mir.Val.{Val}
use base.Shift.{Keyless}
use denote.RattleType.{RattleType}
use denote.Param.Send.{IsSend}
use Rattle.pool_table.specs.contracts.bare_slot.BareSlot.{the_own, the_row}

own_keyless : (T : RattleType) → IsSend T → (o : Option T.Denot) (vs : List Val) → Keyless (the_own T o vs)
own_keyless T s (Some x) vs = λ vss. (tt, (s.owned x vss.0, tt))
own_keyless T s None vs = tt

pub send : (T : RattleType) → IsSend T → IsSend (the_row T)
send T s = record { owned = λ o vs. ((λ _. tt), own_keyless T s o vs); leaving = λ k o w. tt }
