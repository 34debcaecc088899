-- The order is computed.
use Rattle.std.proofs.Common.{refl, [], ◌∷◌}
use Rattle.run_order.specs.Turns.{turn}
use Rattle.run_order.specs.MailLogs.{fetched_in_turn}
use Rattle.run_order.proofs.Turns.{in-turns}
use Rattle.run_order.proofs.mails.fetched_in_turn_stands.Goals as goal

pub returns : goal.returns
returns c = record { stands = in-turns (turn 0 2 ∷ turn 1 2 ∷ turn 0 1 ∷ turn 1 1 ∷ []) fetched_in_turn refl }
