use Rattle.handed_bytes.proofs.PieceLaws.{taken-is}
use Rattle.handed_bytes.proofs.what_is_taken_was_sent.Goals as goal

pub returns : goal.returns
returns c = record { taken = taken-is }
