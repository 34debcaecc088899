use Rattle.handed_bytes.proofs.PieceLaws.{once-is}
use Rattle.handed_bytes.proofs.each_root_is_written_once.Goals as goal

pub returns : goal.returns
returns c = record { once = once-is }
