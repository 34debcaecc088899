use Rattle.handed_bytes.proofs.HandedLaw.{fetched-is, handed}
use Rattle.handed_bytes.proofs.what_was_sent_is_read.Goals as goal

pub returns : goal.returns
returns c = record { fetched = fetched-is; read = handed }
