use Rattle.run_picture.proofs.MeetLaw.{never-meet}
use Rattle.run_picture.proofs.laws.blocks_never_meet.Goals as goal

pub returns : goal.returns
returns c = record { apart = never-meet }
