use Rattle.std.proofs.Common.{refl}
use Rattle.frame_core.proofs.StandingLaws.{IsAt-start, frames_of-nil}
use Rattle.frame_core.proofs.cutter.Cutter.new.Goals as goal

pub returns-clause-read : goal.returns-clause-read
returns-clause-read c = IsAt-start _ refl refl refl refl

pub returns-clause-none : goal.returns-clause-none
returns-clause-none c = frames_of-nil
