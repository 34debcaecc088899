use Rattle.std.proofs.Common.{◌-◌, vec_len}
use Rattle.run_picture.proofs.standing.Digging.leave.Given as goal

abbrev pub decreases-loop-at : goal.decreases-loop-at
decreases-loop-at l = vec_len l.self.stays - l.at
