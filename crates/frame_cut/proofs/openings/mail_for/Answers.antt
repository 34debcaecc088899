use Rattle.std.proofs.Common.{◌+◌, ◌*◌}
use Rattle.frame_cut.proofs.RoomLaws.{few_rooms, mail_more}
use Rattle.frame_cut.proofs.openings.mail_for.Goals as goal

pub loop-to-preserved : goal.loop-to-preserved
loop-to-preserved c =
    let l = c.loop-to in let w = c.args.workers in
    let m = mail_more l.mail (w * (w + 1)) l.to c.args.room 256 l.invariant.many
    (few_rooms w l.to c.loop-to-test.true c.requires) l.invariant.asked in record { many = m.0; asked = m.1 }
