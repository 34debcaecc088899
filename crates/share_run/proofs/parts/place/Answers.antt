use Rattle.std.proofs.Common.{length, refl}
use Rattle.share_run.proofs.PartLaws.{has_placed}
use Rattle.share_run.proofs.parts.place.Goals as goal

pub returns-clause-placed : goal.returns-clause-placed
returns-clause-placed g c =
    let a = c.in-Ok.ensures in let s = c.set.ensures in
    has_placed c.args.pool.now c.args.seat.now c.allocate.new.seat c.set.new.seat c.args.bytes.now c.in-Ok.root
    (length c.args.bytes.now) s.noted.0 refl a.root.0 a.proceeds a.later s.proceeds s.noted.1
