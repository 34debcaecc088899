use Rattle.std.proofs.Common.{◌≡◌, ◌*◌, map, take}
use Rattle.shared_pool.specs.Dealing.{AreFirstRows}
use Rattle.shared_pool.proofs.dealing.new_mails.Given as goal

abbrev pub invariant-loop-lane : goal.invariant-loop-lane
invariant-loop-lane l =
    record {
      rooms : map (λ m. m.room) l.mails.items ≡ take (l.lane * l.lanes) l.mail;
      rows : AreFirstRows l.mails.items l.lanes l.lane l.rows.items;
    }
