use Rattle.std.proofs.Common.{◌≡◌, ◌+◌, ◌*◌, map, take}
use Rattle.shared_pool.specs.Dealing.{AreFirstPasses, Longer}
use Rattle.shared_pool.proofs.dealing.new_row.Given as goal

abbrev pub invariant-loop-to : goal.invariant-loop-to
invariant-loop-to l =
    record {
      longer : Longer l.fn.mails.items l.mails.items;
      rooms : map (λ m. m.room) l.mails.items ≡ take (l.lane * l.lanes + l.to) l.mail;
      row : AreFirstPasses l.mails.items (l.lane * l.lanes) l.to l.row.items;
    }
