use Rattle.std.proofs.Common.{◌≡◌, ◌+◌, ◌*◌, ◌<◌, length, take, arith, ap, ◌∙◌}
use Rattle.std.proofs.lemmas.Nat.{mul-add-lt}
use Rattle.shared_pool.proofs.NewMails.{longer_push, mails_many, passes_push, rooms_push}
use Rattle.shared_pool.proofs.dealing.new_row.Goals as goal

pub loop-to-preserved : goal.loop-to-preserved
loop-to-preserved c =
    let x = c.args in
    let i = x.lane * x.lanes + c.loop-to.to in
    let lt : i < length x.mail.now =
    (let e = mul-add-lt x.lane x.lanes c.loop-to.to x.lanes (omega arith) (omega arith) in
    omega (arith, e)) in
    let next : i + 1 ≡ x.lane * x.lanes + (c.loop-to.to + 1) = omega arith in
    let old = c.loop-to.mails.items in
    let new = c.push.new.self.items in
    record {
      longer =
          longer_push x.mails.now.items old new c.in_ok-made.made c.loop-to.invariant.longer c.in_ok-push.ensures.items;
      rooms = rooms_push old new c.in_ok-made.made i x.mail.now lt c.loop-to.invariant.rooms c.in_ok-push.ensures.items
          c.in_ok-made.ensures.0 ∙ ap (λ n. take n x.mail.now) next;
      row = passes_push old new c.in_ok-made.made (x.lane * x.lanes) c.loop-to.to c.loop-to.row.items
          c.push-in-loop-to.new.self.items c.in_ok-made.pass
          (mails_many old i x.mail.now c.loop-to.invariant.rooms (omega (arith, lt)))
          c.loop-to.invariant.row c.in_ok-push.ensures.items c.in_ok-push-2.ensures.items
          (c.in_ok-made.ensures.1, c.in_ok-made.ensures.2);
    }
