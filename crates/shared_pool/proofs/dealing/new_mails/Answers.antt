use Rattle.std.proofs.Common.{◌≡◌, ◌+◌, ◌*◌, ◌≤◌, length, take, arith, ap, ◌∙◌}
use Rattle.std.proofs.lemmas.Nat.{mul-le}
use Rattle.shared_pool.proofs.NewMails.{mails_many, rows_push}
use Rattle.shared_pool.proofs.dealing.new_mails.Goals as goal

pub loop-lane-preserved : goal.loop-lane-preserved
loop-lane-preserved c =
    let x = c.args in
    let k = c.loop-lane.lane in
    let next : k * x.lanes + x.lanes ≡ (k + 1) * x.lanes = omega arith in
    let le : k * x.lanes ≤ length x.mail.now = (let e = mul-le k x.lanes x.lanes x.lanes (omega arith) (omega arith) in
    omega (arith, e)) in
    record {
      rooms = c.in_ok-row.ensures.rooms ∙ ap (λ n. take n x.mail.now) next;
      rows =
          rows_push c.loop-lane.mails.items c.new_row.new.mails.items x.lanes k c.loop-lane.rows.items
          c.push.new.self.items
          c.in_ok-row.row (mails_many c.loop-lane.mails.items (k * x.lanes) x.mail.now c.loop-lane.invariant.rooms le)
          c.in_ok-row.ensures.longer c.loop-lane.invariant.rows c.in_ok-row.ensures.row c.in_ok-push.ensures.items;
    }
