use Rattle.std.proofs.Common.{◌<◌, length, sym, ap, ◌∙◌}
use Rattle.run_check.specs.Mailing.{received_among, all_passed}
use Rattle.run_check.proofs.MailLemmas.{laned-get, laned-past}
use Rattle.run_check.proofs.mails.received_by.Goals as goal

pub returns-then-lanes-at : goal.returns-then-lanes-at
returns-then-lanes-at c =
    ap all_passed c.new.ensures.items
    ∙ ap received_among (sym (laned-past c.args.lanes.now c.args.mail.now c.args.lane c.if-lanes-at.true))

pub returns : goal.returns
returns c =
    let there : c.args.lane < length c.args.lanes.now = c.if-lanes-at.false in
    c.in_ok-all.ensures
    ∙ ap received_among
    (c.at.ensures
    ∙ sym (laned-get c.args.lanes.now c.args.mail.now c.args.lane c.index-lanes-at.result there c.index-lanes-at.is))
