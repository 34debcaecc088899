use Rattle.std.proofs.Common.{ap, ◌∙◌}
use Rattle.run_check.specs.Mailing.{all_passed}
use Rattle.run_check.proofs.MailLemmas.{decided}
use Rattle.run_check.proofs.mails.mail_broken_at.Goals as goal

pub returns-in_ok-fetches-in-Mail : goal.returns-in_ok-fetches-in-Mail
returns-in_ok-fetches-in-Mail c shape logs theirs =
    decided shape c.args.lanes.now logs theirs c.args.object.now c.in-Mail.from c.in-Mail.to c.in-Mail.is
    c.deref.result.now c.deref-in-Mail.result.now
    (ap all_passed c.deref.ensures.value ∙ c.in_ok-posts-in-Mail.ensures)
    (ap all_passed c.deref-in-Mail.ensures.value ∙ c.in_ok-fetches-in-Mail.ensures)
    c.first_unheld.result c.first_unheld.ensures
