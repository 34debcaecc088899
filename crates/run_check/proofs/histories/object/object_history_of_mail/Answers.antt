use Rattle.run_check.proofs.ObjectHistoryLemmas.{mail-object_history}
use Rattle.run_check.proofs.histories.object.object_history_of_mail.Goals as goal

pub returns-in-Some : goal.returns-in-Some
returns-in-Some c shape logs theirs = rw c.in-Some.is at (c.in_ok-number.ensures shape logs theirs)

pub returns : goal.returns
returns c shape logs theirs =
    mail-object_history shape logs c.args.mail.now (record { dones = c.new.result; told = c.new-2.result }) c.requires
    (rw c.in_default.is at (c.in_ok-number.ensures shape logs theirs)) c.new.ensures.items
    c.new-2.ensures.items
