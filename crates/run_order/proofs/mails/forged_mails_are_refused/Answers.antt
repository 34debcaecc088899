-- No order fits, as the search tells of each.
use Rattle.std.proofs.Common.{refl}
use Rattle.run_order.specs.MailLogs.{forged_mails}
use Rattle.run_order.proofs.Stuck.{in-no_orders}
use Rattle.run_order.proofs.mails.forged_mails_are_refused.Goals as goal

pub returns : goal.returns
returns c = record { refused = in-no_orders 8 forged_mails refl }
