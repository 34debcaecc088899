-- The posts and the fetches are computed.
use Rattle.std.proofs.Common.{refl}
use Rattle.definition_rows.proofs.MailRows.{mail-holds}
use Rattle.definition_rows.proofs.mails.mails_in_order.Goals as goal

pub returns-clause-all : goal.returns-clause-all
returns-clause-all c = mail-holds _ _ refl refl

pub returns-clause-first : goal.returns-clause-first
returns-clause-first c = mail-holds _ _ refl refl

pub returns-clause-unfetched : goal.returns-clause-unfetched
returns-clause-unfetched c = mail-holds _ _ refl refl

pub returns-clause-unused : goal.returns-clause-unused
returns-clause-unused c = mail-holds _ _ refl refl

pub returns-clause-beside_another : goal.returns-clause-beside_another
returns-clause-beside_another c = mail-holds _ _ refl refl
