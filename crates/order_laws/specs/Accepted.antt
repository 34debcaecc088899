-- What one thread that makes the steps in this order would do is what the objects' own rules allow.
use Rattle.std.specs.Prelude.{◌≡◌, ℕ, List, ◌++◌, IsTrue}
use Rattle.pool_law.specs.declared.note.Object.{Object}
use Rattle.pool_law.specs.declared.note.Object.TheVariants.{Mail}
use Rattle.pool_law.specs.declared.run.Run.{Run}
use Rattle.pool_law.specs.declared.run.Shape.{Shape}
use Rattle.pool_law.specs.Histories.{IsAccepted}
use Rattle.pool_law.specs.Logs.{has_history}
use Rattle.pool_law.specs.Mails.{MailHolds}
use Rattle.pool_law.specs.Legal.{logs_of}
use Rattle.run_order.specs.Order.{Step, notes_by, InOneOrder}
use Rattle.order_laws.specs.Moments.{dids_at}

-- each object with a history accepts what these steps did to it, and what they fetched from a mail
-- is the front of what they posted to it: the rest lies in the mail
pub record FrontAccepted (shape : Shape) (before : List Step) : Type 0 where
  pub accepted : (object : Object) → IsTrue (has_history object) →
      IsAccepted shape object (dids_at object before)
  pub mails : (sender receiver : ℕ) →
      MailHolds (Mail sender receiver) (notes_by sender before) (notes_by receiver before)

-- so it is after each front of the steps
abbrev pub FrontsAccepted : (run : Run) → InOneOrder (logs_of run) → Type 0
FrontsAccepted run order =
    (before after : List Step) → order.steps ≡ before ++ after → FrontAccepted run.shape before
