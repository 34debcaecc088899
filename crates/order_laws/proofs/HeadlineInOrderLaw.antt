-- The headline at each moment of a run in one order, from the laws.
use Rattle.std.proofs.Common.{◌≡◌, ℕ, ◌≤◌, List, ◌++◌, length, take, refl, ap, subst, arith, ◌∙◌, length-append}
use Rattle.pool_law.specs.declared.run.Run.{Run}
use Rattle.pool_law.specs.Legal.{IsLegal, logs_of}
use Rattle.pool_law.proofs.ListLemmas.{front-is}
use Rattle.run_laws.proofs.HeadlineLaw.{headline-holds}
use Rattle.run_order.specs.Order.{Step, InOneOrder}
use Rattle.order_laws.specs.Moments.{Moment}
use Rattle.order_laws.specs.HeadlineInOrder.{HeadlineInOrder}
use Rattle.order_laws.proofs.CountMoments.{lives-at}
use Rattle.order_laws.proofs.UseMoments.{apart-at, counted-at}
use Rattle.order_laws.proofs.ReturnMoments.{after_end-at, finds-returned}
use Rattle.order_laws.proofs.ReadMoments.{gets-last}

module _ (run : Run) (legal : IsLegal run) (o : InOneOrder (logs_of run)) where
  moment-at : (k : ℕ) → k ≤ length o.steps → Moment (logs_of run) (take k o.steps)
  moment-at k low =
      record {
        apart = apart-at run legal o k;
        counted = counted-at run legal o k low;
        lives = λ root. lives-at (logs_of run) o root k low;
        after_end = after_end-at run legal o k;
      }

  moment : (before after : List Step) → o.steps ≡ before ++ after → Moment (logs_of run) before
  moment before after is =
      subst (Moment (logs_of run)) (ap (take (length before)) is ∙ front-is before after)
      (moment-at (length before) (omega (arith, ap length is, length-append before after)))

  pub headline-in_order : HeadlineInOrder run
  headline-in_order =
      record {
        headline = headline-holds run legal;
        order = o;
        moments = moment;
        reuses = λ before after x is. finds-returned run legal o before after x x.note is refl;
        reads = λ before after x is. gets-last run legal o before after x x.note is refl;
      }
