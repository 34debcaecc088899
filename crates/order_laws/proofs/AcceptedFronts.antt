-- What was done to an object in a front of the steps is a front of its history, and accepted; mails hold there.
use Rattle.std.proofs.Common.{◌≡◌, List, [], ◌∷◌, ◌++◌, refl, ap, subst, true, Some, None, ◌∙◌}
use Rattle.std.specs.Prelude.{Option, is_some, option_and_then}
use Rattle.pool_law.specs.declared.note.Object.{Object}
use Rattle.pool_law.specs.declared.note.Did.{Did}
use Rattle.pool_law.specs.declared.run.Run.{Run}
use Rattle.pool_law.specs.declared.run.Shape.{Shape}
use Rattle.pool_law.specs.Histories.{after, IsAccepted}
use Rattle.pool_law.specs.Limits.{geometry_of}
use Rattle.pool_law.specs.Arenas.{new_arena, arena_step}
use Rattle.pool_law.specs.Caches.{new_cache, lane_cache_step, new_bin, bin_step}
use Rattle.pool_law.specs.Roots.{new_place, place_step}
use Rattle.pool_law.specs.Logs.{dids, has_history}
use Rattle.pool_law.specs.Legal.{IsLegal, logs_of}
use Rattle.run_order.specs.Order.{InOneOrder}
use Rattle.order_laws.specs.Moments.{dids_at}
use Rattle.order_laws.specs.Accepted.{FrontsAccepted}
use Rattle.order_laws.proofs.ReadMoments.{dids-in, dids-append, history-in}
use Rattle.order_laws.proofs.MailMoments.{mails-in_front}

-- a front of what takes a state on takes it on
front-after : {S : Type 0} (step : S → Did → Option S) (s : S) (ds es : List Did)
    → is_some (after step s (ds ++ es)) ≡ true → is_some (after step s ds) ≡ true
front-after step s [] es e = refl
front-after {S = S} step s (d ∷ ds) es e = go (step s d) (λ t. front-after step t ds es) e
  where
    go : (o : Option S) → ((t : S) → is_some (after step t (ds ++ es)) ≡ true → is_some (after step t ds) ≡ true) →
        is_some (option_and_then (λ t. after step t (ds ++ es)) o) ≡ true →
        is_some (option_and_then (λ t. after step t ds) o) ≡ true
    go None rest e = absurd (cc e)
    go (Some t) rest e = rest t e

front-accepted : (shape : Shape) (object : Object) (ds es : List Did) → IsAccepted shape object (ds ++ es)
    → IsAccepted shape object ds
front-accepted shape (Object.Arena number) ds es e =
    front-after (arena_step (geometry_of shape) number) (new_arena (geometry_of shape) shape.chunks) ds es e
front-accepted shape (Object.Cache lane class) ds es e =
    front-after (lane_cache_step lane class) new_cache ds es e
front-accepted shape (Object.Bin lane) ds es e =
    front-after (bin_step lane shape.handles) (new_bin lane shape.handles) ds es e
front-accepted shape (Object.Mail from to) ds es e = absurd (cc e)
front-accepted shape (Object.Root place) ds es e = front-after (place_step place) new_place ds es e

pub fronts-accepted : (run : Run) → IsLegal run → (o : InOneOrder (logs_of run)) → FrontsAccepted run o
fronts-accepted run legal o before after is =
    record {
      accepted = accepted;
      mails = mails-in_front run.shape (logs_of run) legal.histories o before after is;
    }
  where
    accepted : (object : Object) → has_history object ≡ true → IsAccepted run.shape object (dids_at object before)
    accepted object has =
        front-accepted run.shape object (dids_at object before) (dids_at object after)
        (subst (IsAccepted run.shape object)
        (ap dids (history-in (logs_of run) o object has) ∙ dids-in object o.steps ∙ ap (dids_at object) is
        ∙ dids-append object before after)
        (legal.histories.accepted object has))
