use Rattle.std.proofs.Common.{sym, ap, ◌∙◌}
use Rattle.pool_law.specs.Logs.{dids}
use Rattle.object_steps.specs.Behind.{dids_behind}
use Rattle.run_check.specs.Gathering.{left_of}
use Rattle.run_check.specs.Merging.{dones_in}
use Rattle.run_check.proofs.ObjectHistoryLemmas.{stops-at, object_history-broken, object_history-is}
use Rattle.run_check.proofs.histories.object.object_history_of.Goals as goal

pub returns-in-Err : goal.returns-in-Err
returns-in-Err c logs theirs =
    let stop = c.in-Err.stop in
    c.in_ok-number-in-Err.ensures logs (dones_in stop.dones.items)
    (ap dids_behind c.deref-in-Err.ensures.value
    ∙ c.in_ok-dids-in-Err.ensures
    ∙ ap (λ ds. dids (dones_in ds)) c.deref.ensures.value)
    (stops-at c.args.shape.now logs c.args.object.now (sym c.has_history.ensures ∙ c.if-not-has_history.false)
    (left_of c.in_ok-left.left.items) (dones_in stop.dones.items) stop.number
    (λ lane. c.in_ok-left.ensures lane ∙ theirs c.args.object.now lane) (rw c.in-Err.is at c.in_ok-dones.ensures))

pub returns-in-Some : goal.returns-in-Some
returns-in-Some c logs theirs =
    object_history-is c.args.shape.now logs c.args.object.now (sym c.has_history.ensures ∙ c.if-not-has_history.false)
    (left_of c.in_ok-left.left.items) (dids_behind c.deref-3.result.now)
    (record { dones = c.in-Ok.dones; told = c.in-Some.told })
    (λ lane. c.in_ok-left.ensures lane ∙ theirs c.args.object.now lane) (rw c.in-Ok.is at c.in_ok-dones.ensures)
    (ap dids_behind c.deref-3.ensures.value
    ∙ c.in_ok-dids.ensures
    ∙ ap (λ ds. dids (dones_in ds)) c.deref-2.ensures.value)
    (rw c.in-Some.is at c.in_ok-told.ensures)

pub returns : goal.returns
returns c logs theirs =
    object_history-broken c.args.shape.now logs c.args.object.now
    (sym c.has_history.ensures ∙ c.if-not-has_history.false)
    (left_of c.in_ok-left.left.items) (dones_in c.in-Ok.dones.items) (dids_behind c.deref-3.result.now)
    c.in_ok-accepted.accepted
    (λ lane. c.in_ok-left.ensures lane ∙ theirs c.args.object.now lane) (rw c.in-Ok.is at c.in_ok-dones.ensures)
    (ap dids_behind c.deref-3.ensures.value
    ∙ c.in_ok-dids.ensures
    ∙ ap (λ ds. dids (dones_in ds)) c.deref-2.ensures.value)
    (rw c.in_default.is at c.in_ok-told.ensures)
    (rw (c.deref-4.ensures.value, ← c.deref-3.ensures.value) at c.in_ok-accepted.ensures)
