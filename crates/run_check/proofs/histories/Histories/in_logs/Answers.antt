use Rattle.std.proofs.Common.{rules, ◌≡◌, ℕ, true, false, List, sym, ap, refl, below_more, arith, ◌∙◌}
use Rattle.std.specs.Prelude.{is_some}
use Rattle.pool_law.specs.declared.note.Note.{Note}
use Rattle.pool_law.specs.Logs.{of_lane}
use Rattle.run_check.specs.ByObject.{notes_in}
use Rattle.run_check.specs.Storing.{Covers}
use Rattle.run_check.proofs.LaneLemmas.{notes-at, each-notes}
use Rattle.run_check.proofs.ObjectHistoryLemmas.{covers-kept, histories-are}
use Rattle.run_check.proofs.histories.Histories.in_logs.Goals as goal

pub loop-log-init : goal.loop-log-init
loop-log-init c = (
  λ object object_history found.
      let both : false ≡ true = sym (c.new-histories.ensures object) ∙ ap is_some found in
      absurd (cc both),
  λ k below. absurd (omega (arith, below)),
)

pub returns-in-Some : goal.returns-in-Some
returns-in-Some c =
    rw c.in-Some.is at
    (c.in_ok-broken.ensures (notes_in c.args.logs.now) (rw c.deref.ensures.value c.in_ok-lanes.ensures)
    c.loop-log.invariant.0)

pub loop-log-preserved : goal.loop-log-preserved
loop-log-preserved c =
    let logs = notes_in c.args.logs.now in
    let i = c.loop-log.log-index in
    let old = c.loop-log.histories in
    let new = c.add_all.new.self in
    let here : of_lane logs i ≡ c.items-notes.result.now =
    notes-at c.args.logs.now i c.log-item.result (search rules) c.log-item.is ∙ sym c.items-notes.ensures in
    let more = rw c.in_default.is at
    (c.in_ok-broken.ensures logs (rw c.deref.ensures.value c.in_ok-lanes.ensures) c.loop-log.invariant.0) in (
      more.0,
      below_more (λ (k : ℕ). Covers new (of_lane logs k)) i
          (λ k below. covers-kept old new (of_lane logs k) more.1 (c.loop-log.invariant.1 k below))
          (rw here more.2),
    )

pub returns : goal.returns
returns c =
    let m = c.loop-log.histories in
    histories-are c.args.shape.now (notes_in c.args.logs.now) m c.loop-log.invariant.0
    (each-notes (λ k (ns : List Note). Covers m ns) c.args.logs.now c.loop-log.log-index c.loop-log.invariant.1
    (search rules) (λ k object absent. refl))
