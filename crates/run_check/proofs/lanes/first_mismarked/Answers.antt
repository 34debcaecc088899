use Rattle.std.proofs.Common.{rules, ◌≡◌, ℕ, List, sym, subst, below_more, ◌∙◌}
use Rattle.pool_law.specs.declared.note.Note.{Note}
use Rattle.pool_law.specs.Logs.{of_lane}
use Rattle.pool_law.specs.Busy.{BusyHolds}
use Rattle.run_check.specs.ByObject.{notes_in}
use Rattle.run_check.specs.Storing.{history_in}
use Rattle.run_check.proofs.FirstLemmas.{found-first}
use Rattle.run_check.proofs.LaneLemmas.{notes-get, each-notes}
use Rattle.run_check.proofs.lanes.first_mismarked.Goals as goal

pub returns-in-Some : goal.returns-in-Some
returns-in-Some c =
    let logs = c.args.logs.now in
    let lane = c.loop-lane.lane in
    let here : of_lane (notes_in logs) lane ≡ c.items.result.now =
    notes-get logs lane c.index-logs-lane.result (search rules) ∙ sym c.items.ensures in
    found-first (λ k (ns : List Note). BusyHolds k (history_in c.args.histories.now) ns) (notes_in logs) lane
    c.in-Some.at c.items.result.now c.spot.result c.spot.ensures here c.loop-lane.invariant
    (rw c.in-Some.is at c.in_ok-at.ensures)

pub loop-lane-preserved : goal.loop-lane-preserved
loop-lane-preserved c =
    let logs = c.args.logs.now in
    let lane = c.loop-lane.lane in
    let here : of_lane (notes_in logs) lane ≡ c.items.result.now =
    notes-get logs lane c.index-logs-lane.result (search rules) ∙ sym c.items.ensures in
    below_more (λ (k : ℕ). BusyHolds k (history_in c.args.histories.now) (of_lane (notes_in logs) k))
    lane c.loop-lane.invariant
    (subst (λ (ns : List Note). BusyHolds lane (history_in c.args.histories.now) ns) (sym here)
    (rw c.in_default.is at c.in_ok-at.ensures))

pub returns : goal.returns
returns c =
    each-notes (λ k (ns : List Note). BusyHolds k (history_in c.args.histories.now) ns) c.args.logs.now
    c.loop-lane.lane c.loop-lane.invariant (search rules) (λ k. record { fit = λ object. tt; marks = tt })
