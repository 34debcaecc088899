use Rattle.std.proofs.Common.{rules, ◌≡◌, ℕ, List, refl, sym, subst, below_more, ◌∙◌}
use Rattle.std.specs.Prelude.{IsTrue}
use Rattle.std.specs.List.{list_all}
use Rattle.pool_law.specs.declared.note.Note.{Note}
use Rattle.pool_law.specs.Logs.{of_lane, note_stands}
use Rattle.run_check.specs.ByObject.{notes_in}
use Rattle.run_check.proofs.FirstLemmas.{found-first}
use Rattle.run_check.proofs.LaneLemmas.{notes-get, each-notes}
use Rattle.run_check.proofs.lanes.first_astray.Goals as goal

pub returns-in-Some : goal.returns-in-Some
returns-in-Some c =
    let logs = c.args.logs.now in
    let lane = c.loop-lane.lane in
    let here : of_lane (notes_in logs) lane ≡ c.items.result.now =
    notes-get logs lane c.index-logs-lane.result (search rules) ∙ sym c.items.ensures in
    found-first (λ k (ns : List Note). IsTrue (list_all (note_stands c.args.shape.now k) ns)) (notes_in logs) lane
    c.in-Some.at c.items.result.now c.spot.result c.spot.ensures here c.loop-lane.invariant c.in-Some.ensures

pub loop-lane-preserved : goal.loop-lane-preserved
loop-lane-preserved c =
    let logs = c.args.logs.now in
    let lane = c.loop-lane.lane in
    let here : of_lane (notes_in logs) lane ≡ c.items.result.now =
    notes-get logs lane c.index-logs-lane.result (search rules) ∙ sym c.items.ensures in
    below_more
    (λ (k : ℕ). IsTrue (list_all (note_stands c.args.shape.now k) (of_lane (notes_in logs) k)))
    lane c.loop-lane.invariant
    (subst (λ (ns : List Note). IsTrue (list_all (note_stands c.args.shape.now lane) ns)) (sym here)
    (rw c.in_default.is at c.astray_at.ensures))

pub returns : goal.returns
returns c =
    each-notes (λ k (ns : List Note). IsTrue (list_all (note_stands c.args.shape.now k) ns)) c.args.logs.now
    c.loop-lane.lane c.loop-lane.invariant (search rules) (λ k. refl)
