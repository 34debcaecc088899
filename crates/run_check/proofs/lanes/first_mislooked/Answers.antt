use Rattle.std.proofs.Common.{rules, ◌≡◌, ℕ, ◌≤◌, List, length, sym, subst, arith, below_more}
use Rattle.pool_law.specs.declared.id.RootId.{RootId}
use Rattle.pool_law.specs.Logs.{ToldNote, of_lane, entry_of, entries_of}
use Rattle.pool_law.specs.Legal.{LooksHold, others_retains}
use Rattle.pool_law.proofs.LogLemmas.{entry-note}
use Rattle.lane_reader.specs.Reading.{entries}
use Rattle.run_check.specs.Placing.{BreaksAt}
use Rattle.run_check.specs.ByObject.{notes_in}
use Rattle.run_check.specs.Tallying.{others_sum}
use Rattle.run_check.proofs.FirstLemmas.{found-first}
use Rattle.run_check.proofs.LaneLemmas.{each-lane, length-entries}
use Rattle.run_check.proofs.TallyLemmas.{others-counted}
use Rattle.run_check.proofs.lanes.first_mislooked.Goals as goal

pub returns-in-Some : goal.returns-in-Some
returns-in-Some c =
    let logs = notes_in c.args.logs.now in
    let lane = c.loop-lane.lane in
    let es = entries c.log_at.result in
    let sums : (λ (root : RootId). others_sum root lane 0 c.args.tallies.now)
    ≡ (λ (root : RootId). others_retains root lane 0 (entries_of logs)) =
    (λ i root.
    others-counted (entry_of logs) (entry-note logs) root lane 0 c.args.tallies.now c.args.logs.now c.requires.tallies
    i) in
    found-first
    (λ k (ws : List ToldNote). (root : RootId) → LooksHold root (others_retains root k 0 (entries_of logs)) 0 0 0 ws)
    (entries_of logs) lane c.in-Some.at es c.spot.result c.spot.ensures (sym c.log_at.ensures.entries)
    c.loop-lane.invariant
    (subst
    (λ (others : RootId → ℕ). BreaksAt (λ (ws : List ToldNote). (root : RootId) → LooksHold root (others root) 0 0 0
    ws) es
    c.in-Some.at)
    sums (rw c.in-Some.is at c.in_ok-at.ensures))

pub loop-lane-preserved : goal.loop-lane-preserved
loop-lane-preserved c =
    let logs = notes_in c.args.logs.now in
    let lane = c.loop-lane.lane in
    let right : (root : RootId) →
    LooksHold root (others_sum root lane 0 c.args.tallies.now) 0 0 0 (entries c.log_at.result) =
    rw c.in_default.is at c.in_ok-at.ensures in
    below_more
    (λ (k : ℕ). (root : RootId) →
    LooksHold root (others_retains root k 0 (entries_of logs)) 0 0 0 (of_lane (entries_of logs) k))
    lane c.loop-lane.invariant
    (λ root.
    subst (λ (es : List ToldNote). LooksHold root (others_retains root lane 0 (entries_of logs)) 0 0 0 es)
    c.log_at.ensures.entries
    (subst (λ (n : ℕ). LooksHold root n 0 0 0 (entries c.log_at.result))
    (others-counted (entry_of logs) (entry-note logs) root lane 0 c.args.tallies.now c.args.logs.now c.requires.tallies)
    (right root)))

pub returns : goal.returns
returns c =
    let logs = notes_in c.args.logs.now in
    let past : length c.args.logs.now ≤ c.loop-lane.lane = search rules in
    each-lane
    (λ k (es : List ToldNote). (root : RootId) → LooksHold root (others_retains root k 0 (entries_of logs)) 0 0 0 es)
    (entries_of logs) c.loop-lane.lane c.loop-lane.invariant
    (omega (arith, past, length-entries c.args.logs.now)) (λ k root. tt)
