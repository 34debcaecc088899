use Rattle.std.proofs.Common.{rules, ◌≡◌, ◌+◌, ◌<◌, ◌≤◌, List, [], ◌++◌, length, get_or, take, drop, sym, ap, ◌∙◌}
use Rattle.std.proofs.lemmas.List.{drop_more, drop_all}
use Rattle.pool_law.specs.declared.note.Note.{Note}
use Rattle.pool_law.specs.declared.report.Leak.{Leak}
use Rattle.pool_law.specs.declared.run.LaneLog.{LaneLog}
use Rattle.run_check.specs.Reporting.{leaks_in, all_leaks}
use Rattle.run_check.proofs.ReportLemmas.{goes-behind, strays-within, report-ends, report-goes-on}
use Rattle.run_check.proofs.leaks.first_misreported.Goals as goal

pub loop-lane-preserved : goal.loop-lane-preserved
loop-lane-preserved c =
    let r = c.args.report.now in
    let A = all_leaks r.shape.now r.histories.now r.tallies.now in
    let L = leaks_in r.shape.now r.histories.now r.tallies.now in
    let leaks = r.leaks.now in
    let logs = c.args.logs.now in
    let lane = c.loop-lane.lane in
    let log = get_or logs lane c.index-logs-lane.result in
    let next = c.in-Ok.next in
    let rest : List LaneLog = drop (lane + 1) logs in
    let these : List Leak = L lane 1 c.items-notes.result.now in
    let there : lane < length logs = search rules in
    let front : A lane (drop lane logs) ≡ these ++ A (lane + 1) rest =
    ap (λ (ls : List LaneLog). A lane ls) (drop_more logs lane c.index-logs-lane.result there)
    ∙ ap (λ (ns : List Note). L lane 1 ns ++ A (lane + 1) rest) (sym c.items-notes.ensures) in
    let told = rw c.in-Ok.is at c.in_ok-next.ensures in
    record {
      expected =
          goes-behind leaks these (A (lane + 1) rest) (A 0 logs) c.loop-lane.at next told
          (c.loop-lane.invariant.expected ∙ ap (λ (ws : List Leak). take c.loop-lane.at leaks ++ ws) front);
      inside = told.1;
    }

pub returns-in-Err : goal.returns-in-Err
returns-in-Err c =
    let r = c.args.report.now in
    let A = all_leaks r.shape.now r.histories.now r.tallies.now in
    let L = leaks_in r.shape.now r.histories.now r.tallies.now in
    let leaks = r.leaks.now in
    let logs = c.args.logs.now in
    let lane = c.loop-lane.lane in
    let rest : List LaneLog = drop (lane + 1) logs in
    let these : List Leak = L lane 1 c.items-notes.result.now in
    let there : lane < length logs = search rules in
    let front : A lane (drop lane logs) ≡ these ++ A (lane + 1) rest =
    ap (λ (ls : List LaneLog). A lane ls) (drop_more logs lane c.index-logs-lane.result there)
    ∙ ap (λ (ns : List Note). L lane 1 ns ++ A (lane + 1) rest) (sym c.items-notes.ensures) in
    strays-within leaks these (A (lane + 1) rest) (A 0 logs) c.loop-lane.at c.in-Err.other
    (rw c.in-Err.is at c.in_ok-next.ensures)
    (c.loop-lane.invariant.expected ∙ ap (λ (ws : List Leak). take c.loop-lane.at leaks ++ ws) front)

pub returns-then-at-report : goal.returns-then-at-report
returns-then-at-report c =
    let r = c.args.report.now in
    let A = all_leaks r.shape.now r.histories.now r.tallies.now in
    let logs = c.args.logs.now in
    let lane = c.loop-lane.lane in
    let at = c.loop-lane.at in
    let past : length logs ≤ lane = search rules in
    let none : A lane (drop lane logs) ≡ [] = ap (λ (ls : List LaneLog). A lane ls) (drop_all lane logs past) in
    report-goes-on r.leaks.now (A 0 logs) at c.if-at-report.true
    (c.loop-lane.invariant.expected ∙ ap (λ (ws : List Leak). take at r.leaks.now ++ ws) none)

pub returns : goal.returns
returns c =
    let r = c.args.report.now in
    let A = all_leaks r.shape.now r.histories.now r.tallies.now in
    let logs = c.args.logs.now in
    let lane = c.loop-lane.lane in
    let at = c.loop-lane.at in
    let past : length logs ≤ lane = search rules in
    let none : A lane (drop lane logs) ≡ [] = ap (λ (ls : List LaneLog). A lane ls) (drop_all lane logs past) in
    report-ends r.leaks.now (A 0 logs) at c.if-at-report.false
    (c.loop-lane.invariant.expected ∙ ap (λ (ws : List Leak). take at r.leaks.now ++ ws) none)
