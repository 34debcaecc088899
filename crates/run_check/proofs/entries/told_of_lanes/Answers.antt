use Rattle.std.proofs.Common.{rules, ◌≡◌, ◌<◌, ◌≤◌, List, length, map, take, sym, ap, subst, ◌∙◌}
use Rattle.std.specs.List.{AllZip}
use Rattle.std.proofs.lemmas.List.{take_all}
use Rattle.pool_law.specs.declared.note.Note.{Note}
use Rattle.pool_law.specs.declared.run.LaneLog.{LaneLog}
use Rattle.pool_law.specs.Logs.{of_lane, entry_of}
use Rattle.lane_reader.specs.Reading.{entries_in}
use Rattle.run_check.specs.ByObject.{notes_in}
use Rattle.run_check.specs.Entering.{IsToldOf}
use Rattle.run_check.proofs.LaneLemmas.{notes-at, zip-push}
use Rattle.run_check.proofs.entries.told_of_lanes.Goals as goal

pub loop-log-preserved : goal.loop-log-preserved
loop-log-preserved c shape are =
    let logs = c.args.logs.now in
    let i = c.loop-log.log-index in
    let log = c.log-item.result in
    let told = c.in_ok-lane.lane in
    let there : i < length logs = search rules in
    let here : of_lane (notes_in logs) i ≡ log.notes = notes-at logs i log there c.log-item.is in
    let both = c.in_ok-lane.ensures shape (notes_in logs) i are (c.items.ensures ∙ sym here) in
    let this : IsToldOf (notes_in logs) told log = record {
      entries =
          subst (λ (ns : List Note). entries_in ns told.items ≡ map (entry_of (notes_in logs)) ns) c.items.ensures
          both.0;
      as_many = both.1 ∙ ap length c.items.ensures;
    } in
    zip-push (IsToldOf (notes_in logs)) c.loop-log.told.items c.push.new.self.items logs i told log
    (c.loop-log.invariant shape are) c.in_ok-push.ensures.items there c.log-item.is this

pub returns : goal.returns
returns c shape are =
    let logs = c.args.logs.now in
    let i = c.loop-log.log-index in
    let past : length logs ≤ i = search rules in
    let all : take i logs ≡ logs = take_all i logs past in
    subst (λ (ls : List LaneLog). AllZip (IsToldOf (notes_in logs)) c.loop-log.told.items ls) all
    (c.loop-log.invariant shape are)
