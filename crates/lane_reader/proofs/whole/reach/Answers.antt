use Rattle.std.proofs.Common.{take}
use Rattle.std.proofs.lemmas.List.Elements.{All-take}
use Rattle.lane_reader.specs.declared.runs.Reach.{Reach}
use Rattle.lane_reader.specs.Candidates.{HasFewNames}
use Rattle.lane_reader.specs.Reading.{entries}
use Rattle.lane_reader.specs.Running.{HasRun, Reaches}
use Rattle.lane_reader.proofs.ReachLemmas.{until-running, until-stopped, whole-stopped}
use Rattle.lane_reader.proofs.whole.reach.Goals as goal

pub reach_running-requires-clause-names : goal.reach_running-requires-clause-names
reach_running-requires-clause-names c =
    All-take HasFewNames c.before_stop-stop.result c.args.commands.now c.requires.names

pub returns-in-Until : goal.returns-in-Until
returns-in-Until c =
    let setting = c.args.setting.now in
    let cs = c.args.commands.now in
    let rs = c.args.replies.now in
    let stop = c.before_stop-stop.result in
    let first :
    Reaches (HasRun setting.shape.now setting.lane) (take stop cs) (take stop rs) c.args.log.now
    (Reach.Until c.in-Until.count) =
    rw c.in-Until.is at c.in_ok-count.ensures in
    until-running setting.shape.now setting.lane cs rs (entries c.args.log.now) stop c.before_stop-stop.ensures.stop
    c.in-Until.count first.0 first.1 first.2

pub returns-in-Until-reach_stopped : goal.returns-in-Until-reach_stopped
returns-in-Until-reach_stopped c =
    let setting = c.args.setting.now in
    let cs = c.args.commands.now in
    let rs = c.args.replies.now in
    let stop = c.before_stop-stop.result in
    let first :
    Reaches (HasRun setting.shape.now setting.lane) (take stop cs) (take stop rs) c.args.log.now
    (Reach.Whole c.in-Whole.behind) =
    rw c.in-Whole.is at c.in_ok-count.ensures in
    let rest = c.in-Until-reach_stopped.ensures in
    until-stopped setting.shape.now setting.lane cs rs (entries c.args.log.now) stop c.before_stop-stop.ensures.stop
    first.0 (entries c.in-Whole.behind) first.1 c.in-Until-reach_stopped.count rest.0 rest.1 rest.2

pub returns-in-Whole-reach_stopped : goal.returns-in-Whole-reach_stopped
returns-in-Whole-reach_stopped c =
    let setting = c.args.setting.now in
    let cs = c.args.commands.now in
    let rs = c.args.replies.now in
    let stop = c.before_stop-stop.result in
    let first :
    Reaches (HasRun setting.shape.now setting.lane) (take stop cs) (take stop rs) c.args.log.now
    (Reach.Whole c.in-Whole.behind) =
    rw c.in-Whole.is at c.in_ok-count.ensures in
    let rest = c.in-Whole-reach_stopped.ensures in
    whole-stopped setting.shape.now setting.lane cs rs (entries c.args.log.now) stop c.before_stop-stop.ensures.stop
    first.0 (entries c.in-Whole.behind) first.1 rest.0 (entries c.in-Whole-reach_stopped.rest) rest.1
