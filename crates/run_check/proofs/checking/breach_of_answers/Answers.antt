use Rattle.std.proofs.Common.{ℕ, ◌<◌, List, length, subst, sym, arith}
use Rattle.pool_law.specs.declared.command.Command.{Command}
use Rattle.pool_law.specs.declared.run.LaneLog.{LaneLog}
use Rattle.pool_law.specs.Logs.{of_lane}
use Rattle.pool_law.specs.Legal.{AreCommands}
use Rattle.run_check.specs.Placing.{IsAnswered, IsAnsweredTo}
use Rattle.run_check.proofs.checking.breach_of_answers.Goals as goal

pub first_misanswered-requires-clause-commands : goal.first_misanswered-requires-clause-commands
first_misanswered-requires-clause-commands c lane =
    subst (λ (cs : List (List Command)). AreCommands c.args.run.now.shape (of_lane cs lane)) (sym c.items-lanes.ensures)
    (c.requires.commands lane)

pub returns-in-Some : goal.returns-in-Some
returns-in-Some c =
    let run = c.args.run.now in
    let found = c.in-Some.found in
    let Q = λ (cs : List (List Command)) (ls : List LaneLog). IsAnsweredTo run.shape cs ls found.0 found.1 in
    subst (λ (ls : List LaneLog). Q run.trace.lanes ls) c.items-logs.ensures
    (subst (λ (cs : List (List Command)). Q cs c.items-logs.result.now) c.items-lanes.ensures
    (rw c.in-Some.is at c.in_ok-found.ensures))

pub returns : goal.returns
returns c =
    let run = c.args.run.now in
    let Q = λ (cs : List (List Command)) (ls : List LaneLog).
    (lane : ℕ) → lane < length ls → IsAnswered run.shape cs ls lane in
    let h : Q run.trace.lanes run.logs =
    subst (λ (ls : List LaneLog). Q run.trace.lanes ls) c.items-logs.ensures
    (subst (λ (cs : List (List Command)). Q cs c.items-logs.result.now) c.items-lanes.ensures
    (rw c.in_default.is at c.in_ok-found.ensures)) in
    λ lane below. h lane (omega (arith, below, c.requires.logs))
