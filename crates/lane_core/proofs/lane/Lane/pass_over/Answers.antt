use Rattle.std.proofs.Common.{◌+◌, List, drop, subst, sym, arith}
use Rattle.pool_law.specs.declared.command.Command.{Command}
use Rattle.lane_core.specs.declared.lane.Lane.{Lane}
use Rattle.lane_core.specs.Lanes.{Heeds}
use Rattle.lane_core.proofs.LaneTurns.{front_is, none_left}
use Rattle.lane_core.proofs.Heeding.{passed_heeds}
use Rattle.lane_core.proofs.StoppedTurns.{pass_room, passes_lane, passes_same, passes_so, shut_context, shut_room, shuts_lane, shuts_same, shuts_so, shuts_heeds}
use Rattle.lane_core.proofs.lane.Lane.pass_over.Goals as goal

pub close-turn-requires-clause-context : goal.close-turn-requires-clause-context
close-turn-requires-clause-context g c =
    let l = c.args.self.now in
    shut_context c.args.pool.now l c.requires.lane c.requires.ready
    (none_left l c.len-line.result c.items.result.now (omega (arith, c.len-line.ensures, l.context.replies.ok.0))
    c.items.ensures c.in_default.ensures.lookup.3)

pub close-turn-requires-clause-room : goal.close-turn-requires-clause-room
close-turn-requires-clause-room g c =
    let l = c.args.self.now in
    shut_room c.args.pool.now l c.requires.lane c.requires.ready
    (none_left l c.len-line.result c.items.result.now (omega (arith, c.len-line.ensures, l.context.replies.ok.0))
    c.items.ensures c.in_default.ensures.lookup.3)

pub returns-in_default : goal.returns-in_default
returns-in_default g c =
    let pool = c.args.pool.now in let l = c.args.self.now in let lane = c.requires.lane in let is = c.requires.ready in
    let none = none_left l c.len-line.result c.items.result.now
    (omega (arith, c.len-line.ensures, l.context.replies.ok.0))
    c.items.ensures c.in_default.ensures.lookup.3 in
    let d = c.close-turn.new.self in let turn = c.close-turn.result in let t = c.close-turn.ensures in
    let new = c.after.new.self in let new_is = c.after.ensures.next in
    record {
      lane = shuts_lane pool l lane is none d turn t new new_is;
      same = shuts_same pool l lane is none d turn t new new_is;
      stepped = shuts_so pool l lane is none d turn t new new_is c.after.result c.after.ensures.stepped;
      heeds = shuts_heeds pool l lane is none d turn t new new_is;
    }

pub pass_over-turn-requires-clause-room : goal.pass_over-turn-requires-clause-room
pass_over-turn-requires-clause-room g c =
    let l = c.args.self.now in let command = c.in-Some.command.now in
    pass_room c.args.pool.now l c.requires.lane c.requires.ready command (drop (c.len-line.result + 1) l.commands)
    (front_is l c.len-line.result c.items.result.now command (omega (arith, c.len-line.ensures, l.context.replies.ok.0))
    c.items.ensures c.in-Some.ensures.lookup.3.0 c.in-Some.ensures.lookup.1)

pub returns : goal.returns
returns g c =
    let pool = c.args.pool.now in let l = c.args.self.now in let lane = c.requires.lane in let is = c.requires.ready in
    let command = c.in-Some.command.now in
    let later : List Command = drop (c.len-line.result + 1) l.commands in
    let left = front_is l c.len-line.result c.items.result.now command
    (omega (arith, c.len-line.ensures, l.context.replies.ok.0)) c.items.ensures c.in-Some.ensures.lookup.3.0
    c.in-Some.ensures.lookup.1 in
    let d = c.pass_over-turn.new.self in let turn = c.pass_over-turn.result in let t = c.pass_over-turn.ensures in
    let new = c.after-2.new.self in let new_is = c.after-2.ensures.next in
    record {
      lane = passes_lane pool l lane is command later left d l.asked lane.asked turn t new new_is;
      same = passes_same pool l lane is command later left d l.asked lane.asked turn t new new_is;
      stepped =
          passes_so pool l lane is command later left d l.asked lane.asked turn t new new_is c.after-2.result
          c.after-2.ensures.stepped;
      heeds =
          λ stops h. subst (λ (x : Lane). Heeds stops x) (sym new_is)
          (passed_heeds stops l h lane.over pool d command turn t);
    }
