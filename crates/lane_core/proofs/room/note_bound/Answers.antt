use Rattle.std.proofs.Common.{◌≡◌, ◌+◌, ◌<◌, Bool, List, length, take, sym, ap, subst, arith}
use Rattle.std.proofs.lemmas.List.{take_all}
use Rattle.pool_law.specs.declared.command.Command.{Command}
use Rattle.pool_law.specs.Bounds.{most_drained, note_bound}
use Rattle.lane_core.specs.Lanes.{left_for_each}
use Rattle.lane_core.proofs.RoomLaws.{notes_more, asks_more, bound_is}
use Rattle.lane_core.proofs.room.note_bound.Goals as goal

pub loop-command-preserved : goal.loop-command-preserved
loop-command-preserved c =
    let cs = c.args.commands.now in let i = c.loop-command.command-index in let inv = c.loop-command.invariant in
    let lt : i < length cs = omega arith in
    let notes = notes_more c.args.composites cs i c.command-item.result lt c.command-item.is in
    let more = asks_more c.args.composites cs i c.command-item.result lt c.command-item.is in
    let bound = c.bound_of-bound.ensures in let asks = c.asks_of-asks.ensures in
    let b = inv.bound in let m = inv.most in let a = inv.asks in let f = inv.few in
    record {
      bound = (let n = bound.notes in omega (arith, notes, n, b));
      most = (let n = bound.few in omega (arith, n, m));
      asks = (let n = asks.asks in omega (arith, more, n, a));
      few = (let n = asks.few in omega (arith, n, f));
    }

pub returns-clause-bound : goal.returns-clause-bound
returns-clause-bound c =
    let cs = c.args.commands.now in let i = c.loop-command.command-index in let inv = c.loop-command.invariant in
    let all : take i cs ≡ cs = take_all i cs (omega arith) in
    let notes = ap (λ (xs : List Command). (left_for_each c.args.composites xs).notes) all in
    let asks = ap (λ (xs : List Command). (left_for_each c.args.composites xs).asks) all in
    let bound : note_bound cs
    ≡ (left_for_each c.args.composites cs).notes + most_drained (left_for_each c.args.composites cs).asks =
    subst (λ (x : Bool). note_bound cs ≡ (left_for_each x cs).notes + most_drained (left_for_each x cs).asks)
    (sym c.requires.kind) (bound_is cs) in
    let b = inv.bound in let a = inv.asks in
    omega (arith, notes, asks, bound, b, a)
