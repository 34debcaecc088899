use Rattle.std.proofs.Common.{◌≡◌, ◌<◌, Bool, List, length, map, take, ap, arith}
use Rattle.std.specs.Prelude.{sum}
use Rattle.std.proofs.lemmas.List.{take_all}
use Rattle.pool_law.specs.declared.command.Command.{Command}
use Rattle.pool_law.specs.Bounds.{may_ask, most_notes}
use Rattle.trace_top.proofs.Sums.{sum_more}
use Rattle.trace_top.proofs.needs.turns_of.Goals as goal

pub loop-command-preserved : goal.loop-command-preserved
loop-command-preserved c =
    let cs = c.args.commands.now in let i = c.loop-command.command-index in let inv = c.loop-command.invariant in
    let below : i < length cs = omega arith in
    let notes =
    sum_more (most_notes c.any_composes-composites.result) cs i c.command-item.result below c.command-item.is in
    let asks = sum_more may_ask cs i c.command-item.result below c.command-item.is in
    let n = c.notes_of-notes.ensures in let a = c.asks_of-asks.ensures in
    let old_n = inv.notes in let old_a = inv.asks in let few_n = inv.few_notes in let few_a = inv.few_asks in
    record {
      notes = (let e = n.notes in omega (arith, notes, e, old_n));
      few_notes = (let e = n.few in omega (arith, e, few_n));
      asks = (let e = a.asks in omega (arith, asks, e, old_a));
      few_asks = (let e = a.few in omega (arith, e, few_a));
    }

pub returns-clause-turns : goal.returns-clause-turns
returns-clause-turns c =
    let cs = c.args.commands.now in let i = c.loop-command.command-index in let inv = c.loop-command.invariant in
    let all : take i cs ≡ cs = take_all i cs (omega arith) in
    let some = c.any_composes-composites.ensures in
    let notes = ap (λ (b : Bool). sum (map (most_notes b) cs)) some in
    let all_notes = ap (λ (xs : List Command). sum (map (most_notes c.any_composes-composites.result) xs)) all in
    let all_asks = ap (λ (xs : List Command). sum (map may_ask xs)) all in
    let n = inv.notes in let a = inv.asks in
    omega (arith, notes, all_notes, all_asks, n, a)
