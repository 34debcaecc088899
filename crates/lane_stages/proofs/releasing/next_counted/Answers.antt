use Rattle.std.proofs.Common.{sym, ◌∙◌, arith}
use Rattle.lane_stages.proofs.Skipping.{none_skipped, one_more, next_found, none_found}
use Rattle.lane_stages.proofs.VecLaws.{first-is, none-in, some-in}
use Rattle.lane_stages.proofs.releasing.next_counted.Goals as goal

pub loop-left-init : goal.loop-left-init
loop-left-init c = none_skipped c.args.counts.now c.args.left.now.items

pub loop-left-preserved : goal.loop-left-preserved
loop-left-preserved c =
    let before = c.args.left.now.items in let left = c.loop-left.left in let call = c.remove-part in
    let some = some-in left (sym c.is_empty.ensures ∙ c.loop-left-test.true) in
    let is = first-is left.items call.result call.new.self.items some call.ensures.value call.ensures.items in
    one_more c.args.counts.now before left.items c.loop-left.invariant call.result call.new.self.items is
    (omega (arith, c.of.ensures, c.if-of-gt0.false))

pub returns-then-of-gt0 : goal.returns-then-of-gt0
returns-then-of-gt0 c =
    let before = c.args.left.now.items in let left = c.loop-left.left in let call = c.remove-part in
    let some = some-in left (sym c.is_empty.ensures ∙ c.loop-left-test.true) in
    let is = first-is left.items call.result call.new.self.items some call.ensures.value call.ensures.items in
    next_found c.args.counts.now before left.items c.loop-left.invariant call.result call.new.self.items is
    (omega (arith, c.of.ensures, c.if-of-gt0.true))

pub returns : goal.returns
returns c =
    none_found c.args.counts.now c.args.left.now.items c.loop-left.left.items c.loop-left.invariant
    (none-in c.loop-left.left (sym c.is_empty.ensures ∙ c.loop-left-test.false))
