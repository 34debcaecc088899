use Rattle.std.proofs.Common.{◌≡◌, ◌<◌, [], length, true, false, sym, arith, ◌∙◌}
use Rattle.std.specs.Prelude.{min}
use Rattle.pool_law.specs.declared.run.Reply.{Reply}
use Rattle.lane_reader.specs.Reading.{entries}
use Rattle.lane_reader.specs.Replying.{same_reply}
use Rattle.lane_reader.proofs.CuttingLemmas.{none-stopped, stop-ends, stop-whole, stops-further}
use Rattle.lane_reader.proofs.ReadingLemmas.{length-entries}
use Rattle.lane_reader.proofs.RunLemmas.{next-item}
use Rattle.lane_reader.proofs.StoppedLemmas.{stopped-none, stopped-some}
use Rattle.lane_reader.proofs.cuts.cut_stopped.Goals as goal

pub loop-i-init : goal.loop-i-init
loop-i-init c =
    none-stopped c.args.lane c.args.commands.now c.args.replies.now (entries c.args.log.now)
    c.new-counts.result.items c.new-counts.ensures.items

pub behind-rest-requires : goal.behind-rest-requires
behind-rest-requires c = omega (arith, c.min-count.ensures)

pub returns-then-not-says : goal.returns-then-not-says
returns-then-not-says c =
    let cs = c.args.commands.now in
    let rs = c.args.replies.now in
    let i = c.loop-i.i in
    let command = c.index-commands-i.result in
    let reply = c.index-replies-i.result in
    let there : i < length rs = omega (arith, c.loop-i-test.true, c.requires) in
    let commands = next-item cs i command c.loop-i-test.true c.index-commands-i.is in
    let replies = next-item rs i reply there c.index-replies-i.is in
    let other : same_reply Reply.Stopped reply ≡ false = sym c.says.ensures ∙ c.if-not-says.true in
    stop-ends c.args.lane cs rs (entries c.args.log.now) i c.loop-i.counts.items (entries c.loop-i.rest)
    c.loop-i.invariant command commands reply replies (omega (arith, c.loop-i-test.true)) c.requires
    (λ count one. cc (sym other ∙ one.0))

pub returns-in_default : goal.returns-in_default
returns-in_default c =
    let cs = c.args.commands.now in
    let rs = c.args.replies.now in
    let i = c.loop-i.i in
    let command = c.index-commands-i.result in
    let reply = c.index-replies-i.result in
    let there : i < length rs = omega (arith, c.loop-i-test.true, c.requires) in
    let commands = next-item cs i command c.loop-i-test.true c.index-commands-i.is in
    let replies = next-item rs i reply there c.index-replies-i.is in
    stop-ends c.args.lane cs rs (entries c.args.log.now) i c.loop-i.counts.items (entries c.loop-i.rest)
    c.loop-i.invariant command commands reply replies (omega (arith, c.loop-i-test.true)) c.requires
    (λ count one. stopped-none c.args.lane command c.loop-i.rest (c.in_default.ensures []) count one.1)

pub loop-i-preserved : goal.loop-i-preserved
loop-i-preserved c =
    let cs = c.args.commands.now in
    let rs = c.args.replies.now in
    let i = c.loop-i.i in
    let command = c.index-commands-i.result in
    let reply = c.index-replies-i.result in
    let there : i < length rs = omega (arith, c.loop-i-test.true, c.requires) in
    let commands = next-item cs i command c.loop-i-test.true c.index-commands-i.is in
    let replies = next-item rs i reply there c.index-replies-i.is in
    let count = c.min-count.result in
    let at = c.in-Some.at in
    let least : count ≡ min at.place (length c.loop-i.rest.notes.now) = omega (arith, c.min-count.ensures) in
    let same : same_reply Reply.Stopped reply ≡ true = sym c.says.ensures ∙ c.if-not-says.false in
    stops-further c.args.lane cs rs (entries c.args.log.now) i c.loop-i.counts.items (entries c.loop-i.rest)
    c.loop-i.invariant command commands reply replies count
    (omega (arith, least, length-entries c.loop-i.rest.notes.now c.loop-i.rest.told.now)) c.push.new.self.items
    c.in_ok-push.ensures.items (entries c.behind-rest.result) c.behind-rest.ensures.entries
    (same, stopped-some c.args.lane command c.loop-i.rest at (c.in-Some.ensures []) count least)

pub returns : goal.returns
returns c =
    let cs = c.args.commands.now in
    let whole : c.loop-i.i ≡ length cs = omega (arith, c.loop-i-test.false, c.loop-i.auto) in
    stop-whole c.args.lane cs c.args.replies.now (entries c.args.log.now) c.loop-i.i c.loop-i.counts.items
    (entries c.loop-i.rest) c.loop-i.invariant (omega (arith, whole)) (omega (arith, whole)) c.requires
