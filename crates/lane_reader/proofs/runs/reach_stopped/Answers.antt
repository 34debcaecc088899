use Rattle.std.proofs.Common.{◌≡◌, ◌<◌, length, take, true, false, sym, arith, ◌∙◌}
use Rattle.std.specs.Prelude.{is_some}
use Rattle.pool_law.specs.declared.run.Reply.{Reply}
use Rattle.pool_law.specs.LaneStates.{new_lane, log_at}
use Rattle.pool_law.specs.Lanes.{not_carried_out}
use Rattle.pool_law.specs.Readers.{read_all}
use Rattle.lane_reader.specs.Reading.{entries}
use Rattle.lane_reader.specs.Replying.{same_reply}
use Rattle.lane_reader.proofs.ReadingLemmas.{length-entries}
use Rattle.lane_reader.proofs.RunLemmas.{next-item}
use Rattle.lane_reader.proofs.FrontLemmas.{left-short, left-more, stopped-so-far, stopped-next, stopped-further}
use Rattle.lane_reader.proofs.runs.reach_stopped.Goals as goal

pub returns-then-not-says : goal.returns-then-not-says
returns-then-not-says c =
    let cs = c.args.commands.now in
    let rs = c.args.replies.now in
    let i = c.loop-i.i in
    let command = c.index-commands-i.result in
    let r = c.index-replies-i.result in
    let there : i < length rs = omega (arith, c.loop-i-test.true, c.requires) in
    let commands = next-item cs i command c.loop-i-test.true c.index-commands-i.is in
    let replies = next-item rs i r there c.index-replies-i.is in
    let es = entries c.args.log.now in
    let left = entries c.loop-i.rest in
    let is = c.loop-i.invariant.left in
    let here = c.loop-i.invariant.here in
    let other : same_reply Reply.Stopped r.reply ≡ false = sym c.says.ensures ∙ c.if-not-says.true in (
      c.loop-i-test.true,
      stopped-so-far cs rs i command r commands replies es left is c.args.lane here,
      λ all.
          let next = stopped-next cs rs i command r commands replies es left is c.args.lane here all in
          cc (sym other ∙ next.0),
    )

pub returns-then-rest-count : goal.returns-then-rest-count
returns-then-rest-count c =
    let cs = c.args.commands.now in
    let rs = c.args.replies.now in
    let i = c.loop-i.i in
    let command = c.index-commands-i.result in
    let r = c.index-replies-i.result in
    let there : i < length rs = omega (arith, c.loop-i-test.true, c.requires) in
    let commands = next-item cs i command c.loop-i-test.true c.index-commands-i.is in
    let replies = next-item rs i r there c.index-replies-i.is in
    let es = entries c.args.log.now in
    let left = entries c.loop-i.rest in
    let is = c.loop-i.invariant.left in
    let here = c.loop-i.invariant.here in
    let short : length left < r.notes =
    omega (arith, c.if-rest-count.true, length-entries c.loop-i.rest.notes.now c.loop-i.rest.told.now) in (
      c.loop-i-test.true,
      stopped-so-far cs rs i command r commands replies es left is c.args.lane here,
      λ all. left-short rs es i left is r replies short all.counted,
    )

pub returns-then-not-is_stopped : goal.returns-then-not-is_stopped
returns-then-not-is_stopped c =
    let cs = c.args.commands.now in
    let rs = c.args.replies.now in
    let i = c.loop-i.i in
    let command = c.index-commands-i.result in
    let r = c.index-replies-i.result in
    let there : i < length rs = omega (arith, c.loop-i-test.true, c.requires) in
    let commands = next-item cs i command c.loop-i-test.true c.index-commands-i.is in
    let replies = next-item rs i r there c.index-replies-i.is in
    let lane = c.args.lane in
    let es = entries c.args.log.now in
    let left = entries c.loop-i.rest in
    let is = c.loop-i.invariant.left in
    let here = c.loop-i.invariant.here in
    let read :
    c.is_stopped.result ≡ is_some (read_all (not_carried_out lane command) (log_at new_lane (take r.notes left))) =
    c.is_stopped.ensures
    ∙ (λ j. is_some (read_all (not_carried_out lane command) (log_at new_lane (c.first-piece.ensures.entries j)))) in (
      c.loop-i-test.true,
      stopped-so-far cs rs i command r commands replies es left is lane here,
      λ all.
          let next = stopped-next cs rs i command r commands replies es left is lane here all in
          cc (sym c.if-not-is_stopped.true ∙ read ∙ next.1),
    )

pub loop-i-preserved : goal.loop-i-preserved
loop-i-preserved c =
    let cs = c.args.commands.now in
    let rs = c.args.replies.now in
    let i = c.loop-i.i in
    let command = c.index-commands-i.result in
    let r = c.index-replies-i.result in
    let there : i < length rs = omega (arith, c.loop-i-test.true, c.requires) in
    let commands = next-item cs i command c.loop-i-test.true c.index-commands-i.is in
    let replies = next-item rs i r there c.index-replies-i.is in
    let lane = c.args.lane in
    let es = entries c.args.log.now in
    let left = entries c.loop-i.rest in
    let is = c.loop-i.invariant.left in
    let here = c.loop-i.invariant.here in
    let read :
    c.is_stopped.result ≡ is_some (read_all (not_carried_out lane command) (log_at new_lane (take r.notes left))) =
    c.is_stopped.ensures
    ∙ (λ j. is_some (read_all (not_carried_out lane command) (log_at new_lane (c.first-piece.ensures.entries j)))) in
    let same : same_reply Reply.Stopped r.reply ≡ true = sym c.says.ensures ∙ c.if-not-says.false in
    record {
      left =
          left-more rs es i left is r replies
          (omega (arith, c.if-rest-count.false, length-entries c.loop-i.rest.notes.now c.loop-i.rest.told.now))
          (entries c.behind-rest.result) c.behind-rest.ensures.entries;
      here =
          stopped-further cs rs i command r commands replies es left is lane here
          (same, sym read ∙ c.if-not-is_stopped.false);
    }
