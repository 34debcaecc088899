use Rattle.std.proofs.Common.{◌≡◌, ◌+◌, ◌-◌, ◌^◌, ◌<◌, ◌≤◌, length, take, sym, arith, subst}
use Rattle.pool_law.specs.declared.command.Command.{Command}
use Rattle.lane_reader.specs.Bounding.{AreBounded}
use Rattle.lane_reader.specs.Candidates.{HasFewNames}
use Rattle.lane_reader.specs.Counting.{AreWithin}
use Rattle.lane_reader.specs.Reading.{entries}
use Rattle.lane_reader.specs.Turning.{HasTurned}
use Rattle.lane_reader.proofs.BoundLemmas.{are_bounded-more, new-bounded}
use Rattle.lane_reader.proofs.CuttingLemmas.{left-is, none-run, run-ends, run-whole, runs-further}
use Rattle.lane_reader.proofs.ReadingLemmas.{length-entries}
use Rattle.lane_reader.proofs.RunLemmas.{next-item}
use Rattle.lane_reader.proofs.cuts.cut_running.Goals as goal

pub loop-i-init : goal.loop-i-init
loop-i-init c =
    let is = c.new-lane.ensures in
    record {
      asked = omega (arith, is.asked);
      bounded = new-bounded 1 c.new-lane.result is;
      within = λ root. omega (arith, is.counts root);
      size = omega arith;
      here =
          none-run c.args.setting.now.shape.now c.args.setting.now.lane c.args.commands.now c.args.replies.now
          (entries c.args.log.now) c.new-counts.result.items c.new-lane.result c.new-counts.ensures.items is;
    }

pub turn_on-requires-clause-names : goal.turn_on-requires-clause-names
turn_on-requires-clause-names c =
    subst (λ (command : Command). HasFewNames command) (sym c.index-commands-i.is)
    (c.requires.names c.loop-i.i c.index-commands-i.result c.loop-i-test.true)

pub turn_on-requires-clause-bounded : goal.turn_on-requires-clause-bounded
turn_on-requires-clause-bounded c =
    are_bounded-more (c.loop-i.i + 1) (2 ^ 32) c.loop-i.lane (omega (arith, c.loop-i-test.true, c.requires.few))
    c.loop-i.invariant.bounded

pub turn_on-requires-clause-room : goal.turn_on-requires-clause-room
turn_on-requires-clause-room c root =
    omega (arith, c.loop-i.invariant.within root, c.loop-i.invariant.size, c.requires.room)

pub behind-rest-requires : goal.behind-rest-requires
behind-rest-requires c = rw c.in-Some.is at c.in_ok-count.ensures.within

pub returns-in_default : goal.returns-in_default
returns-in_default c =
    let cs = c.args.commands.now in
    let rs = c.args.replies.now in
    let i = c.loop-i.i in
    let setting = c.args.setting.now in
    let command = c.index-commands-i.result in
    let reply = c.index-replies-i.result in
    let there : i < length rs = omega (arith, c.loop-i-test.true, c.requires.as_many) in
    let commands = next-item cs i command c.loop-i-test.true c.index-commands-i.is in
    let replies = next-item rs i reply there c.index-replies-i.is in
    let here = c.loop-i.invariant.here in
    let counts = c.loop-i.counts.items in
    let es = entries c.args.log.now in
    let left = entries c.loop-i.rest in (
      run-ends setting.shape.now setting.lane cs rs es i counts left c.loop-i.lane here command commands reply replies
          (omega (arith, c.loop-i-test.true)) c.requires.as_many
          (rw c.in_default.is at (c.in_ok-count.ensures.row here.state here.is)),
      left-is rs es i counts left here.so,
    )

pub loop-i-preserved : goal.loop-i-preserved
loop-i-preserved c =
    let cs = c.args.commands.now in
    let rs = c.args.replies.now in
    let i = c.loop-i.i in
    let setting = c.args.setting.now in
    let command = c.index-commands-i.result in
    let reply = c.index-replies-i.result in
    let there : i < length rs = omega (arith, c.loop-i-test.true, c.requires.as_many) in
    let commands = next-item cs i command c.loop-i-test.true c.index-commands-i.is in
    let replies = next-item rs i reply there c.index-replies-i.is in
    let here = c.loop-i.invariant.here in
    let counts = c.loop-i.counts.items in
    let es = entries c.args.log.now in
    let left = entries c.loop-i.rest in
    let lane = c.turn_on.new.self in
    let count = c.in-Some.count in
    let within : count ≤ length c.loop-i.rest.notes.now = rw c.in-Some.is at c.in_ok-count.ensures.within in
    let turned : HasTurned setting here.state command reply (take count left) lane =
    rw c.in-Some.is at (c.in_ok-count.ensures.row here.state here.is) in
    let counted : AreWithin lane.counts (length c.args.log.now.notes.now - length c.loop-i.rest.notes.now + count) =
    rw c.in-Some.is at
    (c.in_ok-count.ensures.counted (length c.args.log.now.notes.now - length c.loop-i.rest.notes.now)
    c.loop-i.invariant.within) in
    let bounded : AreBounded (i + 1 + 1) lane =
    rw c.in-Some.is at (c.in_ok-count.ensures.bounded (i + 1) (omega arith) c.loop-i.invariant.bounded) in
    record {
      asked = rw c.in-Some.is at c.in_ok-count.ensures.asked;
      bounded = bounded;
      within = λ root.
          omega (arith, counted root, c.behind-rest.ensures.count, c.loop-i.invariant.size, within);
      size = omega (arith, c.behind-rest.ensures.count, c.loop-i.invariant.size);
      here =
          runs-further setting.shape.now setting.lane cs rs es i counts left c.loop-i.lane here command commands reply
          replies count (omega (arith, within, length-entries c.loop-i.rest.notes.now c.loop-i.rest.told.now))
          c.push.new.self.items c.in_ok-push.ensures.items (entries c.behind-rest.result)
          c.behind-rest.ensures.entries lane turned.next turned.is turned.step;
    }

pub returns : goal.returns
returns c =
    let cs = c.args.commands.now in
    let rs = c.args.replies.now in
    let setting = c.args.setting.now in
    let here = c.loop-i.invariant.here in
    let es = entries c.args.log.now in
    let left = entries c.loop-i.rest in
    let whole : c.loop-i.i ≡ length cs = omega (arith, c.loop-i-test.false, c.loop-i.auto) in (
      run-whole setting.shape.now setting.lane cs rs es c.loop-i.i c.loop-i.counts.items left c.loop-i.lane here
          (omega (arith, whole)) (omega (arith, whole)) c.requires.as_many,
      left-is rs es c.loop-i.i c.loop-i.counts.items left here.so,
    )
