use Rattle.std.proofs.Common.{◌≡◌, ◌+◌, ◌-◌, ◌^◌, ◌<◌, length, take, Some, refl, sym, ap, arith, subst, ◌∙◌}
use Rattle.pool_law.specs.declared.command.Command.{Command}
use Rattle.pool_law.specs.LaneStates.{new_lane}
use Rattle.pool_law.specs.LaneLaw.{sweep_period, lane_step}
use Rattle.pool_law.specs.Readers.{ToldNotes}
use Rattle.lane_reader.specs.Candidates.{HasFewNames}
use Rattle.lane_reader.specs.Reading.{entries}
use Rattle.lane_reader.proofs.BoundLemmas.{are_bounded-more, new-bounded}
use Rattle.lane_reader.proofs.ReadingLemmas.{length-entries}
use Rattle.lane_reader.proofs.RunLemmas.{next-item}
use Rattle.lane_reader.proofs.FrontLemmas.{left-short, left-more, run-so-far, run-next, run-further}
use Rattle.lane_reader.proofs.runs.reach_running.Goals as goal

pub loop-i-init : goal.loop-i-init
loop-i-init c =
    let is = c.new-lane.ensures in
    record {
      asked = omega (arith, is.asked);
      bounded = new-bounded 1 c.new-lane.result is;
      within = λ root. omega (arith, is.counts root);
      size = omega arith;
      left = record { counted = omega arith; rest = refl };
      here = record { state = new_lane; is = is; runs = refl };
    }

pub turn-requires-clause-names : goal.turn-requires-clause-names
turn-requires-clause-names c =
    subst (λ (command : Command). HasFewNames command) (sym c.index-commands-i.is)
    (c.requires.names c.loop-i.i c.index-commands-i.result c.loop-i-test.true)

pub turn-requires-clause-bounded : goal.turn-requires-clause-bounded
turn-requires-clause-bounded c =
    are_bounded-more (c.loop-i.i + 1) (2 ^ 32) c.loop-i.lane (omega (arith, c.loop-i-test.true, c.requires.few))
    c.loop-i.invariant.bounded

pub turn-requires-clause-room : goal.turn-requires-clause-room
turn-requires-clause-room c root =
    omega (
      arith,
      c.loop-i.invariant.within root,
      c.loop-i.invariant.size,
      c.first-piece.ensures.count,
      c.if-rest-count.false,
      c.requires.room,
    )

pub returns-then-rest-count : goal.returns-then-rest-count
returns-then-rest-count c =
    let cs = c.args.commands.now in
    let rs = c.args.replies.now in
    let i = c.loop-i.i in
    let command = c.index-commands-i.result in
    let r = c.index-replies-i.result in
    let there : i < length rs = omega (arith, c.loop-i-test.true, c.requires.as_many) in
    let commands = next-item cs i command c.loop-i-test.true c.index-commands-i.is in
    let replies = next-item rs i r there c.index-replies-i.is in
    let setting = c.args.setting.now in
    let es = entries c.args.log.now in
    let left = entries c.loop-i.rest in
    let is = c.loop-i.invariant.left in
    let here = c.loop-i.invariant.here in
    let short : length left < r.notes =
    omega (arith, c.if-rest-count.true, length-entries c.loop-i.rest.notes.now c.loop-i.rest.told.now) in (
      c.loop-i-test.true,
      run-so-far cs rs i command r commands replies es left is setting.lane setting.shape.now here.state here.runs,
      λ all. left-short rs es i left is r replies short all.counted,
    )

pub returns-then-not-branch : goal.returns-then-not-branch
returns-then-not-branch c =
    let cs = c.args.commands.now in
    let rs = c.args.replies.now in
    let i = c.loop-i.i in
    let command = c.index-commands-i.result in
    let r = c.index-replies-i.result in
    let there : i < length rs = omega (arith, c.loop-i-test.true, c.requires.as_many) in
    let commands = next-item cs i command c.loop-i-test.true c.index-commands-i.is in
    let replies = next-item rs i r there c.index-replies-i.is in
    let setting = c.args.setting.now in
    let es = entries c.args.log.now in
    let left = entries c.loop-i.rest in
    let is = c.loop-i.invariant.left in
    let here = c.loop-i.invariant.here in (
      c.loop-i-test.true,
      run-so-far cs rs i command r commands replies es left is setting.lane setting.shape.now here.state here.runs,
      λ all.
          let next =
          run-next cs rs i command r commands replies es left is setting.lane setting.shape.now here.state here.runs
          all in
          c.in_ok-turn.ensures.bad here.state here.is c.if-not-branch.true next.0
          (ap (λ (piece : ToldNotes). lane_step sweep_period setting.shape.now setting.lane here.state command piece)
          c.first-piece.ensures.entries
          ∙ next.1),
    )

pub loop-i-preserved : goal.loop-i-preserved
loop-i-preserved c =
    let cs = c.args.commands.now in
    let rs = c.args.replies.now in
    let i = c.loop-i.i in
    let command = c.index-commands-i.result in
    let r = c.index-replies-i.result in
    let there : i < length rs = omega (arith, c.loop-i-test.true, c.requires.as_many) in
    let commands = next-item cs i command c.loop-i-test.true c.index-commands-i.is in
    let replies = next-item rs i r there c.index-replies-i.is in
    let setting = c.args.setting.now in
    let es = entries c.args.log.now in
    let left = entries c.loop-i.rest in
    let is = c.loop-i.invariant.left in
    let here = c.loop-i.invariant.here in
    let turned = c.in_ok-turn.ensures.good here.state here.is c.if-not-branch.false in
    let step :
    lane_step sweep_period setting.shape.now setting.lane here.state command (take r.notes left)
    ≡ Some (r.reply, turned.next) =
    ap (λ (piece : ToldNotes). lane_step sweep_period setting.shape.now setting.lane here.state command piece)
    (sym c.first-piece.ensures.entries)
    ∙ turned.step in
    record {
      asked = c.in_ok-turn.ensures.asked c.if-not-branch.false;
      bounded = c.in_ok-turn.ensures.bounded (i + 1) (omega arith) c.loop-i.invariant.bounded c.if-not-branch.false;
      within = λ root.
          let counted =
          c.in_ok-turn.ensures.counted (length c.args.log.now.notes.now - length c.loop-i.rest.notes.now)
          c.loop-i.invariant.within c.if-not-branch.false root in
          omega (
            arith,
            counted,
            c.first-piece.ensures.count,
            c.behind-rest.ensures.count,
            c.loop-i.invariant.size,
            c.if-rest-count.false,
          );
      size = omega (arith, c.behind-rest.ensures.count, c.loop-i.invariant.size);
      left =
          left-more rs es i left is r replies
          (omega (arith, c.if-rest-count.false, length-entries c.loop-i.rest.notes.now c.loop-i.rest.told.now))
          (entries c.behind-rest.result) c.behind-rest.ensures.entries;
      here = record {
        state = turned.next;
        is = turned.is;
        runs =
            run-further cs rs i command r commands replies es left is setting.lane setting.shape.now here.state
            here.runs turned.next step;
      };
    }
