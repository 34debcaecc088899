use Rattle.std.proofs.Common.{◌≡◌, ℕ, map, arith, ◌*◌, ◌/◌, ◌∙◌, ap, List}
use Rattle.size_classes.specs.Sizes.{below}
use Rattle.pool_law.specs.declared.command.Command.{Command}
use Rattle.trace_make.specs.Draws.{first_state}
use Rattle.trace_make.specs.Generated.{drawn_block, joined, lane_of, generated}
use Rattle.trace_make.proofs.DrawSteps.{few_blocks, state_after-lane, lanes-more}
use Rattle.trace_make.proofs.Acceptance.{accepted, lanes_long}
use Rattle.trace_make.proofs.trace.make.Goals as goal

pub commands_of-requires : goal.commands_of-requires
commands_of-requires c = few_blocks c.args.lanes c.args.commands c.requires.lanes_least c.requires.commands_most

pub loop-lane-preserved : goal.loop-lane-preserved
loop-lane-preserved c =
    let blocks = c.args.commands / (8 * c.args.lanes) in
    let one = c.in_ok-of_lane.ensures.commands
    ∙ ap (λ (d : ℕ). joined (drawn_block c.args.lanes c.loop-lane.lane d) blocks) c.loop-lane.invariant.drawn in
    record {
      made = lanes-more (lane_of c.args.start c.args.lanes blocks) c.loop-lane.lane c.loop-lane.made.items
          c.push.new.self.items c.in_ok-of_lane.of_lane c.loop-lane.invariant.made one c.in_ok-push.ensures.items;
      drawn = state_after-lane blocks c.loop-lane.lane
          (first_state c.args.start) c.loop-lane.draws c.commands_of.new.draws c.loop-lane.invariant.drawn
          c.in_ok-of_lane.ensures.drawn;
    }

made : (start lanes commands lane : ℕ) (lists : List (List Command))
    → lists ≡ map (lane_of start lanes (commands / (8 * lanes))) (below lane) → lane ≡ lanes
    → lists ≡ generated start lanes commands
made start lanes commands lane lists is end = is
    ∙ ap (λ (n : ℕ). map (lane_of start lanes (commands / (8 * lanes))) (below n)) end

pub returns-clause-accepted : goal.returns-clause-accepted
returns-clause-accepted c =
    let is = made c.args.start c.args.lanes c.args.commands c.loop-lane.lane c.loop-lane.made.items
    c.loop-lane.invariant.made (omega arith) in
    accepted c.args.start c.args.lanes c.args.commands c.of.result
    (c.of.ensures ∙ is) c.requires.lanes_least c.requires.lanes_most c.requires.commands_most

pub returns-clause-lanes : goal.returns-clause-lanes
returns-clause-lanes c =
    let is = made c.args.start c.args.lanes c.args.commands c.loop-lane.lane c.loop-lane.made.items
    c.loop-lane.invariant.made (omega arith) in
    (lanes_long c.args.start c.args.lanes c.args.commands c.of.result (c.of.ensures ∙ is)).0

pub returns-clause-blocks : goal.returns-clause-blocks
returns-clause-blocks c =
    let is = made c.args.start c.args.lanes c.args.commands c.loop-lane.lane c.loop-lane.made.items
    c.loop-lane.invariant.made (omega arith) in
    (lanes_long c.args.start c.args.lanes c.args.commands c.of.result (c.of.ensures ∙ is)).1
