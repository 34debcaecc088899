use Rattle.std.proofs.Common.{false, refl}
use Rattle.lane_context.specs.declared.context.Stage.TheVariants.{Ready}
use Rattle.lane_core.proofs.Heeding.{heeds_first}
use Rattle.lane_core.proofs.OpenedLaws.{IsLane-first}
use Rattle.lane_core.proofs.lane.Lane.new.Goals as goal

pub returns-clause-lane : goal.returns-clause-lane
returns-clause-lane c = λ pool first.
    let p = c.in-Ok.parts in
    IsLane-first pool c.args.shape.now
    (record {
      commands = c.args.commands;
      context =
          record {
            shape = c.args.shape.now;
            classes = p.classes;
            seat = c.args.seat;
            composes = p.composes;
            names = p.names;
            counts = p.counts;
            sampler = p.sampler;
            replies = p.log.0;
            notes = p.log.1;
            begun = 0;
            asked = 0;
          };
      stage = Ready;
      asked = 0;
      stopped = false;
      spare = p.spare;
    })
    p first c.requires.commands (c.in-Ok.ensures {u = tt})

pub returns-clause-fresh : goal.returns-clause-fresh
returns-clause-fresh c = λ stops.
    let p = c.in-Ok.parts in
    heeds_first stops
    (record {
      commands = c.args.commands;
      context =
          record {
            shape = c.args.shape.now;
            classes = p.classes;
            seat = c.args.seat;
            composes = p.composes;
            names = p.names;
            counts = p.counts;
            sampler = p.sampler;
            replies = p.log.0;
            notes = p.log.1;
            begun = 0;
            asked = 0;
          };
      stage = Ready;
      asked = 0;
      stopped = false;
      spare = p.spare;
    })
    (c.in-Ok.ensures {u = tt}).replies.0 refl refl
