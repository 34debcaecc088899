use Rattle.lane_reader.specs.Reading.{log_from, reads}
use Rattle.lane_reader.proofs.GrowLemmas.{room-found}
use Rattle.lane_reader.proofs.log.Log.found_room.Goals as goal

pub returns : goal.returns
returns c before =
    room-found c.args.root.now c.args.size (log_from before c.args.self.now c.args.at)
    (reads before c.args.self.now c.room.result) (c.in_default.ensures before) (c.room.ensures before)
