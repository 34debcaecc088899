use Rattle.std.proofs.Common.{refl, []}
use Rattle.size_classes.specs.Sizes.{below}
use Rattle.lane_reader.specs.declared.drains.Drain.{Drain}
use Rattle.lane_reader.specs.Draining.{quota_of}
use Rattle.lane_reader.proofs.DrainLemmas.{drained-few}
use Rattle.lane_reader.proofs.log.Log.sweep_if_due.Goals as goal

pub returns-clause-few : goal.returns-clause-few
returns-clause-few c =
    drained-few c.args.lane (quota_of Drain.Sweep) (below 40) c.args.self.now
    (record { place = c.args.at.place; asked = 0 }) c.drain.result refl (c.drain.ensures [] (below 40) refl)
