use Rattle.std.proofs.Common.{◌-◌, ◌<◌, ◌≤◌}
use Rattle.pool_law.specs.Limits.{cached_classes}
use Rattle.seat_work.specs.Answers.{with_both}
use Rattle.seat_work.specs.Hands.{IsRegion}
use Rattle.seat_work.specs.Works.{Works}
use Rattle.lane_cases.proofs.sweeps.staying.put_often.Given as goal

abbrev pub invariant-loop-round : goal.invariant-loop-round
invariant-loop-round l = record {
  works : Works l.pool (with_both l.beside.place l.region.id) (1000000 - l._round) 0 l.seat;
  within : l._round ≤ 1000000;
  region : IsRegion l.pool l.seat l.region;
  class : l.region.id.class < cached_classes;
}
