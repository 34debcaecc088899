use Rattle.std.proofs.lemmas.Bool.{MatchBool-at_true, MatchBool-at_false}
use Rattle.lane_core.specs.Lanes.{IsRunningLane, IsStoppedLane, number_of}
use Rattle.lane_core.proofs.EitherLane.{stopped_is}
use Rattle.lane_core.proofs.lane.Lane.begin.Goals as goal

pub pass_over-requires-clause-lane : goal.pass_over-requires-clause-lane
pass_over-requires-clause-lane g c =
    let pool = c.args.pool.now in let l = c.args.self.now in
    MatchBool-at_true (IsStoppedLane pool l) (IsRunningLane pool l) c.if-stopped.true c.requires.lane

pub returns-then-stopped : goal.returns-then-stopped
returns-then-stopped g c = record {
  lane = stopped_is c.args.pool.now c.pass_over.new.self c.pass_over.ensures.lane;
  same = c.pass_over.ensures.same;
  stepped = c.pass_over.ensures.stepped;
  err = tt;
  heeds = c.pass_over.ensures.heeds (g.G.Gate.stops c.args.gate.now (number_of c.args.self.now));
}

pub carry_out-requires : goal.carry_out-requires
carry_out-requires g c =
    let pool = c.args.pool.now in let l = c.args.self.now in (
      c.type_bounds.sync-G,
      (
        MatchBool-at_false (IsStoppedLane pool l) (IsRunningLane pool l) c.if-stopped.false c.requires.lane,
        c.requires.ready,
      ),
    )
