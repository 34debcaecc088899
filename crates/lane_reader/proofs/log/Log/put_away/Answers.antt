use Rattle.std.proofs.Common.{◌≡◌, false, arith}
use Rattle.std.proofs.lemmas.Bool.Decides.{nat_tests}
use Rattle.pool_law.specs.Limits.{has_cache}
use Rattle.lane_reader.proofs.log.Log.put_away.Goals as goal

pub returns-then-region-ge-CACHED : goal.returns-then-region-ge-CACHED
returns-then-region-ge-CACHED c before =
    let none : has_cache c.args.region.now.class ≡ false = grind (arith, nat_tests) in
    rw none (c.give_back.ensures before)
