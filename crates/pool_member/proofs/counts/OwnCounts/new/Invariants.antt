use Rattle.std.proofs.Common.{◌≡◌, false, length}
use Rattle.std.specs.Prelude.{All}
use Rattle.pool_member.specs.Counting.{StandInPlace}
use Rattle.pool_member.proofs.counts.OwnCounts.new.Given as goal

abbrev pub invariant-loop-place : goal.invariant-loop-place
invariant-loop-place l =
    record {
      places : length l.by_place.items ≡ l.place;
      none : All (λ c. c.count ≡ 0) l.by_place.items;
      untold : All (λ c. c.told ≡ 0) l.by_place.items;
      alone : All (λ c. c.alone ≡ false) l.by_place.items;
      stand : StandInPlace l.by_place.items;
    }
