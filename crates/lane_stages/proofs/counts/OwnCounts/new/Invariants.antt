use Rattle.std.proofs.Common.{◌≡◌, length}
use Rattle.std.specs.Prelude.{All}
use Rattle.lane_stages.proofs.counts.OwnCounts.new.Given as goal

abbrev pub invariant-loop-place : goal.invariant-loop-place
invariant-loop-place l =
    record { places : length l.by_place.items ≡ l.place; none : All (λ c. c.count ≡ 0) l.by_place.items }
