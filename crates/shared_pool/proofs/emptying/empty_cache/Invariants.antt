use Rattle.std.specs.Prelude.{◌≡◌, ◌++◌, ℕ, length}
use Rattle.shared_pool.specs.Emptying.{left_of, left_of_cache, AreOut}
use Rattle.shared_pool.proofs.emptying.empty_cache.Given as goal

abbrev pub invariant-loop-region : goal.invariant-loop-region
invariant-loop-region l =
    record {
      len : length l.homes ≡ length l.fn.homes;
      out : (n : ℕ) → AreOut n l.fn.homes (left_of_cache l.fn.cache ++ left_of l.fn.homes) →
          AreOut n l.homes (left_of_cache l.cache ++ left_of l.homes);
    }

abbrev pub decreases-loop-region : goal.decreases-loop-region
decreases-loop-region l = length l.cache.regions
