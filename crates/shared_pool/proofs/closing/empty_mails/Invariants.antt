use Rattle.std.proofs.Common.{◌≡◌, ℕ, ◌<◌, ◌≤◌, map}
use Rattle.std.specs.Prelude.{HoldsAt}
use Rattle.shared_pool.specs.declared.seat.PoolSeat.{PoolSeat}
use Rattle.shared_pool.specs.Joining.{AreFetchesOf}
use Rattle.shared_pool.proofs.closing.empty_mails.Given as goal

abbrev pub invariant-loop-lane : goal.invariant-loop-lane
invariant-loop-lane g l =
    record {
      same : map (λ (s : PoolSeat). s.seat) l.seats.items ≡ map (λ (s : PoolSeat). s.seat) l.initial.seats.items;
      ends : (k : ℕ) → l.lane ≤ k → k < l.lanes →
          HoldsAt (λ (s : PoolSeat). AreFetchesOf l.mails l.lanes k s.fetches.items) l.seats.items k;
    }
