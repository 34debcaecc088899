use Rattle.std.proofs.Common.{◌≡◌, ◌+◌, ◌≤◌, ◌++◌, map}
use Rattle.std.specs.Prelude.{reverse, vec_capacity, vec_len}
use Rattle.shared_pool.proofs.dealing.assemble.Given as goal

abbrev pub invariant-loop-seat : goal.invariant-loop-seat
invariant-loop-seat l =
    record {
      first : l.fn.first.items ≡ l.first.items ++ map (λ s. s.seat) (reverse l.seats.items);
      posts : l.fn.posts.items ≡ l.posts.items ++ map (λ s. s.posts) (reverse l.seats.items);
      fetches : l.fn.fetches.items ≡ l.fetches.items ++ map (λ s. s.fetches) (reverse l.seats.items);
      room : vec_len l.first + vec_len l.seats ≤ vec_capacity l.seats;
      same : (vec_len l.posts ≡ vec_len l.first) × (vec_len l.fetches ≡ vec_len l.first);
    }

abbrev pub decreases-loop-seat : goal.decreases-loop-seat
decreases-loop-seat l = vec_len l.first
