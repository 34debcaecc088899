use Rattle.std.proofs.Common.{◌≡◌, ◌≤◌, All, None}
use Rattle.size_classes.specs.Sizes.{of_pages}
use Rattle.std.specs.Prelude.{vec_len, vec_capacity}
use Rattle.pool_arena.specs.Places.{PlaceState}
use Rattle.pool_arena.proofs.stock.new_places.Given as goal

abbrev pub invariant-loop : goal.invariant-loop
invariant-loop l =
    record {
      count : vec_len l.places ≡ l.counter;
      room : l.chunks ≤ vec_capacity l.places;
      unused : All (λ (p : PlaceState). (p.geometry ≡ of_pages l.order l.page) × (p.chunk ≡ None)) l.places.items;
    }
