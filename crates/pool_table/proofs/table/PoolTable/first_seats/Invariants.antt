use Rattle.std.proofs.Common.{◌≡◌, ◌≤◌, ◌<◌, ◌-◌, ℕ, []}
use Rattle.std.specs.Prelude.{vec_len, vec_capacity, HoldsAt, All}
use Rattle.pool_table.specs.Opened.{AreNone}
use Rattle.pool_table.specs.Steps.{rest_view, lane_view}
use Rattle.pool_table.proofs.table.PoolTable.first_seats.Given as goal

abbrev pub invariant-loop-i : goal.invariant-loop-i
invariant-loop-i g l = record {
  rest : l.rest.me ≡ (
    rest_view l.self.layout l.i (l.self.layout.shape.lanes - l.i)
        (g.H.Told.settles l.self.table.shared.key.homes.value.items),
    [],
  );
  own : l.rest.table_id ≡ l.self.table.shared.table_id;
  many : vec_len l.seats ≡ l.i;
  left : vec_len l.counts ≡ l.self.layout.shape.lanes - l.i;
  none : All (λ c. AreNone 16 c.items) l.counts.items;
  room : l.self.layout.shape.lanes ≤ vec_capacity l.seats;
  made : (k : ℕ) → k < l.i → HoldsAt
      (λ s. (s.seat.table_id ≡ l.self.table.shared.table_id)
      × (s.seat.me ≡ (lane_view l.self.layout k (g.H.Told.settles l.self.table.shared.key.homes.value.items), [])))
      l.seats.items k;
}
