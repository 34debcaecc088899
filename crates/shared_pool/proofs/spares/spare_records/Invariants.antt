use Rattle.std.proofs.Common.{◌≡◌, length}
use Rattle.std.specs.Prelude.{All}
use Rattle.shared_pool.specs.Rooms.{IsSpare}
use Rattle.shared_pool.proofs.spares.spare_records.Given as goal

abbrev pub invariant-loop : goal.invariant-loop
invariant-loop l = record { spare : All IsSpare l.records.items; many : length l.records.items ≡ l.counter }
