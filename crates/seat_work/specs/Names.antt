-- Roots by their names.
use Rattle.std.specs.Prelude.{ℕ, Result, Ok, Err}
use Rattle.pool_law.specs.declared.id.RootId.{RootId}
use Rattle.seat_work.specs.declared.allocation.AllocNo.{AllocNo}
use Rattle.seat_work.specs.declared.allocation.Name.{Name}

-- the root of this name with so many bytes, where there is one
abbrev pub of_name : ℕ → Result Name AllocNo → Result RootId AllocNo
of_name size (Ok name) = Ok (record { place = name.place; generation = name.generation; capacity = size })
of_name size (Err why) = Err why
